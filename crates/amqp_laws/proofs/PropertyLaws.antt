-- The laws of properties.
use Rattle.std.proofs.Common.{◌≡◌, ℕ, suc, ◌+◌, ◌≤◌, Bool, true, false, ◌||◌, List, [], ◌∷◌, ◌++◌, length, take, drop, map, Option, Some, None, refl, sym, ap}
use Rattle.std.proofs.Common.{ap₂, subst, ◌∙◌, append_assoc, arith}
use Rattle.std.specs.Prelude.{is_some}
use Rattle.std.proofs.lemmas.List.{length-append, length-drop, drop_at}
use Rattle.std.proofs.Math.Seq.{take-add}
use Rattle.amqp_types.specs.Levels.{Level, plain, tidy, strict}
use Rattle.amqp_types.specs.Judging.{took, ◌>>=◌, IsBytes, IsExact}
use Rattle.amqp_types.specs.Numbers.{bytes2, number_bytes, judge_number}
use Rattle.amqp_types.specs.Flags.{flag_at}
use Rattle.amqp_types.specs.FormLaws.{IsLawful}
use Rattle.amqp_types.specs.Slots.{Item}
use Rattle.amqp_types.specs.SlotBytes.{form_bytes, is_deep_item, is_long_item}
use Rattle.amqp_types.specs.Properties.{Property, properties, later_properties}
use Rattle.amqp_types.specs.PropertyJudging.{judge_set, judge_properties}
use Rattle.amqp_types.specs.PropertyBytes.{mask_of, optional_bytes, set_bytes, properties_bytes, properties_size, is_deep_option, is_long_option}
use Rattle.amqp_types.specs.PropertyBytes.{any_deep_option, any_long_option}
use Rattle.amqp_types.specs.PropertySpelling.{SpellsOptional, SpellsSet, SpellsProperties}
use Rattle.amqp_types.specs.PropertyLaws.{give_one, PropertiesAreLawful, SpelledPropertiesAreBounded, AreOptionsHeld, HeldPropertiesAreReadBack}
use Rattle.amqp_types.proofs.Bytes.{IsBytes-drop}
use Rattle.amqp_types.proofs.Took.{bind_took, value_took, count_took}
use Rattle.amqp_types.proofs.Numbers.{number_exact, number_bytes-length}
use Rattle.amqp_types.proofs.FormLaws.{is_plain, one_at_each}
use Rattle.amqp_laws.proofs.SlotLaws.{either}
use Rattle.amqp_laws.proofs.SlotsHeld.{form_held}
use Rattle.amqp_laws.proofs.ValueLaws.{sized}
use Rattle.amqp_laws.proofs.Masks.{set_flags, flags_mask, mask_of-flags, IsMaskOf, flags_mask_is, mask_is}
use Rattle.amqp_laws.proofs.Options.{sets_lawful, set_gives, same_set}

-- the fact on the table: each property gives one item
pub one_each : give_one properties ≡ true
unfolding properties later_properties
one_each = refl

count_is : (mask : ℕ) → length (set_flags mask properties) ≡ 14
unfolding properties later_properties
count_is mask = refl

set_law : (mask : ℕ) → IsLawful (judge_set mask properties) (λ level. SpellsSet level mask properties) (set_bytes properties)
set_law mask = sets_lawful mask properties one_each

-- ---- exactly what is encoded is taken

properties_spelled : (bytes : List ℕ) (options : List (Option Item)) (n : ℕ) → IsBytes bytes
    → judge_properties bytes ≡ took options n → SpellsProperties plain (take n bytes) options × (n ≤ length bytes)
unfolding judge_properties
properties_spelled bytes options n fits h =
    let mask = bind_took (judge_number bytes2 bytes) _ options n h in
    let behind = drop mask.1 bytes in
    let set = bind_took (judge_set mask.0 properties behind) _ options n mask.3 in
    let number = number_exact bytes2 in
    let first = number.spelled bytes mask.0 mask.1 fits mask.2 in
    let law = set_law mask.0 in
    let others = law.exact.spelled behind set.0 set.1 (IsBytes-drop mask.1 bytes fits) set.2 in
    let is : set.0 ≡ options = value_took _ options _ n set.3 in
    let count : mask.1 + set.1 ≡ n = count_took _ options _ n set.3 in
    let P : List (Option Item) → Type 0 = λ xs. SpellsSet plain mask.0 properties (take set.1 behind) xs in (
      record {
        mask = mask.0;
        behind = take set.1 behind;
        fits = first.0.fits;
        bytes_are = ap (λ m. take m bytes) (sym count) ∙ take-add mask.1 set.1 bytes ∙ ap (λ bs. bs ++ take set.1 behind) first.0.bytes_are;
        set = subst P is others.0;
        unused = tt;
      },
      omega (arith, first.1, others.1, length-drop mask.1 bytes, count),
    )

properties_taken : (bytes rest : List ℕ) (options : List (Option Item))
    → SpellsProperties plain bytes options → judge_properties (bytes ++ rest) ≡ took options (length bytes)
unfolding judge_properties
properties_taken bytes rest options h =
    let front = number_bytes bytes2 h.mask in
    let tail = h.behind ++ rest in
    let all : bytes ++ rest ≡ front ++ tail = ap (λ bs. bs ++ rest) h.bytes_are ∙ append_assoc front h.behind rest in
    let number = number_exact bytes2 in
    let law = set_law h.mask in
    let size : length front ≡ 2 = number_bytes-length bytes2 h.mask in
    let one : judge_number bytes2 (front ++ tail) ≡ took h.mask (length front) = number.taken front tail h.mask (record { fits = h.fits; bytes_are = refl }) in
    let two : judge_set h.mask properties (drop (length front) (front ++ tail)) ≡ took options (length h.behind) =
    ap (judge_set h.mask properties) (drop_at front tail (length front) refl) ∙ law.exact.taken h.behind rest options h.set in
    let count : length front + length h.behind ≡ length bytes = sym (ap length h.bytes_are ∙ length-append front h.behind) in
    ap judge_properties all
    ∙ ap (λ j. j >>= λ m. judge_set m.0 properties (drop m.1 (front ++ tail)) >>= λ x. took x.0 (m.1 + x.1)) one
    ∙ ap (λ j. j >>= λ x. took x.0 (length front + x.1)) two ∙ ap (λ m. took options m) count

properties_exact : IsExact judge_properties (SpellsProperties plain)
properties_exact = record { spelled = properties_spelled; taken = properties_taken }

-- ---- levels

strict_is_tidy : (bytes : List ℕ) (options : List (Option Item)) → SpellsProperties strict bytes options → SpellsProperties tidy bytes options
strict_is_tidy bytes options h =
    let law = set_law h.mask in
    record { mask = h.mask; behind = h.behind; fits = h.fits; bytes_are = h.bytes_are; set = law.strict_is_tidy h.behind options h.set; unused = h.unused }

tidy_is_plain : (bytes : List ℕ) (options : List (Option Item)) → SpellsProperties tidy bytes options → SpellsProperties plain bytes options
tidy_is_plain bytes options h =
    let law = set_law h.mask in
    record { mask = h.mask; behind = h.behind; fits = h.fits; bytes_are = h.bytes_are; set = law.tidy_is_plain h.behind options h.set; unused = tt }

-- ---- the canonical bytes

-- the mask of the properties that are set has their flags
mask_flags_are : (level : Level) (mask : ℕ) (bytes : List ℕ) (options : List (Option Item))
    → SpellsSet level mask properties bytes options → IsMaskOf (mask_of properties options) (set_flags mask properties)
mask_flags_are level mask bytes options h =
    let gives = set_gives level mask properties bytes options one_each h in
    let P : ℕ → Type 0 = λ m. IsMaskOf m (set_flags mask properties) in
    subst P (sym (mask_of-flags properties options ∙ ap (flags_mask properties) (sym gives.there))) (flags_mask_is (set_flags mask properties) (count_is mask))

canonical_is_strict : (bytes : List ℕ) (options : List (Option Item))
    → SpellsProperties plain bytes options → SpellsProperties strict (properties_bytes options) options
unfolding properties_bytes form_bytes
canonical_is_strict bytes options h =
    let law = set_law h.mask in
    let is = mask_flags_are plain h.mask h.behind options h.set in
    record {
      mask = mask_of properties options;
      behind = set_bytes properties options;
      fits = is.fits;
      bytes_are = refl;
      set =
          same_set strict h.mask (mask_of properties options) properties
          (set_bytes properties options) options (sym is.set) (law.canonical_is_strict h.behind options h.set);
      unused = (is.second, is.lowest);
    }

strict_is_canonical : (bytes : List ℕ) (options : List (Option Item)) → SpellsProperties strict bytes options → bytes ≡ properties_bytes options
unfolding properties_bytes form_bytes
strict_is_canonical bytes options h =
    let law = set_law h.mask in
    let gives = set_gives strict h.mask properties h.behind options one_each h.set in
    let mask_same : h.mask ≡ mask_of properties options =
    mask_is h.mask (set_flags h.mask properties) (record { fits = h.fits; lowest = h.unused.1; second = h.unused.0; set = refl })
    ∙ ap (flags_mask properties) gives.there ∙ sym (mask_of-flags properties options) in
    h.bytes_are ∙ ap₂ (λ m bs. number_bytes bytes2 m ++ bs) mask_same (law.strict_is_canonical h.behind options h.set)

shortest : (bytes : List ℕ) (options : List (Option Item)) → SpellsProperties plain bytes options → length (properties_bytes options) ≤ length bytes
unfolding properties_bytes form_bytes
shortest bytes options h =
    let law = set_law h.mask in
    let mask = mask_of properties options in
    omega (
      arith,
      ap length h.bytes_are,
      length-append (number_bytes bytes2 h.mask) h.behind,
      number_bytes-length bytes2 h.mask,
      length-append (number_bytes bytes2 mask) (set_bytes properties options),
      number_bytes-length bytes2 mask,
      law.shortest h.behind options h.set,
    )

-- The laws of a form of bytes hold of a mask and the properties that it says are set.
pub properties_lawful : PropertiesAreLawful
properties_lawful = record {
  exact = properties_exact;
  strict_is_tidy = strict_is_tidy;
  tidy_is_plain = tidy_is_plain;
  one_meaning = one_at_each judge_properties SpellsProperties properties_exact (is_plain SpellsProperties strict_is_tidy tidy_is_plain);
  strict_is_canonical = strict_is_canonical;
  canonical_is_strict = canonical_is_strict;
  shortest = shortest;
}

-- Properties that are encoded are neither long nor too deep.
pub properties_bounded : SpelledPropertiesAreBounded
properties_bounded level bytes options h =
    let gives = set_gives level h.mask properties h.behind options one_each h.set in
    (gives.not_deep, gives.not_long)

-- ---- what programs hold

held_count : (ps : List Property) (options : List (Option Item)) → AreOptionsHeld ps options → length (map is_some options) ≡ length ps
held_count [] [] h = refl
held_count [] (option ∷ options) h = absurd h
held_count (p ∷ ps) [] h = absurd h
held_count (p ∷ ps) (None ∷ options) h = ap suc (held_count ps options h)
held_count (p ∷ ps) (Some item ∷ options) h = ap suc (held_count ps options h.1)

beside : (a : Bool) → a ≡ false → (a || false) ≡ false
beside true h = h
beside false h = refl

set_held : (mask : ℕ) (ps : List Property) (options : List (Option Item)) → set_flags mask ps ≡ map is_some options
    → AreOptionsHeld ps options → any_deep_option options ≡ false → any_long_option options ≡ false
    → SpellsSet strict mask ps (set_bytes ps options) options
unfolding set_bytes optional_bytes any_deep_option any_long_option is_deep_option is_long_option
set_held mask [] [] set h deep long = (refl, refl)
set_held mask [] (option ∷ options) set h deep long = absurd h
set_held mask (p ∷ ps) [] set h deep long = absurd h
set_held mask (p ∷ ps) (None ∷ options) set h deep long =
    let first : false ≡ flag_at mask p.bit = cc in
    let others : set_flags mask ps ≡ map is_some options = cc in
    let P : Bool → Type 0 = λ present. SpellsOptional strict present p.form [] None in
    record {
      front = [];
      behind = set_bytes ps options;
      one = None;
      two = options;
      bytes_are = refl;
      first_is = subst P first (refl, refl);
      second_is = set_held mask ps options others h deep long;
      joined = refl;
    }
set_held mask (p ∷ ps) (Some item ∷ options) set h deep long =
    let first : true ≡ flag_at mask p.bit = cc in
    let others : set_flags mask ps ≡ map is_some options = cc in
    let d = either (is_deep_item item) (any_deep_option options) deep in
    let l = either (is_long_item item) (any_long_option options) long in
    let P : Bool → Type 0 = λ present. SpellsOptional strict present p.form (form_bytes p.form (item ∷ [])) (Some item) in
    record {
      front = form_bytes p.form (item ∷ []);
      behind = set_bytes ps options;
      one = Some item;
      two = options;
      bytes_are = refl;
      first_is = subst P first (record {
        thing = item ∷ [];
        spelled = form_held p.form (item ∷ []) h.0 (beside (is_deep_item item) d.0) (beside (is_long_item item) l.0);
        made = refl;
      });
      second_is = set_held mask ps options others h.1 d.1 l.1;
      joined = refl;
    }

count_of_table : length properties ≡ 14
unfolding properties later_properties
count_of_table = refl

-- The canonical bytes of properties that are neither long nor too deep encode them strictly.
pub properties_held : (options : List (Option Item)) → AreOptionsHeld properties options → any_deep_option options ≡ false
    → any_long_option options ≡ false → SpellsProperties strict (properties_bytes options) options
unfolding properties_bytes form_bytes
properties_held options h deep long =
    let flags = map is_some options in
    let P : ℕ → Type 0 = λ m. IsMaskOf m flags in
    let is = subst P (sym (mask_of-flags properties options)) (flags_mask_is flags (held_count properties options h ∙ count_of_table)) in
    record {
      mask = mask_of properties options;
      behind = set_bytes properties options;
      fits = is.fits;
      bytes_are = refl;
      set = set_held (mask_of properties options) properties options is.set h deep long;
      unused = (is.second, is.lowest);
    }

-- Canonical bytes of properties that are neither long nor too deep are read back, whatever follows.
pub properties_read_back : HeldPropertiesAreReadBack
unfolding properties_size
properties_read_back options rest h size =
    let ok = sized (any_deep_option options) (any_long_option options) (properties_bytes options) size in
    let bytes = properties_bytes options in
    let spelled = properties_held options h ok.0 ok.1 in
    properties_taken bytes rest options (tidy_is_plain bytes options (strict_is_tidy bytes options spelled))
