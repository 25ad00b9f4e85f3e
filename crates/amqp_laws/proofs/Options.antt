-- The laws of optional forms, and of lists of them.
use Rattle.std.proofs.Common.{◌≡◌, ℕ, Bool, true, false, List, [], ◌∷◌, ◌++◌, length, take, map, Option, None, refl, sym, ap, ap₂, subst, ◌∙◌, arith}
use Rattle.std.specs.Prelude.{is_some}
use Rattle.amqp_types.specs.Levels.{Level, plain, tidy, strict}
use Rattle.amqp_types.specs.Judging.{Judge, took}
use Rattle.amqp_types.specs.Flags.{flag_at}
use Rattle.amqp_types.specs.FormLaws.{IsLawful}
use Rattle.amqp_types.specs.Slots.{Item, number_item, text_item, bytes_item, entries_item, Form, number_form, flags_form}
use Rattle.amqp_types.specs.Slots.{short_string_form, long_string_form, table_form}
use Rattle.amqp_types.specs.SlotJudging.{judge_form}
use Rattle.amqp_types.specs.SlotBytes.{item_count, form_bytes, is_deep_item, is_long_item, any_deep, any_long}
use Rattle.amqp_types.specs.SlotSpelling.{SpellsForm}
use Rattle.amqp_types.specs.Properties.{Property}
use Rattle.amqp_types.specs.PropertyJudging.{first_item, judge_optional, judge_set}
use Rattle.amqp_types.specs.PropertyBytes.{optional_bytes, set_bytes, is_deep_option, is_long_option, any_deep_option, any_long_option}
use Rattle.amqp_types.specs.PropertySpelling.{SpellsOptional, SpellsSet}
use Rattle.amqp_types.specs.PropertyLaws.{gives_one, give_one, SetsAreLawful}
use Rattle.amqp_types.proofs.Lawful.{mapped_lawful, both_lawful}
use Rattle.amqp_laws.proofs.SlotForms.{forms_lawful, form_gives}
use Rattle.amqp_laws.proofs.SlotLaws.{both_true, either, form_is_plain}
use Rattle.amqp_laws.proofs.Masks.{set_flags}
use Rattle.amqp_laws.proofs.Bounded.{neither}

-- what a form that gives one item is written as shows its first item alone
pub first_bytes : (form : Form) → gives_one form ≡ true → (items : List Item) → optional_bytes form (first_item items) ≡ form_bytes form items
unfolding optional_bytes form_bytes
first_bytes (number_form width) one [] = refl
first_bytes (number_form width) one (number_item n ∷ items) = refl
first_bytes (number_form width) one (item ∷ items) = refl
first_bytes short_string_form one [] = refl
first_bytes short_string_form one (text_item text ∷ items) = refl
first_bytes short_string_form one (item ∷ items) = refl
first_bytes long_string_form one [] = refl
first_bytes long_string_form one (bytes_item bytes ∷ items) = refl
first_bytes long_string_form one (item ∷ items) = refl
first_bytes table_form one [] = refl
first_bytes table_form one (entries_item es ∷ items) = refl
first_bytes table_form one (item ∷ items) = refl
first_bytes (flags_form count) one items = absurd cc

-- nothing is read, and nothing written
module _ {A : Type 0} (nothing : A) (judge : Judge A) (Spells : Level → List ℕ → A → Type 0) (canonical : A → List ℕ)
    (judged : (bytes : List ℕ) → judge bytes ≡ took nothing 0) (into : (level : Level) → Spells level [] nothing)
    (only : (level : Level) (bytes : List ℕ) (x : A) → Spells level bytes x → (bytes ≡ []) × (x ≡ nothing)) (none : canonical nothing ≡ []) where
  at : (level : Level) (bytes : List ℕ) (x : A) → bytes ≡ [] → x ≡ nothing → Spells level bytes x
  at level bytes x p q =
      let P : List ℕ → Type 0 = λ bs. Spells level bs x in
      let Q : A → Type 0 = λ y. Spells level [] y in
      subst P (sym p) (subst Q (sym q) (into level))

  again : (level next : Level) (bytes : List ℕ) (x : A) → Spells level bytes x → Spells next bytes x
  again level next bytes x h = let o = only level bytes x h in at next bytes x o.0 o.1

  pub nothing_lawful : IsLawful judge Spells canonical
  nothing_lawful = record {
    exact = record {
      spelled = λ bytes x n fits h.
          let same : took nothing 0 ≡ took x n = sym (judged bytes) ∙ h in
          let is : nothing ≡ x = cc in
          let count : 0 ≡ n = cc in
          (at plain (take n bytes) x (ap (λ (m : ℕ). take m bytes) (sym count)) (sym is), omega (arith, count));
      taken = λ bytes rest x h. let o = only plain bytes x h in judged (bytes ++ rest) ∙ ap₂ (λ a b. took a b) (sym o.1) (sym (ap length o.0));
    };
    strict_is_tidy = again strict tidy;
    tidy_is_plain = again tidy plain;
    one_meaning = λ level bytes x y p q. let a = only level bytes x p in let b = only level bytes y q in a.1 ∙ sym b.1;
    strict_is_canonical = λ bytes x h. let o = only strict bytes x h in o.0 ∙ sym (ap canonical o.1 ∙ none);
    canonical_is_strict = λ bytes x h. let o = only plain bytes x h in at strict (canonical x) x (ap canonical o.1 ∙ none) o.1;
    shortest = λ bytes x h. let o = only plain bytes x h in omega (arith, ap length (ap canonical o.1 ∙ none));
  }

-- ---- one form

optional_lawful : (present : Bool) (form : Form) → gives_one form ≡ true
    → IsLawful (judge_optional present form) (λ level. SpellsOptional level present form) (optional_bytes form)
unfolding judge_optional optional_bytes
optional_lawful true form one =
    mapped_lawful first_item (judge_form form) (λ level. SpellsForm level form)
    (form_bytes form) (optional_bytes form) (forms_lawful form) (first_bytes form one)
optional_lawful false form one =
    nothing_lawful None (judge_optional false form) (λ level. SpellsOptional level false form)
    (optional_bytes form) (λ bytes. refl) (λ level. (refl, refl)) (λ level bytes option h. h) refl

-- ---- lists of them

-- The laws of a form of bytes hold of the properties that a mask says are set, where each gives one item.
pub sets_lawful : SetsAreLawful
unfolding judge_set set_bytes
sets_lawful mask [] one =
    nothing_lawful [] (judge_set mask []) (λ level. SpellsSet level mask []) (set_bytes [])
    (λ bytes. refl) (λ level. (refl, refl)) (λ level bytes options h. h) refl
sets_lawful mask (p ∷ ps) one =
    let b = both_true (gives_one p.form) (give_one ps) one in
    both_lawful (judge_optional (flag_at mask p.bit) p.form) (judge_set mask ps) (λ option options. option ∷ options)
    (λ level. SpellsOptional level (flag_at mask p.bit) p.form) (λ level. SpellsSet level mask ps) (optional_bytes p.form) (set_bytes ps) (set_bytes (p ∷ ps))
    (optional_lawful (flag_at mask p.bit) p.form b.0) (sets_lawful mask ps b.1) (λ bytes option options h. refl)

-- ---- what is there

-- what an optional form gives: an item exactly where it is there, which is neither long nor too deep
record GivesOption (present : Bool) (option : Option Item) : Type 0 where
  there : is_some option ≡ present
  not_deep : is_deep_option option ≡ false
  not_long : is_long_option option ≡ false

-- A form that gives one item has an item count of 1.
pub counted_one : (form : Form) → gives_one form ≡ true → item_count form ≡ 1
counted_one (number_form width) one = refl
counted_one (flags_form count) one = absurd cc
counted_one short_string_form one = refl
counted_one long_string_form one = refl
counted_one table_form one = refl

first_gives : (items : List Item) → length items ≡ 1 → any_deep items ≡ false → any_long items ≡ false → GivesOption true (first_item items)
unfolding is_deep_option is_long_option
first_gives [] count deep long = absurd (omega arith)
first_gives (item ∷ items) count deep long =
    let d = either (is_deep_item item) (any_deep items) deep in
    let l = either (is_long_item item) (any_long items) long in
    record { there = refl; not_deep = d.0; not_long = l.0 }

optional_gives : (level : Level) (present : Bool) (form : Form) (bytes : List ℕ) (option : Option Item)
    → gives_one form ≡ true → SpellsOptional level present form bytes option → GivesOption present option
unfolding is_deep_option is_long_option
optional_gives level true form bytes option one h =
    let g = form_gives form bytes h.thing (form_is_plain level form bytes h.thing h.spelled) in
    subst (GivesOption true) (sym h.made) (first_gives h.thing (g.count ∙ counted_one form one) g.not_deep g.not_long)
optional_gives level false form bytes option one h = subst (GivesOption false) (sym h.1) (record { there = refl; not_deep = refl; not_long = refl })

-- exactly the properties whose bits are set in the mask are there, and none of them is long or too deep
pub record GivesSet (mask : ℕ) (ps : List Property) (options : List (Option Item)) : Type 0 where
  pub there : set_flags mask ps ≡ map is_some options
  pub not_deep : any_deep_option options ≡ false
  pub not_long : any_long_option options ≡ false

-- Properties that are encoded are those whose bits are set in the mask, and none of them is long or too deep.
pub set_gives : (level : Level) (mask : ℕ) (ps : List Property) (bytes : List ℕ) (options : List (Option Item))
    → give_one ps ≡ true → SpellsSet level mask ps bytes options → GivesSet mask ps options
unfolding any_deep_option any_long_option
set_gives level mask [] bytes options one h = subst (GivesSet mask []) (sym h.1) (record { there = refl; not_deep = refl; not_long = refl })
set_gives level mask (p ∷ ps) bytes options one h =
    let b = both_true (gives_one p.form) (give_one ps) one in
    let first = optional_gives level (flag_at mask p.bit) p.form h.front h.one b.0 h.first_is in
    let others = set_gives level mask ps h.behind h.two b.1 h.second_is in
    subst (GivesSet mask (p ∷ ps)) (sym h.joined) (record {
      there = ap₂ (λ (x : Bool) (xs : List Bool). x ∷ xs) (sym first.there) others.there;
      not_deep = neither (is_deep_option h.one) (any_deep_option h.two) first.not_deep others.not_deep;
      not_long = neither (is_long_option h.one) (any_long_option h.two) first.not_long others.not_long;
    })

-- two masks in which the same properties are set
pub same_set : (level : Level) (mask other : ℕ) (ps : List Property) (bytes : List ℕ) (options : List (Option Item))
    → set_flags mask ps ≡ set_flags other ps → SpellsSet level mask ps bytes options → SpellsSet level other ps bytes options
same_set level mask other [] bytes options same h = h
same_set level mask other (p ∷ ps) bytes options same h =
    let first : flag_at mask p.bit ≡ flag_at other p.bit = cc in
    let others : set_flags mask ps ≡ set_flags other ps = cc in
    let P : Bool → Type 0 = λ present. SpellsOptional level present p.form h.front h.one in
    record {
      front = h.front;
      behind = h.behind;
      one = h.one;
      two = h.two;
      bytes_are = h.bytes_are;
      first_is = subst P first h.first_is;
      second_is = same_set level mask other ps h.behind h.two others h.second_is;
      joined = h.joined;
    }
