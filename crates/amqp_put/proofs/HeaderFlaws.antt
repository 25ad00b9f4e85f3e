-- The options and the flaws of what was written are those of the properties: numbers have no flaw.
use Rattle.std.proofs.Common.{◌≡◌, ℕ, Bool, true, false, List, [], ◌∷◌, Option, Some, None, is_some, map, ◌<◌, ◌^◌, Result, refl, sym, ap, subst, ◌∙◌}
use Rattle.amqp_types.specs.Flags.{flag_at}
use Rattle.amqp_types.specs.Slots.{Item, number_item, text_item}
use Rattle.amqp_types.specs.Properties.{properties, later_properties}
use Rattle.amqp_types.specs.PropertyBytes.{mask_of}
use Rattle.amqp_laws.proofs.Masks.{set_flags, mask_is, mask_of-flags}
use Rattle.amqp_wire.specs.Frames.{Head}
use Rattle.amqp_entries.specs.Flaws.{text_flaw}
use Rattle.amqp_put.specs.Flaws.{first_flaw}
use Rattle.amqp_put.specs.Headers.{header_with, set_flaw, table_flaw, options_of, flaw_of, masked_options, masked_flaw}
use Rattle.amqp_put.specs.MadeFrames.{MakesFrame}
use Rattle.amqp_put.specs.Properties.{where_some, if_set, flaw_if}
use Rattle.amqp_entries.specs.declared.errors.PutError.{PutError}
use Rattle.amqp_put.specs.declared.headers.Properties.{Properties}
use Rattle.amqp_put.specs.declared.headers.MaskedProperties.{MaskedProperties}

none_where : (o : Option ℕ) → where_some {B = Option PutError} None (λ _. None) o ≡ None
none_where None = refl
none_where (Some n) = refl

none_if : (set : Bool) → flaw_if set None ≡ None
none_if true = refl
none_if false = refl

-- the flaws of 14 properties, of which three have none
abbrev pub walk_flaw : (type encoding headers mode priority correlation reply expiration id time kind user app cluster : Option PutError) → Option PutError
walk_flaw type encoding headers mode priority correlation reply expiration id time kind user app cluster =
    first_flaw (type ∷ encoding ∷ headers ∷ mode ∷ priority ∷ correlation ∷ reply ∷ expiration ∷ id ∷ time ∷ kind ∷ user ∷ app ∷ cluster ∷ [])

without : (type encoding headers mode priority correlation reply expiration id time kind user app cluster : Option PutError) → mode ≡ None → priority ≡ None
    → time ≡ None
    → walk_flaw type encoding headers mode priority correlation reply expiration id time kind user app cluster
    ≡ first_flaw (type ∷ encoding ∷ headers ∷ correlation ∷ reply ∷ expiration ∷ id ∷ kind ∷ user ∷ app ∷ cluster ∷ [])
without type encoding headers mode priority correlation reply expiration id time kind user app cluster a b c = rw (a, b, c) refl

abbrev no_number : Option ℕ → Option PutError
no_number = where_some None (λ _. None)

-- the flaws of the properties, those of numbers among them
abbrev pub flaws_of : Properties → Option PutError
flaws_of p =
    walk_flaw
    (set_flaw p.content_type)
    (set_flaw p.content_encoding)
    (where_some None table_flaw p.headers)
    (no_number p.delivery_mode)
    (no_number p.priority)
    (set_flaw p.correlation_id)
    (set_flaw p.reply_to)
    (set_flaw p.expiration)
    (set_flaw p.message_id)
    (no_number p.timestamp)
    (set_flaw p.kind)
    (set_flaw p.user_id)
    (set_flaw p.app_id)
    (set_flaw p.cluster_id)

flaws_are : (p : Properties) → flaws_of p ≡ flaw_of p
flaws_are p =
    without (set_flaw p.content_type) (set_flaw p.content_encoding) (where_some None table_flaw p.headers) _ _ (set_flaw p.correlation_id) (set_flaw p.reply_to)
    (set_flaw p.expiration) (set_flaw p.message_id) _ (set_flaw p.kind) (set_flaw p.user_id) (set_flaw p.app_id) (set_flaw p.cluster_id)
    (none_where p.delivery_mode) (none_where p.priority) (none_where p.timestamp)

-- the flaws that a walk meets are those of the properties that may have one
pub given_made : (p : Properties) (old new : List ℕ) (max channel class body_size : ℕ) (result : Result ℕ PutError)
    → MakesFrame old new max (Head channel (header_with class body_size (options_of p))) (flaws_of p) result
    → MakesFrame old new max (Head channel (header_with class body_size (options_of p))) (flaw_of p) result
given_made p old new max channel class body_size result made =
    let P : Option PutError → Type 0 = λ o. MakesFrame old new max (Head channel (header_with class body_size (options_of p))) o result in
    subst P (flaws_are p) made

-- the options of flags and texts
abbrev pub walk_options : (p : MaskedProperties) (headers : Item) (s15 s14 s13 s12 s11 s10 s9 s8 s7 s6 s5 s4 s3 s2 : Bool)
    (t15 t14 t10 t9 t8 t7 t5 t4 t3 t2 : List ℕ) → List (Option Item)
walk_options p headers s15 s14 s13 s12 s11 s10 s9 s8 s7 s6 s5 s4 s3 s2 t15 t14 t10 t9 t8 t7 t5 t4 t3 t2 =
    if_set s15 (text_item t15) ∷
    if_set s14 (text_item t14) ∷
    if_set s13 headers ∷
    if_set s12 (number_item p.delivery_mode) ∷
    if_set s11 (number_item p.priority) ∷
    if_set s10 (text_item t10) ∷
    if_set s9 (text_item t9) ∷
    if_set s8 (text_item t8) ∷
    if_set s7 (text_item t7) ∷
    if_set s6 (number_item p.timestamp) ∷
    if_set s5 (text_item t5) ∷
    if_set s4 (text_item t4) ∷
    if_set s3 (text_item t3) ∷
    if_set s2 (text_item t2) ∷
    []

options_are : (p : MaskedProperties) (headers : Item) (s15 s14 s13 s12 s11 s10 s9 s8 s7 s6 s5 s4 s3 s2 : Bool) (t15 t14 t10 t9 t8 t7 t5 t4 t3 t2 : List ℕ)
    → s15 ≡ flag_at p.mask 15 → t15 ≡ p.content_type.now
    → s14 ≡ flag_at p.mask 14 → t14 ≡ p.content_encoding.now
    → s13 ≡ flag_at p.mask 13
    → s12 ≡ flag_at p.mask 12
    → s11 ≡ flag_at p.mask 11
    → s10 ≡ flag_at p.mask 10 → t10 ≡ p.correlation_id.now
    → s9 ≡ flag_at p.mask 9 → t9 ≡ p.reply_to.now
    → s8 ≡ flag_at p.mask 8 → t8 ≡ p.expiration.now
    → s7 ≡ flag_at p.mask 7 → t7 ≡ p.message_id.now
    → s6 ≡ flag_at p.mask 6
    → s5 ≡ flag_at p.mask 5 → t5 ≡ p.kind.now
    → s4 ≡ flag_at p.mask 4 → t4 ≡ p.user_id.now
    → s3 ≡ flag_at p.mask 3 → t3 ≡ p.app_id.now
    → s2 ≡ flag_at p.mask 2 → t2 ≡ p.cluster_id.now
    → walk_options p headers s15 s14 s13 s12 s11 s10 s9 s8 s7 s6 s5 s4 s3 s2 t15 t14 t10 t9 t8 t7 t5 t4 t3 t2 ≡ masked_options p headers
options_are p headers s15 s14 s13 s12 s11 s10 s9 s8 s7 s6 s5 s4 s3 s2 t15 t14 t10 t9 t8 t7 t5 t4 t3 t2 h15 i15 h14 i14 h13 h12 h11 h10 i10 h9 i9 h8 i8 h7 i7 h6
    h5 i5 h4 i4 h3 i3 h2 i2 = rw (h15, i15, h14, i14, h13, h12, h11, h10, i10, h9, i9, h8, i8, h7, i7, h6, h5, i5, h4, i4, h3, i3, h2, i2) refl

some_if : (set : Bool) (item : Item) → is_some (if_set set item) ≡ set
some_if true item = refl
some_if false item = refl

are_set : (p : MaskedProperties) (headers : Item) → set_flags p.mask properties ≡ map is_some (masked_options p headers)
unfolding properties later_properties
are_set p headers = rw (
  some_if (flag_at p.mask 15) _,
  some_if (flag_at p.mask 14) _,
  some_if (flag_at p.mask 13) _,
  some_if (flag_at p.mask 12) _,
  some_if
      (flag_at p.mask 11) _,
  some_if (flag_at p.mask 10) _,
  some_if (flag_at p.mask 9) _,
  some_if (flag_at p.mask 8) _,
  some_if (flag_at p.mask 7) _,
  some_if
      (flag_at p.mask 6) _,
  some_if (flag_at p.mask 5) _,
  some_if (flag_at p.mask 4) _,
  some_if (flag_at p.mask 3) _,
  some_if (flag_at p.mask 2) _,
) refl

mask_all : (p : MaskedProperties) (headers : Item) → p.mask < 2 ^ 16 → flag_at p.mask 1 ≡ false → flag_at p.mask 0 ≡ false
    → p.mask ≡ mask_of properties (masked_options p headers)
mask_all p headers fits second lowest =
    mask_is p.mask (map is_some (masked_options p headers)) (record { fits = fits; lowest = lowest; second = second; set = are_set p headers })
    ∙ sym (mask_of-flags properties (masked_options p headers))

-- the mask is that of the properties it says are set
pub masked_mask : (p : MaskedProperties) (headers : Item) (s15 s14 s13 s12 s11 s10 s9 s8 s7 s6 s5 s4 s3 s2 : Bool) (t15 t14 t10 t9 t8 t7 t5 t4 t3 t2 : List ℕ)
    → p.mask < 2 ^ 16 → flag_at p.mask 1 ≡ false → flag_at p.mask 0 ≡ false
    → s15 ≡ flag_at p.mask 15 → t15 ≡ p.content_type.now
    → s14 ≡ flag_at p.mask 14 → t14 ≡ p.content_encoding.now
    → s13 ≡ flag_at p.mask 13
    → s12 ≡ flag_at p.mask 12
    → s11 ≡ flag_at p.mask 11
    → s10 ≡ flag_at p.mask 10 → t10 ≡ p.correlation_id.now
    → s9 ≡ flag_at p.mask 9 → t9 ≡ p.reply_to.now
    → s8 ≡ flag_at p.mask 8 → t8 ≡ p.expiration.now
    → s7 ≡ flag_at p.mask 7 → t7 ≡ p.message_id.now
    → s6 ≡ flag_at p.mask 6
    → s5 ≡ flag_at p.mask 5 → t5 ≡ p.kind.now
    → s4 ≡ flag_at p.mask 4 → t4 ≡ p.user_id.now
    → s3 ≡ flag_at p.mask 3 → t3 ≡ p.app_id.now
    → s2 ≡ flag_at p.mask 2 → t2 ≡ p.cluster_id.now
    → p.mask ≡ mask_of properties (walk_options p headers s15 s14 s13 s12 s11 s10 s9 s8 s7 s6 s5 s4 s3 s2 t15 t14 t10 t9 t8 t7 t5 t4 t3 t2)
masked_mask p headers s15 s14 s13 s12 s11 s10 s9 s8 s7 s6 s5 s4 s3 s2 t15 t14 t10 t9 t8 t7 t5 t4 t3 t2 fits second lowest h15 i15 h14 i14 h13 h12 h11 h10 i10 h9
    i9 h8 i8 h7 i7 h6 h5 i5 h4 i4 h3 i3 h2 i2 =
    mask_all p headers fits second lowest ∙ ap (mask_of properties)
    (sym (options_are p headers s15 s14 s13 s12 s11 s10 s9 s8 s7 s6 s5 s4 s3 s2 t15 t14 t10 t9 t8 t7 t5 t4 t3 t2 h15 i15 h14 i14 h13 h12 h11 h10 i10 h9 i9 h8 i8
    h7 i7 h6 h5 i5 h4 i4 h3 i3 h2 i2))

-- with flags and texts that are those of the mask and of the fields
pub masked_made : (p : MaskedProperties) (old new : List ℕ) (max channel class body_size : ℕ) (headers : Item) (flaw : Option PutError)
    (result : Result ℕ PutError)
    (s15 s14 s13 s12 s11 s10 s9 s8 s7 s6 s5 s4 s3 s2 : Bool) (t15 t14 t10 t9 t8 t7 t5 t4 t3 t2 : List ℕ)
    → s15 ≡ flag_at p.mask 15 → t15 ≡ p.content_type.now
    → s14 ≡ flag_at p.mask 14 → t14 ≡ p.content_encoding.now
    → s13 ≡ flag_at p.mask 13
    → s12 ≡ flag_at p.mask 12
    → s11 ≡ flag_at p.mask 11
    → s10 ≡ flag_at p.mask 10 → t10 ≡ p.correlation_id.now
    → s9 ≡ flag_at p.mask 9 → t9 ≡ p.reply_to.now
    → s8 ≡ flag_at p.mask 8 → t8 ≡ p.expiration.now
    → s7 ≡ flag_at p.mask 7 → t7 ≡ p.message_id.now
    → s6 ≡ flag_at p.mask 6
    → s5 ≡ flag_at p.mask 5 → t5 ≡ p.kind.now
    → s4 ≡ flag_at p.mask 4 → t4 ≡ p.user_id.now
    → s3 ≡ flag_at p.mask 3 → t3 ≡ p.app_id.now
    → s2 ≡ flag_at p.mask 2 → t2 ≡ p.cluster_id.now
    → MakesFrame old new max (Head channel (header_with class body_size
    (walk_options p headers s15 s14 s13 s12 s11 s10 s9 s8 s7 s6 s5 s4 s3 s2 t15 t14 t10 t9 t8 t7 t5 t4 t3 t2)))
    (walk_flaw
    (flaw_if s15 (text_flaw t15))
    (flaw_if s14 (text_flaw t14))
    (flaw_if s13 flaw)
    (flaw_if s12 None)
    (flaw_if s11 None)
    (flaw_if s10 (text_flaw t10))
    (flaw_if s9 (text_flaw t9))
    (flaw_if s8 (text_flaw t8))
    (flaw_if s7 (text_flaw t7))
    (flaw_if s6 None)
    (flaw_if s5 (text_flaw t5))
    (flaw_if s4 (text_flaw t4))
    (flaw_if s3 (text_flaw t3))
    (flaw_if s2 (text_flaw t2)))
    result
    → MakesFrame old new max (Head channel (header_with class body_size (masked_options p headers))) (masked_flaw p flaw) result
masked_made p old new max channel class body_size headers flaw result s15 s14 s13 s12 s11 s10 s9 s8 s7 s6 s5 s4 s3 s2 t15 t14 t10 t9 t8 t7 t5 t4 t3 t2 h15 i15
    h14 i14 h13 h12 h11 h10 i10 h9 i9 h8 i8 h7 i7 h6 h5 i5 h4 i4 h3 i3 h2 i2 made =
    let text_if : ℕ → List ℕ → Option PutError = λ bit text. flaw_if (flag_at p.mask bit) (text_flaw text) in
    let none = without (text_if 15 p.content_type.now) (text_if 14 p.content_encoding.now) (flaw_if (flag_at p.mask 13) flaw) _ _
    (text_if 10 p.correlation_id.now) (text_if 9 p.reply_to.now) (text_if 8 p.expiration.now) (text_if 7 p.message_id.now) _ (text_if 5 p.kind.now)
    (text_if 4 p.user_id.now) (text_if 3 p.app_id.now) (text_if 2 p.cluster_id.now) (none_if (flag_at p.mask 12)) (none_if (flag_at p.mask 11))
    (none_if (flag_at p.mask 6)) in
    let P : Option PutError → Type 0 = λ o. MakesFrame old new max (Head channel (header_with class body_size (masked_options p headers))) o result in
    subst P none (rw (h15, i15, h14, i14, h13, h12, h11, h10, i10, h9, i9, h8, i8, h7, i7, h6, h5, i5, h4, i4, h3, i3, h2, i2) at made)
