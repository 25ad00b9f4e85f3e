-- Fields, one after another.
use Rattle.std.proofs.Common.{◌≡◌, ℕ, ◌+◌, ◌<◌, ◌≤◌, Bool, true, false, if◌then◌else◌, List, ◌∷◌, ◌++◌, length, Ok, Err, refl, sym, ap, subst, ◌∙◌, arith}
use Rattle.std.proofs.lemmas.List.{length-append, nil_from_length}
use Rattle.amqp_types.specs.Sizes.{measured}
use Rattle.amqp_types.specs.Writing.{Puts}
use Rattle.amqp_types.specs.declared.errors.GenError.{GenError}
use Rattle.amqp_types.specs.declared.errors.GenError.TheVariants as errors
use Rattle.amqp_types.proofs.Puts.{puts_then, puts_none}
use Rattle.amqp_values.specs.declared.fields.Field.{Field}
use Rattle.amqp_values.specs.Fields.{field_bytes, fields_bytes, is_deep_field, is_long_field, any_deep_field, any_long_field, fields_size, fields_size_after}

-- a size that is measured is that of what is neither too deep nor too long
measured_ok : (deep long : Bool) (bytes : List ℕ) (n : ℕ) → Ok n ≡ measured deep long bytes → (deep ≡ false) × (long ≡ false) × (n ≡ length bytes)
measured_ok true long bytes n e = absurd cc
measured_ok false true bytes n e = absurd cc
measured_ok false false bytes n e = (refl, refl, cc)

measured_deep : (deep long : Bool) (bytes : List ℕ) (error : GenError) → (error ≡ errors.TooLong → ⊥) → Err error ≡ measured deep long bytes
    → (deep ≡ true) × (error ≡ errors.TooDeep)
measured_deep true long bytes error not e = (refl, cc)
measured_deep false true bytes error not e = absurd (not cc)
measured_deep false false bytes error not e = absurd cc

measured_long : (deep long : Bool) (bytes : List ℕ) → Err errors.TooLong ≡ measured deep long bytes → (deep ≡ false) × (long ≡ true)
measured_long true long bytes e = absurd cc
measured_long false true bytes e = (refl, refl)
measured_long false false bytes e = absurd cc

-- No fields after one that is too long are too long.
pub size_none_long : (before : ℕ) (long : Bool) (fields : List Field) → long ≡ true → length fields < 1
    → Err errors.TooLong ≡ fields_size_after before long fields
unfolding fields_size_after any_deep_field any_long_field fields_bytes
size_none_long before long fields is none = rw (is, nil_from_length fields (omega (arith, none))) refl

-- No fields add nothing.
pub size_none_short : (before : ℕ) (long : Bool) (fields : List Field) → long ≡ false → length fields < 1
    → Ok before ≡ fields_size_after before long fields
unfolding fields_size_after any_deep_field any_long_field fields_bytes
size_none_short before long fields is none = rw (is, nil_from_length fields (omega (arith, none))) (ap Ok (omega arith))

-- A field that is measured adds its size to that before those after it.
pub size_more : (before n : ℕ) (long : Bool) (fields rest : List Field) (first : Field) → fields ≡ first ∷ rest
    → Ok n ≡ measured (is_deep_field first) (is_long_field first) (field_bytes first)
    → fields_size_after (before + n) long rest ≡ fields_size_after before long fields
unfolding fields_size_after any_deep_field any_long_field fields_bytes
size_more before n long fields rest first split is =
    let m = measured_ok (is_deep_field first) (is_long_field first) (field_bytes first) n is in
    let sum : before + n + length (fields_bytes rest) ≡ before + length (field_bytes first ++ fields_bytes rest) =
    omega (arith, m.2, length-append (field_bytes first) (fields_bytes rest)) in
    rw (split, m.0, m.1, sum) refl

size_deep_first : (before : ℕ) (long : Bool) (rest : List Field) (first : Field) → is_deep_field first ≡ true
    → Err errors.TooDeep ≡ fields_size_after before long (first ∷ rest)
unfolding fields_size_after any_deep_field
size_deep_first before long rest first deep = rw deep refl

-- A field that nests too deep makes all of them too deep.
pub size_deep : (before : ℕ) (long : Bool) (fields rest : List Field) (first : Field) (error : GenError) → fields ≡ first ∷ rest
    → (error ≡ errors.TooLong → ⊥) → Err error ≡ measured (is_deep_field first) (is_long_field first) (field_bytes first)
    → Err error ≡ fields_size_after before long fields
size_deep before long fields rest first error split not is =
    let m = measured_deep (is_deep_field first) (is_long_field first) (field_bytes first) error not is in
    let P : List Field → Type 0 = λ xs. Err error ≡ fields_size_after before long xs in
    subst P (sym split) (ap Err m.1 ∙ size_deep_first before long rest first m.0)

size_long_first : (before : ℕ) (long : Bool) (rest : List Field) (first : Field) → is_deep_field first ≡ false → is_long_field first ≡ true
    → fields_size_after before true rest ≡ fields_size_after before long (first ∷ rest)
unfolding fields_size_after any_deep_field any_long_field fields_bytes
size_long_first before true rest first deep is = rw deep refl
size_long_first before false rest first deep is = rw (deep, is) refl

-- A field that is too long makes all of them too long, unless one after it nests too deep.
pub size_long : (before : ℕ) (long : Bool) (fields rest : List Field) (first : Field) → fields ≡ first ∷ rest
    → Err errors.TooLong ≡ measured (is_deep_field first) (is_long_field first) (field_bytes first)
    → fields_size_after before true rest ≡ fields_size_after before long fields
size_long before long fields rest first split is =
    let m = measured_long (is_deep_field first) (is_long_field first) (field_bytes first) is in
    let P : List Field → Type 0 = λ xs. fields_size_after before true rest ≡ fields_size_after before long xs in
    subst P (sym split) (size_long_first before long rest first m.0 m.1)

-- The size of fields after no bytes is their size.
pub size_all : (fields : List Field) → fields_size_after 0 false fields ≡ fields_size fields
unfolding fields_size_after fields_size
size_all fields =
    ap (λ (n : ℕ). if any_deep_field fields then Err errors.TooDeep else (if any_long_field fields then Err errors.TooLong else Ok n)) (omega arith)

-- Putting no fields leaves the buffer as it was, and ends where it began.
pub put_none : (buf : List ℕ) (at : ℕ) (fields : List Field) → length fields ≡ 0 → Puts buf buf at (fields_bytes fields) at
unfolding fields_bytes
put_none buf at fields none = puts_none buf at (fields_bytes fields) (ap fields_bytes (nil_from_length fields none))

-- A put of the first field and then one of those after it are one put of all fields.
pub put_more : (old middle new : List ℕ) (at place end : ℕ) (fields rest : List Field) (first : Field)
    → fields ≡ first ∷ rest → at + length (fields_bytes fields) ≤ length old
    → Puts old middle at (field_bytes first) place → Puts middle new place (fields_bytes rest) end → Puts old new at (fields_bytes fields) end
unfolding fields_bytes
put_more old middle new at place end fields rest first split room one others =
    let P : List Field → Type 0 = λ xs. Puts old new at (fields_bytes xs) end in
    subst P (sym split)
    (puts_then old middle new at place end (field_bytes first) (fields_bytes rest) (omega (arith, room, ap (λ xs. length (fields_bytes xs)) split)) one others)
