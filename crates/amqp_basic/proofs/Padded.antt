-- Fields that stand for a method stand for it with nothing written after them.
use Rattle.std.proofs.Common.{◌≡◌, ◌≤◌, false, ◌||◌, List, [], ◌∷◌, ◌++◌, length, get_or, refl, ap, ◌∙◌, arith}
use Rattle.amqp_types.specs.Methods.{Method}
use Rattle.amqp_values.specs.declared.fields.Field.{Field}
use Rattle.amqp_values.specs.declared.fields.Field.TheVariants as field
use Rattle.amqp_values.specs.Fields.{field_bytes, is_deep_field, is_long_field, fields_bytes, any_deep_field, any_long_field, fields_size, AreFieldsHeld}
use Rattle.amqp_values.specs.MethodFields.{ListsMethod}

bytes_before : (xs more : List Field) → fields_bytes more ≡ [] → fields_bytes (xs ++ more) ≡ fields_bytes xs
unfolding fields_bytes
bytes_before [] more none = none
bytes_before (x ∷ xs) more none = ap (λ bs. field_bytes x ++ bs) (bytes_before xs more none)

deep_before : (xs more : List Field) → any_deep_field more ≡ false → any_deep_field (xs ++ more) ≡ any_deep_field xs
unfolding any_deep_field
deep_before [] more shallow = shallow
deep_before (x ∷ xs) more shallow = ap (λ b. is_deep_field x || b) (deep_before xs more shallow)

long_before : (xs more : List Field) → any_long_field more ≡ false → any_long_field (xs ++ more) ≡ any_long_field xs
unfolding any_long_field
long_before [] more short = short
long_before (x ∷ xs) more short = ap (λ b. is_long_field x || b) (long_before xs more short)

held_before : (xs more : List Field) → AreFieldsHeld (xs ++ more) → AreFieldsHeld xs
held_before [] more h = tt
held_before (x ∷ xs) more h = (h.0, held_before xs more h.1)

size_before : (xs more : List Field) → fields_bytes more ≡ [] → any_deep_field more ≡ false → any_long_field more ≡ false
    → fields_size (xs ++ more) ≡ fields_size xs
unfolding fields_size
size_before xs more none shallow short = rw (bytes_before xs more none, deep_before xs more shallow, long_before xs more short) refl

-- What is written as no bytes may stand after the fields of a method.
pub padded : (first : Field) (rest more : List Field) (m : Method) → length (first ∷ (rest ++ more)) ≤ 64
    → fields_bytes more ≡ [] → any_deep_field more ≡ false → any_long_field more ≡ false
    → ListsMethod (first ∷ rest) m → ListsMethod (first ∷ (rest ++ more)) m
padded first rest more m few none shallow short lists = record {
  few = few;
  payload = bytes_before (first ∷ rest) more none ∙ lists.payload;
  payload_sized = size_before (first ∷ rest) more none shallow short ∙ lists.payload_sized;
  slots = bytes_before rest more none ∙ lists.slots;
  slots_sized = size_before rest more none shallow short ∙ lists.slots_sized;
  held = λ h. lists.held (held_before (first ∷ rest) more h);
}

-- The six fields of publish, filled up.
pub six : (xs : List Field) (a b c d e f : Field) (m : Method) → length xs ≡ 6 → ListsMethod xs m
    → ListsMethod (get_or xs 0 a ∷ get_or xs 1 b ∷ get_or xs 2 c ∷ get_or xs 3 d ∷ get_or xs 4 e ∷ get_or xs 5 f ∷ field.Nothing ∷ []) m
unfolding fields_bytes any_deep_field any_long_field field_bytes is_deep_field is_long_field
six (x ∷ y ∷ z ∷ u ∷ v ∷ w ∷ []) a b c d e f m is lists = padded x (y ∷ z ∷ u ∷ v ∷ w ∷ []) (field.Nothing ∷ []) m (omega arith) refl refl refl lists
six xs a b c d e f m is lists = absurd cc

-- The four fields of ack, filled up.
pub four : (xs : List Field) (a b c d : Field) (m : Method) → length xs ≡ 4 → ListsMethod xs m
    → ListsMethod (get_or xs 0 a ∷ get_or xs 1 b ∷ get_or xs 2 c ∷ get_or xs 3 d ∷ field.Nothing ∷ field.Nothing ∷ field.Nothing ∷ []) m
unfolding fields_bytes any_deep_field any_long_field field_bytes is_deep_field is_long_field
four (x ∷ y ∷ z ∷ u ∷ []) a b c d m is lists =
    padded x (y ∷ z ∷ u ∷ []) (field.Nothing ∷ field.Nothing ∷ field.Nothing ∷ []) m (omega arith) refl refl refl lists
four xs a b c d m is lists = absurd cc
