-- Kinds that are put one after another.
use Rattle.std.proofs.Common.{◌≡◌, ℕ, ◌+◌, ◌<◌, ◌≤◌, List, [], ◌∷◌, length, map, take, get_or, arith}
use Rattle.std.proofs.lemmas.Grind.{common_steps}
use Rattle.amqp_types.specs.Writing.{written}
use Rattle.amqp_types.proofs.WrittenParts.{written-written}
use Rattle.amqp_names.specs.declared.naming.Field.{Field}
use Rattle.amqp_names.specs.Tables.{field_kind}

-- one more kind behind those of the first fields
pub one_more_kind : (start kinds new : List ℕ) (fields : List Field) (place i : ℕ) (none : Field) → place ≡ i → i < length fields → length fields ≤ length start
    → kinds ≡ written start 0 (map field_kind (take i fields)) → new ≡ written kinds place ((get_or fields i none).kind ∷ [])
    → new ≡ written start 0 (map field_kind (take (i + 1) fields))
one_more_kind start kinds new fields place i none place_is within room before put = grind (arith, common_steps, written-written)
