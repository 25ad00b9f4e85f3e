-- What is plain is tidy: in values the two levels are the same.
use Rattle.std.proofs.Common.{ℕ, zero, suc, List, Bool, true, false}
use Rattle.amqp_types.specs.Levels.{plain, tidy}
use Rattle.amqp_types.specs.Booleans.{SpellsBoolean}
use Rattle.amqp_types.specs.Values.{FieldValue, boolean_value, signed_value, unsigned_value, decimal_value, bytes_value, array_value}
use Rattle.amqp_types.specs.Values.{table_value, void_value, items, pairs}
use Rattle.amqp_types.specs.ValueSpelling.{SpellsEntry, SpellsTable, SpellsBehind, SpellsTagged, SpellsValue, SpellsFieldTable}
use Rattle.amqp_laws.proofs.Strictly.{Into, each_into, entry_into, array_into}

boolean_plain_is_tidy : (bytes : List ℕ) (b : Bool) → SpellsBoolean plain bytes b → SpellsBoolean tidy bytes b
boolean_plain_is_tidy bytes true h = h
boolean_plain_is_tidy bytes false h = h

table_plain_is_tidy : (S T : List ℕ → FieldValue → Type 0) → Into S T → Into (SpellsTable plain S) (SpellsTable tidy T)
table_plain_is_tidy S T into bytes es h = record {
  inner = h.inner;
  entries = h.entries;
  framed = h.framed;
  each = each_into (SpellsEntry S) (SpellsEntry T) (entry_into S T into) h.inner h.entries h.each;
  counts = h.counts;
  once = tt;
}

behind_plain_is_tidy : (room : ℕ) (S T : List ℕ → FieldValue → Type 0) → Into S T → Into (SpellsBehind plain room S) (SpellsBehind tidy room T)
behind_plain_is_tidy room S T into bytes (boolean_value b) h = boolean_plain_is_tidy bytes b h
behind_plain_is_tidy room S T into bytes (signed_value kind n) h = h
behind_plain_is_tidy room S T into bytes (unsigned_value kind n) h = h
behind_plain_is_tidy room S T into bytes (decimal_value scale n) h = h
behind_plain_is_tidy room S T into bytes (bytes_value kind s) h = h
behind_plain_is_tidy room S T into bytes (array_value vs) h = (h.0, array_into S T into bytes (items vs) h.1)
behind_plain_is_tidy room S T into bytes (table_value es) h = (h.0, table_plain_is_tidy S T into bytes (pairs es) h.1)
behind_plain_is_tidy room S T into bytes void_value h = h

tagged_plain_is_tidy : (S T : List ℕ → FieldValue → Type 0) → Into S T → Into (SpellsTagged plain S) (SpellsTagged tidy T)
tagged_plain_is_tidy S T into bytes v h =
    record { byte = h.byte; behind = h.behind; bytes_are = h.bytes_are; tag_is = h.tag_is; value_is = into h.behind v h.value_is }

value_plain_is_tidy : (room : ℕ) → Into (SpellsValue plain room) (SpellsValue tidy room)
unfolding SpellsValue
value_plain_is_tidy zero = tagged_plain_is_tidy _ _ (behind_plain_is_tidy 0 (λ _ _. ⊥) (λ _ _. ⊥) (λ bytes v h. h))
value_plain_is_tidy (suc room) =
    tagged_plain_is_tidy _ _ (behind_plain_is_tidy (suc room) (SpellsValue plain room) (SpellsValue tidy room) (value_plain_is_tidy room))

-- A table of fields that is encoded at level plain is encoded at level tidy.
pub field_table_plain_is_tidy : Into (SpellsFieldTable plain) (SpellsFieldTable tidy)
field_table_plain_is_tidy = table_plain_is_tidy (SpellsValue plain 63) (SpellsValue tidy 63) (value_plain_is_tidy 63)
