-- What the quick walk leaves: a place after what was made, or none.
use Rattle.amqp_fields_write.specs
use Rattle.amqp_types.specs as types
use Rattle.std.specs.Prelude.{◌≡◌, ◌≤◌, ◌<◌, ◌^◌, ◌+◌, ◌-◌, ℕ, Bool, true, List, [], ◌∷◌, length}
use Rattle.std.specs.Prelude.{if◌then◌else◌, Result, Ok, false, drop}
use types.Numbers.{bytes4, number_bytes}
use types.Constants.{end_byte}
use types.Properties.{Property, properties}
use types.Slots.{Form, table_form}
use types.Writing.{written}
use Rattle.amqp_wire.specs.Spelling.{head}
use Rattle.amqp_fields.specs.declared.node.Node.{Node}
use specs.Made.{Made, misfit}
use specs.MadeFields.{is_field, is_next}
use Rattle.amqp_fields.specs.Nodes.{NoneAlone, PassesEnd}

-- no place: the greatest number of 8 bytes
abbrev pub nowhere : ℕ
nowhere = 18446744073709551615

-- bytes are laid, which end at a place; where they are put, from a place of the buffer on, they
-- stand in it
pub record AreLaid (puts : Bool) (bytes old new : List ℕ) (at end : ℕ) : Type 0 where
  pub end_is : end ≡ at + length bytes
  pub same_length : length new ≡ length old
  pub within : puts ≡ true → at ≤ length old → end ≤ length old
  pub put : puts ≡ true → at ≤ length old → new ≡ written old at bytes

-- bytes were made, and are laid
pub record IsLaid {E : Type 0} (puts : Bool) (made : Result (List ℕ) E)
    (old new : List ℕ) (at end : ℕ) : Type 0 where
  pub bytes : List ℕ
  pub is : made ≡ Ok bytes
  pub laid : AreLaid puts bytes old new at end

-- Bytes have room from a place on: they end before the greatest number and not beyond a limit, and
-- where they are put, within the buffer.
pub record HaveRoom (puts : Bool) (limit : ℕ) (bytes old : List ℕ) (at : ℕ) : Type 0 where
  pub few : at + length bytes < nowhere
  pub until : at + length bytes ≤ limit
  pub within : puts ≡ true → at + length bytes ≤ length old

-- where it is tested what is made, a place says that bytes are made and laid; and bytes that are
-- made and have room are laid
pub record LaysUntil {E : Type 0} (tests puts : Bool) (limit : ℕ) (made : Result (List ℕ) E)
    (old new : List ℕ) (at end : ℕ) : Type 0 where
  pub sound : tests ≡ true → end < nowhere → IsLaid puts made old new at end
  pub complete : (bytes : List ℕ) → made ≡ Ok bytes → HaveRoom puts limit bytes old at
      → AreLaid puts bytes old new at end

-- the same without a limit
abbrev pub Lays : {E : Type 0} → Bool → Bool → Result (List ℕ) E
    → List ℕ → List ℕ → ℕ → ℕ → Type 0
Lays tests puts made old new at end = LaysUntil tests puts nowhere made old new at end

-- the same of these bytes
abbrev pub LaysBytes : Bool → Bool → List ℕ → List ℕ → List ℕ → ℕ → ℕ → Type 0
LaysBytes tests puts bytes old new at end =
    let made : Made = Ok bytes in Lays tests puts made old new at end

-- they have room
abbrev pub BytesFit : Bool → List ℕ → List ℕ → ℕ → Type 0
BytesFit puts bytes old at = HaveRoom puts nowhere bytes old at

-- a length stands in front of what ends at a place
pub record IsFronted (puts : Bool) (start end : ℕ)
    (old new : List ℕ) (at result : ℕ) : Type 0 where
  pub place_is : result ≡ end
  pub fits : end - start < 2 ^ 32
  pub front : ℕ
  pub laid : AreLaid puts (number_bytes bytes4 (end - start)) old new at front

-- the same, where the place is one; and it is where the length has room
pub record Fronts (tests puts : Bool) (start end : ℕ)
    (old new : List ℕ) (at result : ℕ) : Type 0 where
  pub sound : tests ≡ true → result < nowhere → IsFronted puts start end old new at result
  pub complete : end - start < 2 ^ 32 → BytesFit puts (number_bytes bytes4 (end - start)) old at
      → IsFronted puts start end old new at result

-- type, channel and length stand in front of what was made from a place to another one, and the end
-- byte after it
pub record IsEnclosed (puts : Bool) (type channel start end m : ℕ)
    (old new : List ℕ) (at result : ℕ) : Type 0 where
  pub fits : end - start ≤ m
  pub mid : List ℕ
  pub front : ℕ
  pub laid : AreLaid puts (head type channel (end - start)) old mid at front
  pub ended : AreLaid puts (end_byte ∷ []) mid new end result

-- the same, where the place is one; and they do where they have room
pub record Encloses (tests puts : Bool) (type channel start end m : ℕ)
    (old new : List ℕ) (at result : ℕ) : Type 0 where
  pub sound : tests ≡ true → result < nowhere
      → IsEnclosed puts type channel start end m old new at result
  pub complete : end - start ≤ m → BytesFit puts (head type channel (end - start)) old at
      → BytesFit puts (end_byte ∷ []) old end
      → IsEnclosed puts type channel start end m old new at result

-- what a node makes, where it is of the kind and at the place of a field
abbrev pub placed : ℕ → Form → Node → ℕ → Made → Made
placed place form node index made = if is_field place form node then made else misfit index

-- the first node with those inside it is no field that is encoded so: only in a table something may
-- lie inside
abbrev pub NoGroup : Form → List Node → Type 0
NoGroup table_form nodes = PassesEnd nodes
NoGroup form nodes = NoneAlone nodes

-- where as many bytes are made as a buffer has, it is these bytes
abbrev pub IsWhole : {E : Type 0} → Result (List ℕ) E → List ℕ → List ℕ → Type 0
IsWhole made old new = (bytes : List ℕ) → made ≡ Ok bytes → length bytes ≡ length old → new ≡ bytes

-- the first of some nodes is at the place of a property, which is a place or after it
pub record IsFirst (place : ℕ) (nodes : List Node) (at : ℕ) (p : Property) : Type 0 where
  pub from : place ≤ at
  pub stands : drop at properties ≡ p ∷ drop (at + 1) properties
  pub is : is_next at nodes ≡ true

-- it is at none of them
abbrev pub NoneFirst : ℕ → List Node → Type 0
NoneFirst place nodes = (at : ℕ) → place ≤ at → at < 14 → is_next at nodes ≡ false
