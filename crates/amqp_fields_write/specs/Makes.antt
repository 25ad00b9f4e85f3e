-- What calls return that count what is made, or look at its parts.
use Rattle.amqp_fields_write.specs
use Rattle.std.specs.Prelude.{◌≡◌, ◌<◌, ◌^◌, ℕ, nat_lt, if◌then◌else◌, Bool, List, [], true, false}
use Rattle.std.specs.Prelude.{length, Result, Ok, Err}
use Rattle.amqp_types.specs.Flags.{flags_byte}
use Rattle.amqp_fields.specs.declared.node.Node.{Node}
use specs.declared.refusals.Refusal.{Refusal}
use specs.Made.{Made, Maker, made_array, made_entry, made_long, made_span, made_table, made_text}
use specs.Made.{made_value, span_in}
use specs.MadeFrames.{is_given}

-- as 8 bytes hold it, or the greatest number that they hold
abbrev pub cut_long : ℕ → ℕ
cut_long n = if nat_lt n 18446744073709551615 then n else 18446744073709551615

-- what was made has so many bytes
pub record IsCounted {E : Type 0} (made : Result (List ℕ) E) (count : ℕ) : Type 0 where
  pub bytes : List ℕ
  pub is : made ≡ Ok bytes
  pub count_is : count ≡ cut_long (length bytes)

-- how many bytes are made, or the refusal
abbrev pub Measures : {E : Type 0} → Result (List ℕ) E → Result ℕ E → Type 0
Measures made (Ok count) = IsCounted made count
Measures made (Err bad) = made ≡ Err bad

-- a short string, or else a long one
abbrev pub made_string : Bool → ℕ → List ℕ → Made
made_string true = made_text
made_string false = made_long

-- an entry, or else a value
abbrev pub made_item : Bool → List ℕ → ℕ → Maker
made_item true pool depth_left = made_entry pool (made_value pool depth_left)
made_item false pool depth_left = made_value pool depth_left

-- a table of entries, or else an array of values
abbrev pub made_group : Bool → List ℕ → ℕ → Maker
made_group true pool depth_left = made_table pool depth_left (made_value pool depth_left)
made_group false pool depth_left = made_array pool depth_left (made_value pool depth_left)

-- the key of an entry; nothing where it is a value
abbrev pub made_key : Bool → List ℕ → ℕ → Node → Made
made_key true pool index node =
    made_span (made_text index) index (span_in pool node.key_start node.key_length)
made_key false pool index node = Ok []

-- the content of a table or an array that a node gives as bytes: how many they are
abbrev pub given_bytes : Node → ℕ
given_bytes node = if is_given node then node.length else 0

-- the byte of some flags, which has no other bits
pub record IsFlagsByte (read : Result (List Bool) Refusal) (count byte : ℕ) : Type 0 where
  pub flags : List Bool
  pub is : read ≡ Ok flags
  pub byte_is : byte ≡ flags_byte flags
  pub fits : byte < 2 ^ count

-- the byte of flags, or the refusal
abbrev pub MakesFlags : Result (List Bool) Refusal → ℕ → Result ℕ Refusal → Type 0
MakesFlags read count (Ok byte) = IsFlagsByte read count byte
MakesFlags read count (Err bad) = read ≡ Err bad
