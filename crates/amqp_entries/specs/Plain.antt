-- Values at the front of some bytes whose canonical bytes these are.
use Rattle.std.specs.Prelude.{◌≡◌, ◌<◌, ◌≤◌, ◌==◌, ◌^◌, ◌+◌, ℕ, true, List, length, drop}
use Rattle.std.specs.Prelude.{Option, Some, None, if◌then◌else◌}
use Rattle.amqp_types.specs.Judging.{IsBytes}
use Rattle.amqp_types.specs.ValueJudging.{judge_entry, judge_value}
use Rattle.amqp_canonical.specs.Judgements.{DecodesAs, DecodesAsEntry, IsCanonicalValue}
use Rattle.amqp_canonical.specs.Leads.{leading}

-- how many bytes stand after a tag byte, where these are a number
abbrev pub number_size_after : ℕ → Option ℕ
number_size_after byte =
    if byte == 98 then Some 1 else if byte == 66 then Some 1
    else if byte == 115 then Some 2 else if byte == 117 then Some 2
    else if byte == 73 then Some 4 else if byte == 105 then Some 4 else if byte == 102 then Some 4
    else if byte == 108 then Some 8 else if byte == 100 then Some 8 else if byte == 84 then Some 8
    else None

-- a value is decoded at the front in so many bytes with its tag, and they are its canonical ones
pub record IsCanonicalFront (depth_left : ℕ) (bytes : List ℕ) (n : ℕ) : Type 0 where
  pub decoded : DecodesAs IsCanonicalValue (record { used = n; canonical = true }) bytes
      (judge_value depth_left bytes)
  pub some : 0 < n
  pub fits : n ≤ length bytes

-- a value is decoded at a place, up to another one, and these bytes are its canonical ones
pub record IsCanonicalPart (depth_left : ℕ) (bytes : List ℕ) (at end : ℕ) : Type 0 where
  pub size : ℕ
  pub end_is : end ≡ at + size
  pub value : IsCanonicalFront depth_left (drop at bytes) size

-- an entry is decoded at the front in so many bytes, and they are its canonical ones; the first
-- four bytes of its key make this number
pub record IsEntryFront (depth_left : ℕ) (bytes : List ℕ) (lead n : ℕ) : Type 0 where
  pub key : List ℕ
  pub key_fits : IsBytes key
  pub decoded : DecodesAsEntry (record { used = n; canonical = true }) key bytes
      (judge_entry (judge_value depth_left) bytes)
  pub lead_is : lead ≡ leading 4 key
  pub lead_few : lead < 2 ^ 32
  pub some : 0 < n
  pub fits : n ≤ length bytes
