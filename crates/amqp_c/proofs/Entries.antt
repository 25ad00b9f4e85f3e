-- How many entries some bytes can hold.
use Rattle.std.proofs.Common.{◌≡◌, ℕ, zero, suc, ◌*◌, ◌<◌, ◌≤◌, List, [], ◌∷◌, length, drop, Option, refl, sym, ap, ◌∙◌, arith}
use Rattle.std.proofs.lemmas.List.{length-drop}
use Rattle.amqp_types.specs.Judging.{Judge, took, IsBytes}
use Rattle.amqp_types.specs.Values.{FieldValue}
use Rattle.amqp_types.specs.ValueJudging.{behind_tag, filled, judge_entry, judge_tagged, judge_value, nested}
use Rattle.amqp_types.specs.Tags.{tag_at}
use Rattle.amqp_types.specs.declared.tag.FieldTag.{FieldTag}
use Rattle.amqp_types.proofs.Bytes.{IsBytes-drop}
use Rattle.amqp_types.proofs.Took.{bind_took, count_took}
use Rattle.amqp_canonical.specs.Marks.{AreEntries, entries_in}
use Rattle.amqp_canonical.proofs.ReadParts.{entry_parts, first_entry, is_read}

-- a value has a tag
behind_some : (inner : Option (Judge FieldValue)) (tag : Option FieldTag) (bytes : List ℕ) (v : FieldValue) (n : ℕ)
    → behind_tag inner tag bytes ≡ took v n → 0 < n
behind_some inner tag bytes v n h = grind (arith, bind_took, count_took)

value_some : (room : ℕ) (bytes : List ℕ) (v : FieldValue) (n : ℕ) → judge_value room bytes ≡ took v n → 0 < n
unfolding judge_value judge_tagged
value_some room [] v n h = absurd cc
value_some room (byte ∷ bytes) v n h = behind_some (nested room) (tag_at byte) bytes v n h

-- an entry has the length of its key and a tag
entry_two : (room : ℕ) (bytes : List ℕ) (e : List ℕ × FieldValue) (n : ℕ) → judge_entry (judge_value room) bytes ≡ took e n → 2 ≤ n
entry_two room bytes e n h =
    let p = entry_parts room bytes (is_read (judge_entry (judge_value room) bytes) e n h) in
    let same = count_took _ e _ n (sym p.is ∙ h) in
    omega (arith, same, value_some room _ p.value p.count p.value_is)

none_in : (room : ℕ) (content : List ℕ) → length content ≤ 0 → entries_in room content ≡ []
unfolding filled
none_in room [] h = refl
none_in room (b ∷ content) h = absurd (omega arith)

few_within : (room fuel : ℕ) (content : List ℕ) → length content ≤ fuel → IsBytes content
    → AreEntries room content → 2 * length (entries_in room content) ≤ length content
few_within room zero content le fits h = omega (arith, ap length (none_in room content le))
few_within room (suc fuel) [] le fits h = few_within room fuel [] (omega arith) fits h
few_within room (suc fuel) (b ∷ content) le fits h =
    let bytes : List ℕ = b ∷ content in
    let one = first_entry room bytes fits (omega arith) h in
    let rest = drop one.size bytes in
    let shorter = length-drop one.size bytes in
    let two = entry_two room bytes one.thing one.size one.is in
    let more = few_within room fuel rest (omega (arith, shorter, two)) (IsBytes-drop one.size bytes fits) one.left in
    let all : length (entries_in room bytes) ≡ suc (length (entries_in room rest)) = ap length one.all in
    omega (arith, all, more, two, one.within, shorter)

-- The entries that fill some bytes are at most half as many as the bytes.
pub entries_few : (room : ℕ) (content : List ℕ) → IsBytes content → AreEntries room content → 2 * length (entries_in room content) ≤ length content
entries_few room content = few_within room (length content) content (omega arith)
