-- Calls that put bytes one after another, or into room at the end of a vector.
use Rattle.std.proofs.Common.{◌≡◌, ℕ, ◌+◌, ◌≤◌, List, [], ◌++◌, length, take, drop, replicate, sym, ap, ◌∙◌, arith}
use Rattle.std.proofs.lemmas.List.{length-append, length-replicate, take_at}
use Rattle.amqp_types.specs.Writing.{written, Puts}
use Rattle.amqp_types.proofs.WrittenParts.{written-written, written_end, written-nil, written-length}

-- A put of some bytes and then one of more bytes at the place after them are one put of them all.
pub puts_then : (old middle new : List ℕ) (at place end : ℕ) (first second : List ℕ) → at + length (first ++ second) ≤ length old
    → Puts old middle at first place → Puts middle new place second end → Puts old new at (first ++ second) end
puts_then old middle new at place end first second room one two = record {
  put = two.put ∙ ap (λ buf. written buf place second) one.put ∙ written-written old at place first second one.behind room;
  behind = two.behind ∙ omega (arith, one.behind, length-append first second);
}

-- a vector that was grown by as many bytes and written from its old end on
pub appended : (old grown new bytes : List ℕ) (len at : ℕ) → grown ≡ old ++ replicate (length bytes) 0 → at ≡ length old
    → len ≡ length grown → new ≡ written grown at bytes → take len (new ++ drop (length new) grown) ≡ old ++ bytes
appended old grown new bytes len at is place all put =
    let zeros : List ℕ = replicate (length bytes) 0 in
    let whole : new ≡ old ++ bytes =
    put ∙ ap (λ buf. written buf at bytes) is ∙ written_end old zeros bytes at place (length-replicate {A = ℕ} (length bytes) 0) in
    let same : length new ≡ len =
    ap length whole ∙ omega (arith, length-append old bytes, length-append old zeros, length-replicate {A = ℕ} (length bytes) 0, ap length is) in
    take_at new (drop (length new) grown) len same ∙ whole

-- A put of no bytes leaves the buffer as it was, and ends where it began.
pub puts_none : (buf : List ℕ) (at : ℕ) (bytes : List ℕ) → bytes ≡ [] → Puts buf buf at bytes at
puts_none buf at bytes none = record {
  put = sym (ap (written buf at) none ∙ written-nil buf at);
  behind = omega (arith, ap length none);
}

-- a put call keeps the length
pub puts-length : (old new : List ℕ) (at end : ℕ) (bytes : List ℕ) → at + length bytes ≤ length old → Puts old new at bytes end → length new ≡ length old
puts-length old new at end bytes room p = ap length p.put ∙ written-length old at bytes room
