-- What a writer of the system has after a write and a flush, and what its sink reports.
use Rattle.amqp_stream.specs
use Rattle.std.proofs.Common.{◌≡◌, ◌≤◌, ◌-◌, List, [], ℕ, length, take, Option, Some, None, sym, ap, ◌∙◌, arith, append-nil}
use Rattle.std.proofs.Math.Seq.{take-append_seam}
use Rattle.std.proofs.lemmas.List.{length-append, length-take-le, take_all}
use Rattle.std.specs.Io.KnownBytes.{Appends, Keeps}
use Rattle.std.proofs.KnownBytes.{Appends-kept}
use specs.Ends.{Grows, Bytes}
use specs.Scripts.{without_last}

-- bytes that were appended stay after a flush
pub flushed : (a b c : Option (List ℕ)) (bytes : List ℕ) → Appends a b bytes → Keeps b c → Appends a c bytes
flushed a b c bytes = Appends-kept a b c bytes

-- a write that failed appended nothing
pub failed : (a b : Option (List ℕ)) (piece : List ℕ) → Keeps a b → Appends a b (take 0 piece)
failed a b piece h = grind (arith, append-nil)

all_of : (bytes : List ℕ) → take (length bytes - 0) bytes ≡ bytes
all_of bytes = take_all (length bytes - 0) bytes (omega arith)

-- What a write took and a flush let through is what the sink got.
pub all_gained : (a b : Option (List ℕ)) (bytes : List ℕ) → Appends a b bytes → Grows (without_last 0 a) (without_last 0 b) bytes
all_gained a b bytes h = grind (arith, all_of)

-- What a write took and no flush let through is not reported.
pub none_gained : (a b : Option (List ℕ)) (piece : List ℕ) (n : ℕ) → n ≤ length piece → Appends a b (take n piece)
    → Grows (without_last 0 a) (without_last n b) []
none_gained None b piece n few h = tt
none_gained (Some x) None piece n few h = absurd h
none_gained (Some x) (Some y) piece n few h =
    let len : length y - n ≡ length x = omega (arith, ap length h, length-append x (take n piece), length-take-le n piece few) in
    ap Bytes (
    ap (λ (k : ℕ). take k y) len ∙ ap (take (length x)) h ∙ take-append_seam x (take n piece)
    ∙ sym (append-nil (take (length x - 0) x) ∙ all_of x)
    )
