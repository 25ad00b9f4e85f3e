-- What an array or a table holds is put first, and then its length in front of it.
use Rattle.std.proofs.Common.{◌≡◌, ℕ, ◌+◌, ◌-◌, ◌<◌, ◌≤◌, ◌^◌, ◌||◌, List, [], ◌++◌, length, take, drop, Bool, false, sym, ap}
use Rattle.std.proofs.Common.{ap₂, ◌∙◌, append_assoc, arith}
use Rattle.std.proofs.lemmas.Bool.Decides.{nat_tests}
use Rattle.std.proofs.lemmas.List.{length-append, length-take-le, take-take, take-append-le, drop_at}
use Rattle.amqp_types.specs.Numbers.{bytes4, number_bytes}
use Rattle.amqp_types.specs.Strings.{with_length, is_too_long}
use Rattle.amqp_types.specs.Writing.{written, Puts}
use Rattle.amqp_types.proofs.Numbers.{number_bytes-length}
use Rattle.amqp_types.proofs.WrittenParts.{written-length}
use Rattle.amqp_laws.proofs.Pieces.{IsPut, is_put}
use Rattle.amqp_laws.proofs.Deciding.{or_right}

written_before : (old first second : List ℕ) (at place : ℕ) → place ≡ at + length first
    → place + length second ≤ length old → written (written old place second) at first ≡ written old at (first ++ second)
unfolding written
written_before old first second at place is room =
    let behind = drop (place + length second) old in
    let front = take place old in
    let long : length front ≡ place = length-take-le place old (omega arith) in
    let kept : take at (front ++ (second ++ behind)) ≡ take at old =
    take-append-le at front (second ++ behind) (omega (arith, is, long)) ∙ take-take at place old (omega (arith, is)) in
    let next : drop (at + length first) (front ++ (second ++ behind)) ≡ second ++ behind = drop_at front (second ++ behind) (at + length first) (long ∙ is) in
    let sum : place + length second ≡ at + length (first ++ second) = omega (arith, is, length-append first second) in
    ap₂ (λ a b. a ++ (first ++ b)) kept next ∙ ap (λ bs. take at old ++ bs) (sym (append_assoc first second behind))
    ∙ ap (λ k. take at old ++ ((first ++ second) ++ drop k old)) sum

-- the room for a content is behind that for its length
pub room_behind : (buf : List ℕ) (at : ℕ) (content : List ℕ) → at + length (with_length content) ≤ length buf → (at + 4) + length content ≤ length buf
room_behind buf at content room = omega (arith, room, length-append (number_bytes bytes4 (length content)) content, number_bytes-length bytes4 (length content))

-- four bytes hold the length of a content that is not too long
pub short_length : (b : Bool) (content : List ℕ) → (b || is_too_long content) ≡ false → length content < 2 ^ 32
short_length b content short = let e : is_too_long content ≡ false = or_right b (is_too_long content) short in grind (arith, nat_tests)

-- all of the content is put, and its length is what its end is behind
pub record Contained (old mid : List ℕ) (at end : ℕ) (content : List ℕ) : Type 0 where
  pub put : Puts old mid (at + 4) content end
  pub behind : end ≡ (at + 4) + length content
  pub same : length mid ≡ length old
  pub room : (at + 4) + length content ≤ length old

-- Where nothing is left to put, all of the content stands four bytes after the place, with room for its length in front.
pub contained : (old mid : List ℕ) (at end : ℕ) (done left content : List ℕ) → at + length (with_length content) ≤ length old
    → left ≡ [] → IsPut old mid (at + 4) end done left content → Contained old mid at end content
contained old mid at end done left content room none p =
    let here : Puts old mid (at + 4) content end = is_put old mid (at + 4) end done content (rw none at p) in
    let fits = room_behind old at content room in
    record { put = here; behind = here.behind; same = ap length here.put ∙ written-length old (at + 4) content fits; room = fits }

-- The length put in front of a content that was put makes the content with its length.
pub length_put : (old mid new : List ℕ) (at end place : ℕ) (content : List ℕ) → Contained old mid at end content
    → Puts mid new at (number_bytes bytes4 (end - at - 4)) place → Puts old new at (with_length content) end
length_put old mid new at end place content inner outer =
    let first = number_bytes bytes4 (length content) in
    let count : end - at - 4 ≡ length content = omega (arith, inner.behind) in
    let four : length first ≡ 4 = number_bytes-length bytes4 (length content) in
    let sum = length-append first content in
    record {
      put =
          outer.put ∙ ap (λ n. written mid at (number_bytes bytes4 n)) count ∙ ap (λ buf. written buf at first) inner.put.put
          ∙ written_before old first content at (at + 4) (omega (arith, four)) (omega (arith, inner.room));
      behind = omega (arith, inner.behind, four, sum);
    }
