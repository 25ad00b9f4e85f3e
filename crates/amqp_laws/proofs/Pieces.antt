-- Pieces written one after another, from a place of a buffer on.
use Rattle.std.proofs.Common.{◌≡◌, ℕ, ◌+◌, ◌≤◌, List, [], ◌++◌, length, sym, ap, ◌∙◌, append-nil, append_assoc, arith}
use Rattle.std.proofs.lemmas.List.{length-append}
use Rattle.amqp_types.specs.Writing.{written, Puts}
use Rattle.amqp_types.proofs.WrittenParts.{written-length, written-written}

-- done is written from at on, and left is to follow from place on
pub record IsPut (before now : List ℕ) (at place : ℕ) (done left all : List ℕ) : Type 0 where
  pub whole : done ++ left ≡ all
  pub here : now ≡ written before at done
  pub end : place ≡ at + length done

-- Where a buffer has room for all, it has room for the next piece after those that are written.
pub has_room : (before now : List ℕ) (at place : ℕ) (done piece left all : List ℕ) → at + length all ≤ length before
    → IsPut before now at place done (piece ++ left) all → place + length piece ≤ length now
has_room before now at place done piece left all fits p =
    let sum = ap length p.whole in
    let few : at + length done ≤ length before = omega (arith, length-append done (piece ++ left)) in
    omega (arith, length-append done (piece ++ left), length-append piece left, ap length p.here, written-length before at done few, p.end)

-- After the next piece is put, it belongs to those that are written.
pub puts : (before now next : List ℕ) (at place place' : ℕ) (done piece left all : List ℕ)
    → at + length all ≤ length before → IsPut before now at place done (piece ++ left) all
    → Puts now next place piece place' → IsPut before next at place' (done ++ piece) left all
puts before now next at place place' done piece left all fits p q =
    let sum = ap length p.whole in
    record {
      whole = append_assoc done piece left ∙ p.whole;
      here =
          q.put ∙ ap (λ b. written b place piece) p.here
          ∙ written-written before at place done piece p.end
          (omega (arith, length-append done piece, length-append done (piece ++ left), length-append piece left));
      end = q.behind ∙ omega (arith, length-append done piece, p.end);
    }

-- Where nothing is left to follow, all has been put at the place.
pub is_put : (before now : List ℕ) (at place : ℕ) (done all : List ℕ) → IsPut before now at place done [] all → Puts before now at all place
is_put before now at place done all p =
    let e : done ≡ all = sym (append-nil done) ∙ p.whole in
    record { put = p.here ∙ ap (written before at) e; behind = p.end ∙ ap (λ bs. at + length bs) e }
