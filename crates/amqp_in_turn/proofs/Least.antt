-- The least channel of which something is kept.
use Rattle.std.proofs.Common.{◌≡◌, ℕ, ◌≤◌, Bool, true, false, ◌&&◌, T, List, [], ◌∷◌, map, refl, subst, ◌∙◌, arith, Option, Some, None}
use Rattle.std.specs.Prelude.{IsSome, IfSome, IfNone, slice_get}
use Rattle.std.specs.FinMap as finite
use Rattle.std.specs.FinMap.{get-entries, entries_sorted, len-entries, find, is_sorted}
use Rattle.std.specs.FinMap.Entries.{below_all}
use Rattle.std.specs.Ordering.{nat_cmp, is_lt}
use Rattle.std.proofs.lemmas.Grind.{common_steps}
use Rattle.amqp_turns.specs.ByChannel.{ByChannel}
use Rattle.amqp_turns.specs.Stands.{kept_at, NoneIsBelow}
use Rattle.amqp_turns.proofs.Holding.{at_itself, holding_of, get-holding, none_held}
use Rattle.amqp_in_turn.specs.Ending.{least_channel}

both_of : (a b : Bool) → T (a && b) → (a ≡ true) × T b
both_of true b h = (refl, h)
both_of false b h = absurd h

-- two numbers of which none is below the other
same_both : (a b : ℕ) → a ≤ b → b ≤ a → a ≡ b
same_both a b low high = omega (arith, low, high)

module _ {K : Type 0} where
  -- ---- by entries in order

  in_order : (x q : ℕ) (es : List (ℕ × K)) → T (below_all nat_cmp x es) → IsSome (find nat_cmp q es) → x ≤ q
  in_order x q [] h some = absurd cc
  in_order x q (e ∷ es) h some =
      let parts = both_of (is_lt (nat_cmp x e.0)) (below_all nat_cmp x es) h in
      let rest = in_order x q es parts.1 in
      grind (arith, common_steps)

  -- the first of entries in order
  record Leads (es : List (ℕ × K)) (channel : ℕ) : Type 0 where
    value : K
    kept : find nat_cmp channel es ≡ Some value
    least : (other : ℕ) → IsSome (find nat_cmp other es) → channel ≤ other

  leads : (es : List (ℕ × K)) (channel : ℕ) → T (is_sorted nat_cmp es) → slice_get (map (λ e. e.0) es) 0 ≡ Some channel → Leads es channel
  leads [] channel sorted is = absurd cc
  leads (e ∷ es) channel sorted is =
      let same : e.0 ≡ channel = cc in
      subst (Leads (e ∷ es)) same
      (record {
        value = e.1;
        kept = rw (at_itself e.0);
        least = λ other some.
            let later = in_order e.0 other es (rw (both_of (below_all nat_cmp e.0 es) (is_sorted nat_cmp es) sorted).0 tt) in
            grind (arith, common_steps);
      })

  no_entries : (es : List (ℕ × K)) → slice_get (map (λ e. e.0) es) 0 ≡ None → es ≡ []
  no_entries [] e = refl
  no_entries (x ∷ es) e = absurd cc

  -- ---- by what is kept

  -- Of this channel something is kept, and of none below it.
  pub record IsLeast (holding : ByChannel K) (channel : ℕ) : Type 0 where
    pub value : K
    pub kept : finite.get holding channel ≡ Some value
    pub least : (other : ℕ) → IsSome (finite.get holding other) → channel ≤ other

  -- The least channel is one of which something is kept, and of none below it is any.
  pub least_kept : (holding : ByChannel K) (channel : ℕ) → least_channel holding ≡ Some channel → IsLeast holding channel
  least_kept holding channel e =
      let found = leads (finite.entries holding) channel (entries_sorted holding) e in
      record {
        value = found.value;
        kept = get-entries holding channel ∙ found.kept;
        least = λ other some. found.least other (rw get-entries at some);
      }

  -- Where there is no least channel, nothing is kept.
  pub least_none : (holding : ByChannel K) → least_channel holding ≡ None → finite.len holding ≡ 0
  least_none holding e = rw (len-entries holding, no_entries (finite.entries holding) e)

  -- A channel of which entries keep something, where they keep nothing below it, is the least channel; and where there are no entries, there is none.
  pub least_is : (es : List (ℕ × K)) (found : Option ℕ) → IfNone found (es ≡ []) → IfSome found (λ channel. IsSome (kept_at es channel))
      → IfSome found (NoneIsBelow es) → least_channel (holding_of es) ≡ found
  least_is es found none kept least = by_parts found (least_channel (holding_of es)) refl none kept least
    where
      by_parts : (found there : Option ℕ) → least_channel (holding_of es) ≡ there → IfNone found (es ≡ [])
          → IfSome found (λ channel. IsSome (kept_at es channel)) → IfSome found (NoneIsBelow es) → there ≡ found
      by_parts None None e none kept least = refl
      by_parts None (Some channel) e none kept least =
          let found = (least_kept (holding_of es) channel e).kept in
          let same = get-holding es channel in
          let gone : kept_at es channel ≡ None = rw none in
          absurd cc
      by_parts (Some channel) None e none kept least =
          let gone = none_held (holding_of es) (least_none (holding_of es) e) channel in
          let some = rw (← get-holding es channel, gone) at kept in
          absurd cc
      by_parts (Some channel) (Some other) e none kept least =
          let found = least_kept (holding_of es) other e in
          let low : other ≤ channel = found.least channel (rw get-holding kept) in
          let high : channel ≤ other = least other (grind (arith, common_steps, get-holding)) in
          rw (same_both other channel low high)
