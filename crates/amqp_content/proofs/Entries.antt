-- What is kept of channels, by what an assembler holds of them.
use Rattle.std.proofs.Common.{◌≡◌, ℕ, Bool, true, false, cond, List, [], ◌∷◌, map, refl, sym, ap, subst, ◌∙◌, Option, Some, None, Result, Ok, Err}
use Rattle.std.specs.Prelude.{option_map, OnOk, OnErr}
use Rattle.std.specs.Map.{set_value}
use Rattle.std.specs.Ordering.{nat_cmp}
use Rattle.std.specs.BTreeMap.{is_at}
use Rattle.std.proofs.lemmas.Map.Steps.{set_value_same}
use Rattle.amqp_turns.specs.Stands.{kept_at, OthersStay}
use Rattle.amqp_turns.specs.Outcomes.{Kept, Assembling}
use Rattle.amqp_turns.proofs.Entries.{kept-set_same, kept-set_other}
use Rattle.amqp_content.specs.declared.pending.Pending.{Pending}
use Rattle.amqp_content.specs.Outcomes.{pending_kept, entry_kept}

kept_at-map : (es : List (ℕ × Pending)) (channel : ℕ) → kept_at (map entry_kept es) channel ≡ option_map pending_kept (kept_at es channel)
kept_at-map [] channel = refl
kept_at-map (e ∷ es) channel = by_test (is_at (nat_cmp channel) e.0) (kept_at-map es channel)
  where
    by_test : (test : Bool) → kept_at (map entry_kept es) channel ≡ option_map pending_kept (kept_at es channel)
        → cond test (Some (pending_kept e.1)) (kept_at (map entry_kept es) channel) ≡ option_map pending_kept (cond test (Some e.1) (kept_at es channel))
    by_test true rest = refl
    by_test false rest = rest

map-set_value : (test : ℕ → Bool) (es : List (ℕ × Pending)) (w : Pending)
    → map entry_kept (set_value test es w) ≡ set_value test (map entry_kept es) (pending_kept w)
map-set_value test [] w = refl
map-set_value test (e ∷ es) w = by_test (test e.0) (map-set_value test es w)
  where
    by_test : (at : Bool) → map entry_kept (set_value test es w) ≡ set_value test (map entry_kept es) (pending_kept w)
        → map entry_kept (cond at ((e.0, w) ∷ es) (e ∷ set_value test es w))
        ≡ cond at ((e.0, pending_kept w) ∷ map entry_kept es) (entry_kept e ∷ set_value test (map entry_kept es) (pending_kept w))
    by_test true rest = refl
    by_test false rest = ap (λ xs. entry_kept e ∷ xs) rest

-- a channel that has a value now
pub here : {found : Option Pending} (new : List (ℕ × Pending)) (channel : ℕ)
    → kept_at new channel ≡ found → kept_at (map entry_kept new) channel ≡ option_map pending_kept found
here new channel e = kept_at-map new channel ∙ ap (option_map pending_kept) e

-- the same of a call that may fail
pub here_if : {T E : Type 0} (result : Result T E) (new : List (ℕ × Pending)) (channel : ℕ) (pending : Pending)
    → OnOk result (kept_at new channel ≡ Some pending) → OnOk result (kept_at (map entry_kept new) channel ≡ Some (pending_kept pending))
here_if (Ok x) new channel pending e = here new channel e
here_if (Err x) new channel pending e = tt

-- an assembler as contracts see it, by what it holds
module _ {max : ℕ} (held : List (ℕ × Pending)) (seen : Assembling)
    (view : ◌≡◌ {A = Assembling} (record { max_body = max; channels = map entry_kept held }) seen) where
  -- what is found of a channel is what contracts see kept of it
  pub found_is : {found : Option Pending} (channel : ℕ) → found ≡ kept_at held channel → option_map pending_kept found ≡ kept_at seen.channels channel
  found_is channel e = ap (option_map pending_kept) e ∙ sym (kept_at-map held channel) ∙ ap (λ (a : Assembling). kept_at a.channels channel) view

  -- where a call fails because nothing is found of a channel, contracts see nothing kept of it
  pub absent_if : {T E : Type 0} (result : Result T E) (channel : ℕ)
      → OnErr result (kept_at held channel ≡ None) → OnErr result (kept_at seen.channels channel ≡ None)
  absent_if (Ok x) channel e = tt
  absent_if (Err x) channel e = sym (found_is channel (sym e))

  -- where the entries of other channels stay, contracts see that they do
  pub others : (channel : ℕ) (new : List (ℕ × Pending)) → OthersStay channel held new → OthersStay channel seen.channels (map entry_kept new)
  others channel new stay = λ other ne. here new other (stay other ne) ∙ found_is other refl

  -- a message that is written in its place
  pub record Written (channel : ℕ) (new : List (ℕ × Pending)) (v w : Pending) : Type 0 where
    pub kept : kept_at (map entry_kept new) channel ≡ Some (pending_kept w)
    pub others : OthersStay channel seen.channels (map entry_kept new)
    pub same : pending_kept w ≡ pending_kept v → ◌≡◌ {A = Assembling} (record { max_body = max; channels = map entry_kept new }) seen

  -- a message that is written in its place is kept of its channel, and all other channels stay
  pub written : (channel : ℕ) (new : List (ℕ × Pending)) (v w : Pending) → Some v ≡ kept_at held channel
      → new ≡ set_value (is_at (nat_cmp channel)) held w → Written channel new v w
  written channel new v w found is = record {
    kept = here new channel (ap (λ (es : List (ℕ × Pending)). kept_at es channel) is ∙ kept-set_same held channel v w (sym found));
    others = others channel new (subst (λ (es : List (ℕ × Pending)). OthersStay channel held es) (sym is) (kept-set_other held channel w));
    same = λ e.
        let there : kept_at (map entry_kept held) channel ≡ Some (pending_kept w) = here held channel (sym found) ∙ ap (λ k. Some k) (sym e) in
        let channels : map entry_kept new ≡ map entry_kept held =
        ap (map entry_kept) is ∙ map-set_value (is_at (nat_cmp channel)) held w
        ∙ set_value_same (is_at (nat_cmp channel)) (map entry_kept held) (pending_kept w) there in
        let make : List (ℕ × Kept) → Assembling = λ cs. record { max_body = max; channels = cs } in
        ap make channels ∙ view;
  }
