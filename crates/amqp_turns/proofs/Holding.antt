-- What is kept of channels, by their entries.
use Rattle.std.proofs.Common.{◌≡◌, ◌≢◌, ℕ, true, false, cond, eqb, List, [], ◌∷◌, length, map, refl, sym, ap, ◌∙◌, arith, Option, Some, None, inl, inr}
use Rattle.std.specs.Prelude.{option_map}
use Rattle.std.proofs.lemmas.Bool.{cases_Bool, eq-eqb, ne_eqb}
use Rattle.std.proofs.lemmas.List.{length-map}
use Rattle.std.specs.FinMap as finite
use Rattle.std.specs.FinMap.{get-insert, get-remove, get-from_entries, get-entries, get-empty, len-entries, len-empty, empty_of_len, same_map}
use Rattle.std.specs.FinMap.{nat_cmp-IsAntisymmetric, find}
use Rattle.std.specs.Cmp.{nat_cmp_total}
use Rattle.std.specs.Map.{set_value}
use Rattle.std.specs.Ordering.{nat_cmp, eq_by_cmp}
use Rattle.std.proofs.lemmas.Grind.{common_steps}
use Rattle.std.specs.BTreeMap.{is_at}
use Rattle.amqp_turns.specs.Stands.{kept_at, OthersStay}
use Rattle.amqp_turns.specs.ByChannel.{ByChannel, set_at}
use Rattle.amqp_turns.proofs.Entries.{kept-set_same, kept-set_other}

-- a channel is itself, and no other
pub at_itself : (k : ℕ) → eq_by_cmp nat_cmp k k ≡ true
at_itself k = grind (arith, common_steps)

-- Different channels compare as different.
pub at_other : (q k : ℕ) → q ≢ k → eq_by_cmp nat_cmp q k ≡ false
at_other q k ne = grind (arith, common_steps)

same_at : (q k : ℕ) → eq_by_cmp nat_cmp q k ≡ true → q ≡ k
same_at q k e = grind (arith, common_steps)

module _ {K : Type 0} where
  -- After a channel is set, what was set is kept of it, and of others what was.
  pub get-set_at : (holding : ByChannel K) (channel : ℕ) (held : Option K) (q : ℕ)
      → finite.get (set_at holding channel held) q ≡ cond (eq_by_cmp nat_cmp q channel) held (finite.get holding q)
  get-set_at holding channel None q = get-remove nat_cmp_total holding channel q
  get-set_at holding channel (Some held) q = get-insert nat_cmp_total holding channel held q

  same_holding : (m n : ByChannel K) → ((q : ℕ) → finite.get m q ≡ finite.get n q) → m ≡ n
  same_holding m n is = same_map nat_cmp_total nat_cmp-IsAntisymmetric m n is

  -- what is kept of a channel is set again
  pub set_at-same : (holding : ByChannel K) (channel : ℕ) → holding ≡ set_at holding channel (finite.get holding channel)
  set_at-same holding channel = same_holding holding _ (λ q. elim (cases_Bool (eq_by_cmp nat_cmp q channel)) [
    | inl e ↦ rw (get-set_at holding channel (finite.get holding channel) q, e) (ap (finite.get holding) (same_at q channel e))
    | inr e ↦ rw (get-set_at holding channel (finite.get holding channel) q, e) refl
  ])

  -- what was set for the first time is taken back
  pub set_back : (holding : ByChannel K) (channel : ℕ) (held : K) → finite.get holding channel ≡ None
      → finite.remove (finite.insert holding channel held) channel ≡ holding
  set_back holding channel held none = same_holding _ holding (λ q. elim (cases_Bool (eq_by_cmp nat_cmp q channel)) [
    | inl e ↦ rw (get-set_at (finite.insert holding channel held) channel None q, e) (sym none ∙ ap (finite.get holding) (sym (same_at q channel e)))
    | inr e ↦ rw (get-set_at (finite.insert holding channel held) channel None q, e, get-set_at holding channel (Some held) q, e) refl
  ])

  -- nothing is kept, or something of some channel
  pub none_held : (m : ByChannel K) → finite.len m ≡ 0 → (q : ℕ) → finite.get m q ≡ None
  none_held m e q = ap (λ h. finite.get h q) (empty_of_len m e) ∙ get-empty nat_cmp q

  some_in : (es : List (ℕ × K)) → length es ≢ 0 → (k : ℕ) × (y : K) × (find nat_cmp k es ≡ Some y)
  some_in [] some = absurd (some refl)
  some_in (e ∷ es) some = (e.0, e.1, ap (λ b. cond b (Some e.1) (find nat_cmp e.0 es)) (at_itself e.0))

  -- Where something is kept, there is a channel of which it is.
  pub some_held : (m : ByChannel K) → finite.len m ≢ 0 → (k : ℕ) × (y : K) × (finite.get m k ≡ Some y)
  some_held m some =
      let found = some_in (finite.entries m) (λ e. some (len-entries m ∙ e)) in
      (found.0, found.1, get-entries m found.0 ∙ found.2)

  -- ---- by entries

  -- what is kept of channels, by their entries
  abbrev pub holding_of : List (ℕ × K) → ByChannel K
  holding_of es = finite.from_entries es

  find_kept : (es : List (ℕ × K)) (q : ℕ) → find nat_cmp q es ≡ kept_at es q
  find_kept [] q = refl
  find_kept (e ∷ es) q = ap (λ o. cond (is_at (nat_cmp q) e.0) (Some e.1) o) (find_kept es q)

  -- What is kept of a channel by entries is the value of its entry.
  pub get-holding : (es : List (ℕ × K)) (q : ℕ) → finite.get (holding_of es) q ≡ kept_at es q
  get-holding es q = get-from_entries nat_cmp_total es q ∙ find_kept es q

  -- Entries with a new value for one channel, and those that were for others, are what was kept with this channel set.
  pub holding_updated : (es new : List (ℕ × K)) (channel : ℕ) (held : Option K) → kept_at new channel ≡ held
      → OthersStay channel es new → holding_of new ≡ set_at (holding_of es) channel held
  holding_updated es new channel held here stay = same_holding _ _ (λ q. elim (cases_Bool (eq_by_cmp nat_cmp q channel)) [
    | inl e ↦ rw (get-holding new q, get-set_at (holding_of es) channel held q, e) (ap (λ k. kept_at new k) (same_at q channel e) ∙ here)
    | inr e ↦
        let apart : q ≢ channel = λ same. let t = ap (λ k. eq_by_cmp nat_cmp k channel) same ∙ at_itself channel in let no : true ≡ false = sym t ∙ e in cc in
        rw (get-holding new q, get-set_at (holding_of es) channel held q, e) (stay q apart ∙ sym (get-holding es q))
  ])

  -- There are no entries exactly where nothing is kept of any channel.
  pub holding_empty : (es : List (ℕ × K)) → eqb (length es) 0 ≡ eqb (finite.len (holding_of es)) 0
  holding_empty [] = sym (eq-eqb _ 0 (len-empty nat_cmp K))
  holding_empty (e ∷ es) =
      ne_eqb (length (e ∷ es)) 0 (λ h. absurd (omega (arith, h)))
      ∙ sym (ne_eqb _ 0 (λ none.
      some_kept (sym (none_held (holding_of (e ∷ es)) none e.0) ∙ get-holding (e ∷ es) e.0 ∙ ap (λ b. cond b (Some e.1) (kept_at es e.0)) (at_itself e.0))))
    where
      some_kept : None ≡ Some e.1 → ⊥
      some_kept e = cc

-- ---- by entries whose values are seen through a function

module _ {X K : Type 0} (f : X → K) where
  -- an entry with its value seen through a function
  abbrev pub entry_of : ℕ × X → ℕ × K
  entry_of e = (e.0, f e.1)

  abbrev pub seen_of : List (ℕ × X) → ByChannel K
  seen_of es = finite.from_entries (map entry_of es)

  kept-map : (es : List (ℕ × X)) (q : ℕ) → kept_at (map entry_of es) q ≡ option_map f (kept_at es q)
  kept-map [] q = refl
  kept-map (e ∷ es) q = elim (cases_Bool (is_at (nat_cmp q) e.0)) [ inl t ↦ rw t refl | inr t ↦ rw t (kept-map es q) ]

  pub get-seen : (es : List (ℕ × X)) (q : ℕ) → finite.get (seen_of es) q ≡ option_map f (kept_at es q)
  get-seen es q = get-holding (map entry_of es) q ∙ kept-map es q

  pub seen_updated : (es new : List (ℕ × X)) (channel : ℕ) (w : Option X) → kept_at new channel ≡ w
      → OthersStay channel es new → seen_of new ≡ set_at (seen_of es) channel (option_map f w)
  seen_updated es new channel w here stay =
      holding_updated (map entry_of es) (map entry_of new) channel (option_map f w) (kept-map new channel ∙ ap (option_map f) here)
      (λ q apart. kept-map new q ∙ ap (option_map f) (stay q apart) ∙ sym (kept-map es q))

  pub seen_written : (es new : List (ℕ × X)) (channel : ℕ) (v w : X) → kept_at es channel ≡ Some v
      → new ≡ set_value (is_at (nat_cmp channel)) es w → seen_of new ≡ set_at (seen_of es) channel (Some (f w))
  seen_written es new channel v w found is =
      ap seen_of is
      ∙ seen_updated es (set_value (is_at (nat_cmp channel)) es w) channel (Some w) (kept-set_same es channel v w found) (kept-set_other es channel w)

  -- where what is kept stays, nothing is changed
  pub seen_unwritten : (es new : List (ℕ × X)) (channel : ℕ) (v w : X) → kept_at es channel ≡ Some v
      → f w ≡ f v → new ≡ set_value (is_at (nat_cmp channel)) es w → seen_of new ≡ seen_of es
  seen_unwritten es new channel v w found same is =
      let was : finite.get (seen_of es) channel ≡ Some (f v) = get-seen es channel ∙ ap (option_map f) found in
      seen_written es new channel v w found is ∙ ap (set_at (seen_of es) channel) (ap (λ k. Some k) same ∙ sym was) ∙ sym (set_at-same (seen_of es) channel)

  pub seen_empty : (es : List (ℕ × X)) → eqb (length es) 0 ≡ eqb (finite.len (seen_of es)) 0
  seen_empty es = ap (λ n. eqb n 0) (sym (length-map es entry_of)) ∙ holding_empty (map entry_of es)
