-- The rules that no earlier one covers, from a place on.
use Rattle.std.proofs.Common.{◌≡◌, ℕ, true, false, ◌+◌, ◌<◌, ◌≤◌, List, [], ◌∷◌, ◌++◌, length, take, drop, get_or, Option, Some, None, refl, sym, ap, ◌∙◌}
use Rattle.std.specs.Prelude.{is_none, is_some, position}
use Rattle.std.specs.List.{filter_map, cons_option, enumerate_from}
use Rattle.std.proofs.lemmas.List.{append-nil, append_assoc, drop_more, drop_all}
use Rattle.std.proofs.lemmas.Option.{slice_get-get_or}
use Rattle.amqp_select.specs.declared.rule.Rule.{Rule}
use Rattle.amqp_select.specs.Covering.{covers, covered, uncovered_at}

-- of the rules from a place on, those that no earlier one covers
abbrev pub uncovered_from : List Rule → ℕ → List Rule
uncovered_from rules k = filter_map (uncovered_at rules) (enumerate_from k (drop k rules))

-- Which rule covers the one at a place is the first before it that does.
pub covered_at : (rules : List Rule) (k : ℕ) (d : Rule) → k < length rules
    → covered rules k ≡ position (λ earlier. covers earlier (get_or rules k d)) (take k rules)
covered_at rules k d h = rw (slice_get-get_or rules k d h) refl

one_on : (rules kept : List Rule) (k : ℕ) (d : Rule) → k < length rules
    → kept ++ uncovered_from rules k ≡ kept ++ cons_option (uncovered_at rules (k, get_or rules k d)) (uncovered_from rules (k + 1))
one_on rules kept k d h = ap (λ (rest : List Rule). kept ++ filter_map (uncovered_at rules) (enumerate_from k rest)) (drop_more rules k d h)

uncovered_here : (o : Option ℕ) → is_some o ≡ false → is_none o ≡ true
uncovered_here None e = refl
uncovered_here (Some place) e = absurd cc

covered_here : (o : Option ℕ) → is_some o ≡ true → is_none o ≡ false
covered_here None e = absurd cc
covered_here (Some place) e = refl

-- A rule that no earlier one covers is taken, and those after it are left.
pub taken_on : (rules kept all : List Rule) (k : ℕ) (d : Rule) → k < length rules → kept ++ uncovered_from rules k ≡ all
    → is_some (covered rules k) ≡ false → (kept ++ get_or rules k d ∷ []) ++ uncovered_from rules (k + 1) ≡ all
taken_on rules kept all k d h e none =
    let here = rw (uncovered_here (covered rules k) none) at (one_on rules kept k d h) in
    append_assoc kept (get_or rules k d ∷ []) (uncovered_from rules (k + 1)) ∙ sym here ∙ e

any : Rule
any = record { keep = false; channel = None; kind = None; class_id = None; method_id = None }

-- A rule that an earlier one covers is passed over, and those after it are left.
pub passed_on : (rules kept all : List Rule) (k : ℕ) → k < length rules → kept ++ uncovered_from rules k ≡ all
    → is_some (covered rules k) ≡ true → kept ++ uncovered_from rules (k + 1) ≡ all
passed_on rules kept all k h e some =
    let here = rw (covered_here (covered rules k) some) at (one_on rules kept k any h) in
    sym here ∙ e

-- Past the last rule, those that were taken are all that no earlier one covers.
pub all_taken : (rules kept all : List Rule) (k : ℕ) → length rules ≤ k → kept ++ uncovered_from rules k ≡ all → kept ≡ all
all_taken rules kept all k h e =
    sym (append-nil kept) ∙ ap (λ (rest : List Rule). kept ++ filter_map (uncovered_at rules) (enumerate_from k rest)) (sym (drop_all k rules h)) ∙ e
