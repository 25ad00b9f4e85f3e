-- Nodes that are put one after another.
use Rattle.std.proofs.Common.{get_or-set_other, length-append, ◌≡◌, ℕ, zero, suc, ◌+◌, ◌-◌, ◌<◌, ◌≤◌, List, [], ◌∷◌, ◌++◌, length, get_or, set, set-set, refl}
use Rattle.std.proofs.Common.{sym, ap, ◌∙◌, arith}
use Rattle.amqp_fields.proofs.Names.{set_comm, Node, blank, held, Listing, listing, pushed, pushed_all, Grows, holding, joined}

-- a place behind the end
pub set_beyond : (xs : List Node) (k : ℕ) (x : Node) → length xs ≤ k → set xs k x ≡ xs
set_beyond [] k x h = refl
set_beyond (y ∷ xs) zero x h = absurd (omega arith)
set_beyond (y ∷ xs) (suc k) x h = ap (λ (ys : List Node). y ∷ ys) (set_beyond xs k x (omega arith))

-- ---- how many there are, and in which order

-- nodes that are put are counted
pub pushed_count : (s : Listing) (added : List Node) → (pushed_all s added).count ≡ s.count + length added
unfolding pushed
pushed_count s [] = omega arith
pushed_count s (node ∷ added) = omega (arith, pushed_count (pushed s node) added)

pushed_append : (s : Listing) (xs ys : List Node) → pushed_all s (xs ++ ys) ≡ pushed_all (pushed_all s xs) ys
pushed_append s [] ys = refl
pushed_append s (x ∷ xs) ys = pushed_append (pushed s x) xs ys

-- nothing more is put
pub grows_none : (s : Listing) → Grows s s []
grows_none s h = refl

-- some nodes and then others are put
pub grows_more : (s t u : Listing) (xs ys : List Node) → Grows s t xs → Grows t u ys → Grows s u (xs ++ ys)
grows_more s t u xs ys one two h =
    let size = length-append xs ys in
    let first : t ≡ pushed_all s xs = one (omega arith) in
    let count : t.count ≡ s.count + length xs = ap (λ (l : Listing). l.count) first ∙ pushed_count s xs in
    let second : u ≡ pushed_all t ys = two (omega arith) in
    second ∙ ap (λ l. pushed_all l ys) first ∙ sym (pushed_append s xs ys)

-- ---- a node that is put in place of an earlier one

replaced : (s : Listing) (place : ℕ) (y : Node) (added : List Node) → place < s.count
    → listing (set (pushed_all s added).nodes place y) (pushed_all s added).count ≡ pushed_all (listing (set s.nodes place y) s.count) added
unfolding pushed
replaced s place y [] h = refl
replaced s place y (node ∷ added) h =
    replaced (pushed s node) place y added (omega arith)
    ∙ ap (λ (xs : List Node). pushed_all (listing xs (s.count + 1)) added) (set_comm s.nodes s.count place node y (λ e. omega arith))

-- a node of a list with other counts of what it holds
held_there : (xs : List Node) (k inside items : ℕ) (node : Node)
    → set xs k (held (get_or (set xs k node) k blank) inside items) ≡ set xs k (held node inside items)
held_there [] k inside items node = refl
held_there (x ∷ xs) zero inside items node = refl
held_there (x ∷ xs) (suc k) inside items node = ap (λ (ys : List Node). x ∷ ys) (held_there xs k inside items node)

-- what was put before is left
kept_there : (s : Listing) (place : ℕ) (added : List Node) → place < s.count → get_or (pushed_all s added).nodes place blank ≡ get_or s.nodes place blank
unfolding pushed
kept_there s place [] h = refl
kept_there s place (node ∷ added) h =
    kept_there (pushed s node) place added (omega arith) ∙ get_or-set_other s.nodes s.count place node blank (λ e. omega arith)

-- a node is put, then all that lies inside it, and then how many that is
pub grows_held : (groups : List (List Node)) (count begun total items : ℕ) (node : Node) (a b c d : List Node)
    → Grows (listing a count) (listing b begun) (node ∷ []) → items ≡ length groups → Grows (listing b begun) (listing c total) (joined groups)
    → d ≡ set c count (held (get_or c count blank) (total - begun) items) → Grows (listing a count) (listing d total) (holding node groups)
unfolding pushed
grows_held groups count begun total items node a b c d one number all last h =
    let first : listing b begun ≡ listing (set a count node) (count + 1) = one (omega arith) in
    let start : begun ≡ count + 1 = ap (λ (l : Listing). l.count) first in
    let second : listing c total ≡ pushed_all (listing b begun) (joined groups) = all (omega arith) in
    let third : listing c total ≡ pushed_all (listing (set a count node) (count + 1)) (joined groups) = second ∙ ap (λ l. pushed_all l (joined groups)) first in
    let size : total ≡ begun + length (joined groups) = ap (λ (l : Listing). l.count) second ∙ pushed_count (listing b begun) (joined groups) in
    let nodes : c ≡ (pushed_all (listing (set a count node) (count + 1)) (joined groups)).nodes = ap (λ (l : Listing). l.nodes) third in
    let there : get_or c count blank ≡ get_or (set a count node) count blank =
    ap (λ xs. get_or xs count blank) nodes ∙ kept_there (listing (set a count node) (count + 1)) count (joined groups) (omega arith) in
    let inside = length (joined groups) in
    let y = held (get_or (set a count node) count blank) inside (length groups) in
    let it : held (get_or c count blank) (total - begun) items ≡ y =
    ap (λ x. held x (total - begun) items) there
    ∙ ap (λ n. held (get_or (set a count node) count blank) n items) {x = total - begun} {y = inside} (omega arith)
    ∙ ap (λ n. held (get_or (set a count node) count blank) inside n) number in
    let put : listing d total ≡ listing (set c count y) total = ap (λ xs. listing xs total) (last ∙ ap (set c count) it) in
    put ∙ ap (λ (l : Listing). listing (set l.nodes count y) l.count) third
    ∙ replaced (listing (set a count node) (count + 1)) count y (joined groups) (omega arith)
    ∙ ap (λ (xs : List Node). pushed_all (listing xs (count + 1)) (joined groups))
    (set-set a count node y ∙ held_there a count inside (length groups) node)
