-- `feksroum_piece_at`: clauses `piece` and `within`.
use Rattle.std.proofs.Common.{rules, ◌≡◌, ◌+◌, ◌-◌, ◌*◌, ◌<◌, ◌≤◌, ◌==◌, min, subst, ap₂, ◌∙◌, arith}
use Rattle.std.proofs.lemmas.Bool.Decides.{nat_tests}
use Rattle.amqp_c.proofs.BodiesCut.{first_at, later_at, later_within, no_piece_at}
use Rattle.amqp_c.proofs.recutting.feksroum_piece_at.Goals as goal

pub returns-then-k-count_pieces-clause-piece : goal.returns-then-k-count_pieces-clause-piece
returns-then-k-count_pieces-clause-piece c = λ less flag front body channel front_is body_is.
    let many : c.count_pieces.result ≤ c.args.k = grind (arith, nat_tests) in
    no_piece_at c.args.size (c.from.result + c.from-2.result) c.args.k channel (c.args.ends == 1) front body
    (omega (arith, front_is, body_is, c.from.ensures, c.from-2.ensures)) c.no_piece-then-k-count_pieces.result
    (subst (λ n. n ≤ c.args.k) c.count_pieces.ensures many) c.no_piece-then-k-count_pieces.ensures

pub returns-then-k-eq0-clause-piece : goal.returns-then-k-eq0-clause-piece
returns-then-k-eq0-clause-piece c = λ less flag front body channel front_is body_is.
    let total = c.from.result + c.from-2.result in
    let some : c.args.k < c.count_pieces.result = grind (arith, nat_tests) in
    let least : c.min-count.result ≡ min (total - c.args.k * c.from-3.result) c.from-4.result = search rules in
    first_at c.args.size total c.args.k channel (c.args.ends == 1) front body (omega (arith, front_is, body_is, c.from.ensures, c.from-2.ensures))
    c.min-count.result c.args.held front_is less (grind (arith, nat_tests)) (subst (λ n. c.args.k < n) c.count_pieces.ensures some)
    (least ∙ ap₂ (λ x y. min (total - c.args.k * x) y) c.from-3.ensures c.from-4.ensures)

pub returns-clause-piece : goal.returns-clause-piece
returns-clause-piece c = λ less flag front body channel front_is body_is.
    let total = c.from.result + c.from-2.result in
    let some : c.args.k < c.count_pieces.result = grind (arith, nat_tests) in
    let least : c.min-count.result ≡ min (total - c.args.k * c.from-3.result) c.from-4.result = search rules in
    later_at c.args.size total c.args.k channel (c.args.ends == 1) front body (omega (arith, front_is, body_is, c.from.ensures, c.from-2.ensures))
    (c.args.k * c.from-3.result - c.from-5.result) c.min-count.result c.args.held front_is less (grind (arith, nat_tests))
    (subst (λ n. c.args.k < n) c.count_pieces.ensures some) (ap₂ (λ x y. c.args.k * x - y) c.from-3.ensures c.from-5.ensures)
    (least ∙ ap₂ (λ x y. min (total - c.args.k * x) y) c.from-3.ensures c.from-4.ensures)

pub returns-clause-within : goal.returns-clause-within
returns-clause-within c =
    let total = c.from.result + c.from-2.result in
    let some : c.args.k < c.count_pieces.result = grind (arith, nat_tests) in
    let least : c.min-count.result ≡ min (total - c.args.k * c.from-3.result) c.from-4.result = search rules in
    later_within c.args.size total c.args.k (c.args.k * c.from-3.result - c.from-5.result) c.min-count.result c.args.held c.args.len
    (c.args.ends == 1) (grind (arith, nat_tests)) (omega (arith, c.from.ensures, c.from-2.ensures)) (grind (arith, nat_tests))
    (subst (λ n. c.args.k < n) c.count_pieces.ensures some) (ap₂ (λ x y. c.args.k * x - y) c.from-3.ensures c.from-5.ensures)
    (least ∙ ap₂ (λ x y. min (total - c.args.k * x) y) c.from-3.ensures c.from-4.ensures)
