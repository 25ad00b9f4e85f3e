-- `entry_after`: what it ensures.
use Rattle.std.proofs.Common.{option_map, List, ℕ, Bor, ap, ◌∙◌}
use Rattle.amqp_types.specs.ValueJudging.{judge_entry, judge_value}
use Rattle.amqp_canonical.specs.Marks.{entries_in}
use Rattle.amqp_lent.specs.Views.{entry_of, taken}
use Rattle.amqp_lent.proofs.Finding.{after_found, none_after}
use Rattle.amqp_lent.proofs.table.entry_after.Goals as goal

pub returns-in-Some : goal.returns-in-Some
returns-in-Some c =
    let last = option_map {T = Bor (List ℕ)} (λ k. k.now) c.args.last in
    after_found c.args.depth_left c.args.content.now last c.in-Some.place _
    (option_map entry_of c.entry_in.result) (c.in-Some.ensures c.args.depth_left c.requires.read)
    (c.entry_in.ensures ∙ ap (λ bs. taken (judge_entry (judge_value c.args.depth_left) bs)) c.bytes_from.ensures)

pub returns-in-None : goal.returns-in-None
returns-in-None c =
    let last = option_map {T = Bor (List ℕ)} (λ k. k.now) c.args.last in
    none_after last (entries_in c.args.depth_left c.args.content.now) (c.in-None.ensures c.args.depth_left c.requires.read)
