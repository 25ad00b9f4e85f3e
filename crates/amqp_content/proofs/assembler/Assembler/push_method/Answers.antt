-- `Assembler::push_method`: clauses `takes` and `memory`.
use Rattle.std.proofs.Common.{sym, subst, ◌∙◌}
use Rattle.std.specs.Prelude.{IfOk, OnErr}
use Rattle.amqp_protocol.specs.Classes.{method_of}
use Rattle.amqp_wire.specs.Frames.{Meth}
use Rattle.amqp_turns.specs.Stands.{kept_at}
use Rattle.amqp_content.specs.Outcomes.{TakesIn, outcome_of}
use Rattle.amqp_content.specs.Memory.{NeedsMemoryAt}
use Rattle.amqp_content.proofs.Telling.{fault_taken, method_taken, opening_needs}
use Rattle.amqp_content.proofs.assembler.Assembler.push_method.Goals as goal

pub returns-in_default-clause-takes : goal.returns-in_default-clause-takes
returns-in_default-clause-takes c =
    let frame = Meth c.args.channel_id (method_of c.args.class) in
    let mark = rw (c.get_amqp_class_id.ensures, c.get_amqp_method_id.ensures) at c.mark.ensures in
    let is = method_taken _ _ c.args.channel_id (method_of c.args.class) (λ bad e. c.in_default.not-Fault bad (mark ∙ e)) in
    subst (λ m. IfOk c.take_method.result (λ outcome. TakesIn c.args.self.now c.take_method.new.self frame m (outcome_of outcome)))
    (sym is) c.take_method.ensures.takes

pub returns-in_default-clause-memory : goal.returns-in_default-clause-memory
returns-in_default-clause-memory c =
    let mark = rw (c.get_amqp_class_id.ensures, c.get_amqp_method_id.ensures) at c.mark.ensures in
    let is = method_taken _ _ c.args.channel_id (method_of c.args.class) (λ bad e. c.in_default.not-Fault bad (mark ∙ e)) in
    opening_needs _ _ _ (method_of c.args.class) c.take_method.result is c.take_method.ensures.opens c.take_method.ensures.absent

pub returns-in-Fault-clause-takes : goal.returns-in-Fault-clause-takes
returns-in-Fault-clause-takes c =
    let mark = rw (c.get_amqp_class_id.ensures, c.get_amqp_method_id.ensures) at c.mark.ensures in
    let frame = Meth c.args.channel_id (method_of c.args.class) in
    subst (λ m. IfOk c.fail.result (λ outcome. TakesIn c.args.self.now c.fail.new.self frame m (outcome_of outcome))) (sym c.in-Fault.is ∙ mark)
    (fault_taken _ _ _ _ c.fail.result c.fail.ensures.outcome c.fail.ensures.kept)

pub returns-in-Fault-clause-memory : goal.returns-in-Fault-clause-memory
returns-in-Fault-clause-memory c =
    let mark = rw (c.get_amqp_class_id.ensures, c.get_amqp_method_id.ensures) at c.mark.ensures in
    let frame = Meth c.args.channel_id (method_of c.args.class) in
    let kept = kept_at c.args.self.now.channels c.args.channel_id in
    subst (λ m. OnErr c.fail.result (NeedsMemoryAt kept frame m)) (sym c.in-Fault.is ∙ mark) c.fail.ensures.absent
