-- `MessageFilter::begin`: what it ensures.
use Rattle.std.proofs.Common.{Ok, refl, sym, ap, subst, ◌∙◌, IsTrue}
use Rattle.amqp_wire.specs.Frames.{raw_of}
use Rattle.amqp_filter.specs.Held.{OpenByChannel}
use Rattle.amqp_in_turn.specs.Judging.{given}
use Rattle.amqp_filter.specs.Stepping.{filtering, is_method_type}
use Rattle.amqp_in_turn.proofs.Judging.{memory_refuses}
use Rattle.amqp_filter.proofs.message_filter.MessageFilter.begin.Goals as goal

pub returns-in-Err : goal.returns-in-Err
returns-in-Err c =
    memory_refuses filtering refl refl c.args.self.now c.args.self.now (raw_of c.args.raw) (subst (λ k. IsTrue (is_method_type k)) (sym c.requires.method) refl)

pub returns-in-Ok : goal.returns-in-Ok
returns-in-Ok c = λ frame h.
    c.requires.steps frame h ∙ ap (λ (m : OpenByChannel). Ok (given c.args.kept frame, record c.args.self.now { messages = m })) (sym c.in-Ok.ensures.ok)
