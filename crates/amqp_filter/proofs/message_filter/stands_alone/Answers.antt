-- `stands_alone`: what it ensures.
use Rattle.std.proofs.Common.{sym, ap, inr, ◌∙◌}
use Rattle.amqp_wire.specs.Frames.{raw_of}
use Rattle.amqp_turns.specs.InTurn.{greatest}
use Rattle.amqp_turns.specs.Steps.{mark_after}
use Rattle.std.specs.Prelude.{None}
use Rattle.amqp_in_turn.proofs.Judging.{passed_mark}
use Rattle.amqp_in_turn.proofs.Placing.{outside_is}
use Rattle.amqp_filter.proofs.message_filter.stands_alone.Goals as goal

pub returns-in-Method : goal.returns-in-Method
returns-in-Method c = λ frame h alone. ap (mark_after greatest None) (sym (c.outline_raw.ensures.frame frame h)) ∙ c.is_passed.ensures alone

pub returns-in-Heartbeat : goal.returns-in-Heartbeat
returns-in-Heartbeat c = λ frame h alone. passed_mark None frame (outside_is (raw_of c.args.raw) frame (inr c.in-Heartbeat.is) h)
