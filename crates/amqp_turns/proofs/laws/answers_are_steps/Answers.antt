-- `answers_are_steps`: clauses `frames` and `outlines`.
use Rattle.amqp_wire.specs.Outlines.{outline_of}
use Rattle.amqp_turns.specs.Marks.{itself}
use Rattle.amqp_turns.proofs.Running.{answers_run, run_is_answers, stands_run, run_stands}
use Rattle.amqp_turns.proofs.laws.answers_are_steps.Goals as goal

pub returns-clause-frames : goal.returns-clause-frames
returns-clause-frames c = record {
  steps = run_is_answers outline_of;
  only = answers_run outline_of;
  stands = run_stands outline_of;
  one_stands = stands_run outline_of;
}

pub returns-clause-outlines : goal.returns-clause-outlines
returns-clause-outlines c = record {
  steps = run_is_answers itself;
  only = answers_run itself;
  stands = run_stands itself;
  one_stands = stands_run itself;
}
