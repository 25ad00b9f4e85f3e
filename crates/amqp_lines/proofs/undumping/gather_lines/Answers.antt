-- `gather_lines`: what it ensures, what loops keep and what falls with each iteration.
use Rattle.amqp_lines.proofs
use proofs.Names.{length, ap, refl, arith, length-drop}
use proofs.Gathering.{along_begins, along_line, lines_done, lines_error, none_yet}
use proofs.undumping.gather_lines.Goals as goal

pub lines-init : goal.lines-init
lines-init g c = record { along = along_begins _ _ _ _ _; within = c.requires.within; none = c.requires.none }

pub returns-in-None : goal.returns-in-None
returns-in-None g c = lines_done c.lines.invariant.along _ refl c.in-None.ensures

pub returns-in-Err : goal.returns-in-Err
returns-in-Err g c =
    lines_error c.lines.invariant.along _ _ c.first_bytes.ensures c.in-Some.ensures c.in-Err.ensures.gathers c.in-Err.ensures.passes

pub lines-smaller : goal.lines-smaller
lines-smaller g c =
    omega (arith, ap length c.bytes_from-rest.ensures, length-drop c.in-Some.end c.lines.rest.now, c.in-Some.ensures.some, c.in-Some.ensures.within)

pub lines-preserved : goal.lines-preserved
lines-preserved g c = record {
  along = along_line c.lines.invariant.along c.in-Some.end _ _ c.first_bytes.ensures c.bytes_from-rest.ensures c.in-Ok.ensures.gathers c.in-Ok.ensures.passes;
  within = omega arith;
  none = none_yet c.bytes_from-rest.result.now;
}
