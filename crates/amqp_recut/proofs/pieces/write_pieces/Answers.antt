-- `write_pieces`: clause `gathers` and what loops keep.
use Rattle.amqp_recut.proofs
use Rattle.std.proofs.Common.{[], ◌++◌, refl, ◌∙◌, ◌-◌, arith}
use Rattle.std.proofs.lemmas.List.{length-append}
use proofs.Gathering.{gathered_none}
use proofs.Piecing.{given_of_two, given_fails, given_end, given_short, given_whole, rest_shorter}
use proofs.pieces.write_pieces.Goals as goal
use proofs.pieces.write_pieces.Goals.{else-ends-via-then-ends+else-first-second-gt0, else-ends-via-else-ends}

pub loop-first-init : goal.loop-first-init
loop-first-init g c =
    record { front = omega arith; back = omega arith; room = refl; given = record { done = []; gathered = gathered_none _ _ _ refl; parts = refl } }

pub loop-first-preserved : goal.loop-first-preserved
loop-first-preserved g c =
    let a = c.loop-first.invariant in
    record {
      front = rest_shorter _ _ _ a.front;
      back = rest_shorter _ _ _ a.back;
      room = c.in-Ok.ensures.room ∙ a.room;
      given = given_of_two _ _ _ c.requires.some _ _ _ _ c.loop-first-test.true c.min-n.ensures refl a.given c.in-Ok.ensures.gathers;
    }

pub returns-in-Err-clause-gathers : goal.returns-in-Err-clause-gathers
returns-in-Err-clause-gathers g c =
    given_fails _ _ _ c.requires.some _ _ _ _ c.loop-first-test.true c.min-n.ensures refl c.loop-first.invariant.given c.in-Err.ensures.gathers

pub returns-then-first-second-gt0-clause-gathers : goal.returns-then-first-second-gt0-clause-gathers
returns-then-first-second-gt0-clause-gathers g c =
    let first = c.loop-first.first.now in
    let second = c.loop-first.second.now in
    let total = length-append first second in
    given_end c.args.size _ _ c.requires.some (first ++ second) (omega arith) c.loop-first.invariant.given _ _ _ (omega arith) c.if-ends.true
    c.write_piece-last.ensures.gathers

pub returns-clause-gathers : goal.returns-clause-gathers
returns-clause-gathers g c =
    let first = c.loop-first.first.now in
    let second = c.loop-first.second.now in
    let total = length-append first second in
    elim c.else-ends.branch [
      | else-ends-via-then-ends+else-first-second-gt0 w ↦
          given_whole c.args.size _ _ c.requires.some (first ++ second) (omega arith) c.loop-first.invariant.given (omega (arith, w.if-first-second-gt0.false))
      | else-ends-via-else-ends w ↦
          given_short c.args.size _ _ c.requires.some (first ++ second) (omega arith) c.loop-first.invariant.given w.if-ends.false
    ]
