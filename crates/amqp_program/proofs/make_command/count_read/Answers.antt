-- `count_read`: what it ensures.
use Rattle.std.proofs.Common.{arith}
use Rattle.std.proofs.lemmas.Bool.Decides.{nat_tests}
use Rattle.amqp_stream.proofs.MadeSizes.{made-length}
use Rattle.amqp_program.proofs.make_command.count_read.Goals as goal
use Rattle.amqp_program.proofs.make_command.count_read.Goals.{in-0, in-1, in-2, in_default}

pub returns : goal.returns
returns c =
    let all = made-length c.args.frames in
    elim c.match-frames-rem4.branch [
      | in-0 w ↦ grind (arith, nat_tests, all)
      | in-1 w ↦ grind (arith, nat_tests, all)
      | in-2 w ↦ grind (arith, nat_tests, all)
      | in_default w ↦ grind (arith, nat_tests, all)
    ]
