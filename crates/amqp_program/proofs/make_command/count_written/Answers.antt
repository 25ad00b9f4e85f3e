-- `count_written`: what calls require and that no place or sum is out of range.
use Rattle.std.proofs.Common.{◌+◌, arith, rules}
use Rattle.amqp_stream.proofs.MadeSizes.{made-short}
use Rattle.amqp_program.proofs.MakeRuns.{only_no_memory}
use Rattle.amqp_program.proofs.make_command.count_written.Goals as goal

pub overflow_add-read : goal.overflow_add-read
overflow_add-read c = let few = made-short c.args.frames c.requires.few in search (rules, few)

pub unreachable-requires : goal.unreachable-requires
unreachable-requires c =
    let call = c.canonicalize-answer in
    c.in_default.not-NoMemory
    (only_no_memory c.args.frames (c.args.read + 1) c.new-source.result call.new.source c.new-sink.result call.new.sink call.result c.in-Err.error
    c.requires.few c.new-source.ensures (omega (arith, c.requires.read)) c.new-sink.ensures call.ensures.run c.total-written.ensures.faultless c.in-Err.is)
