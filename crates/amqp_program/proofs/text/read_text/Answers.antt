-- `read_text`: what it ensures and what loops keep.
use Rattle.std.proofs.Common.{arith, refl}
use Rattle.std.proofs.lemmas.Grind.{common_steps}
use Rattle.std.proofs.lemmas.List.{length-take-le, nil_from_length}
use Rattle.amqp_program.proofs.TextReading.{reads_fault, reads_end, reads_long, reads_no_memory, reads_on}
use Rattle.amqp_program.proofs.text.read_text.Goals as goal

pub returns-in-Err : goal.returns-in-Err
returns-in-Err g c = reads_fault c.loop-text.invariant.so_far c.in-Err.ensures.takes _ refl (omega arith) c.in-Err.ensures.fault

pub returns-then-count-eq0 : goal.returns-then-count-eq0
returns-then-count-eq0 g c =
    let len = length-take-le c.in-Ok.count c.read.new.buf (omega (arith, c.in-Ok.ensures.bound)) in
    reads_end c.loop-text.invariant.so_far c.in-Ok.ensures.takes (nil_from_length _ (omega arith)) (c.in-Ok.ensures.end c.if-count-eq0.true)

pub returns-then-count-len : goal.returns-then-count-len
returns-then-count-len g c =
    let len = length-take-le c.in-Ok.count c.read.new.buf (omega (arith, c.in-Ok.ensures.bound)) in
    reads_long c.loop-text.invariant.so_far c.in-Ok.ensures.takes (omega (arith, c.loop-text.invariant.so_far.fits))

pub returns-then-is_err : goal.returns-then-is_err
returns-then-is_err g c =
    let len = length-take-le c.in-Ok.count c.read.new.buf (omega (arith, c.in-Ok.ensures.bound)) in
    reads_no_memory c.loop-text.invariant.so_far c.in-Ok.ensures.takes (omega (arith, c.loop-text.invariant.so_far.fits))

pub loop-text-preserved : goal.loop-text-preserved
loop-text-preserved g c =
    let len = length-take-le c.in-Ok.count c.read.new.buf (omega (arith, c.in-Ok.ensures.bound)) in
    record {
      so_far = reads_on c.loop-text.invariant.so_far c.in-Ok.ensures.takes _
          (grind (arith, common_steps)) (omega arith) (omega (arith, c.loop-text.invariant.so_far.fits));
      chunk = omega arith;
    }
