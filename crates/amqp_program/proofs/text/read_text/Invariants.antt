-- `read_text`: what loops keep and what falls with each iteration or call.
use Rattle.std.proofs.Common.{◌≡◌, ◌-◌, length}
use Rattle.amqp_program.specs.Texts.{longest}
use Rattle.amqp_program.proofs.TextReading.{ReadSoFar}
use Rattle.amqp_program.proofs.text.read_text.Given as goal

abbrev pub invariant-loop-text : goal.invariant-loop-text
invariant-loop-text g l = record {
  so_far : ReadSoFar (g.S.Source.supply l.fn.source) (g.S.Source.supply l.source) l.text.items;
  chunk : length l.chunk ≡ 4096;
}

abbrev pub decreases-loop-text : goal.decreases-loop-text
decreases-loop-text g l = longest - length l.text.items
