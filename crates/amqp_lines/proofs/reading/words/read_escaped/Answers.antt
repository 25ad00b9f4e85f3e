-- `read_escaped`: what it ensures where the text is empty.
use Rattle.amqp_lines.proofs
use proofs.Names.{refl, sym, append-nil}
use proofs.ReadSteps.{escape_none}
use proofs.reading.words.read_escaped.Goals as goal

pub returns-in-empty : goal.returns-in-empty
returns-in-empty c = rw (escape_none c.args.i.now c.in-empty.len_below) (refl, sym (append-nil _))
