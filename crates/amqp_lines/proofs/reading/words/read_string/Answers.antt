-- `read_string`: what it ensures.
use Rattle.amqp_lines.proofs
use proofs.Names.{inside, read_escaped, read_string}
use proofs.ReadSteps.{framed_read}
use proofs.reading.words.read_string.Goals as goal

pub returns : goal.returns
unfolding read_string
returns c =
    framed_read _ _ (inside read_escaped 34 _) _ _ _ _ _ c.requires.few
    c.in_ok-place.ensures.place c.in_ok-place.ensures.zeros c.in_ok-rest.ensures c.put_length.ensures
