-- `bytes_and_texts_correspond`: what it ensures.
use Rattle.amqp_lines.proofs
use proofs.TextLaws.{one_text, one_text_bytes}
use proofs.laws.bytes_and_texts_correspond.Goals as goal

pub returns : goal.returns
returns c = record { one_text = one_text; one_sequence = one_text_bytes }
