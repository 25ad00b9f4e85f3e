-- `frame_size`: what it ensures.
use Rattle.std.proofs.Common.{sym, ap, ◌∙◌}
use Rattle.amqp_frame.specs.Frames.{frame_of}
use Rattle.amqp_wire.specs.Canonical.{framed_size, size_of}
use Rattle.amqp_wire.proofs.Sizes.{method_size_is, header_size_is}
use Rattle.amqp_frame.proofs.generation.frame_size.Goals as goal

pub returns-in-Method : goal.returns-in-Method
returns-in-Method c =
    c.size_framed.ensures ∙ ap framed_size c.size_class.ensures.measured ∙ method_size_is _ _ ∙ ap (λ f. size_of (frame_of f)) (sym c.in-Method.is)

pub returns-in-Header : goal.returns-in-Header
returns-in-Header c =
    c.size_framed-in-Header.ensures ∙ ap framed_size c.size_content_header.ensures.size
    ∙ header_size_is _ _ ∙ ap (λ f. size_of (frame_of f)) (sym c.in-Header.is)
