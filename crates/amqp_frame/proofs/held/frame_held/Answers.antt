-- `frame_held`: what it ensures.
use Rattle.amqp_frame.proofs.held.frame_held.Goals as goal

pub returns-in-Header : goal.returns-in-Header
returns-in-Header c = rw c.in-Header.is (c.short_held-in-Header.ensures, c.content_header_held.ensures)
