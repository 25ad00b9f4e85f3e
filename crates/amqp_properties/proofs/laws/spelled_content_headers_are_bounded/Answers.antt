-- `spelled_content_headers_are_bounded`: what it ensures.
use Rattle.amqp_laws.proofs.HeaderLaws.{content_headers_bounded}
use Rattle.amqp_properties.proofs.laws.spelled_content_headers_are_bounded.Goals as goal

pub returns : goal.returns
returns c = content_headers_bounded
