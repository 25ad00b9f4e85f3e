-- `canonical_content_headers_are_strict`: what it ensures.
use Rattle.amqp_laws.proofs.HeaderLaws.{content_headers_lawful}
use Rattle.amqp_canonical.proofs.Strict.{lawful_strict}
use Rattle.amqp_canonical.proofs.laws.canonical_content_headers_are_strict.Goals as goal

pub returns : goal.returns
returns c = lawful_strict content_headers_lawful
