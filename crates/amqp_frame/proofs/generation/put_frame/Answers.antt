-- `put_frame`: what it ensures and what calls require.
use Rattle.std.proofs.Common.{◌≡◌, IsOk, length, ap, subst, arith}
use Rattle.amqp_frame.specs.declared.frame.AMQPFrame.{AMQPFrame}
use Rattle.amqp_frame.specs.Frames.{frame_of}
use Rattle.amqp_wire.specs.Canonical.{canon, size_of}
use Rattle.amqp_wire.proofs.Sizes.{method_fits, header_fits, body_few}
use Rattle.amqp_frame.proofs.generation.put_frame.Goals as goal

-- the frame that was matched can be written too
matched : (whole part : AMQPFrame) → whole ≡ part → IsOk (size_of (frame_of whole)) → IsOk (size_of (frame_of part))
matched whole part is h = subst (λ f. IsOk (size_of (frame_of f))) is h

pub put_method-requires-clause-fits : goal.put_method-requires-clause-fits
put_method-requires-clause-fits c = (method_fits _ _ (matched _ _ c.in-Method.is c.requires.fits)).fits

pub put_method-requires-clause-few : goal.put_method-requires-clause-few
put_method-requires-clause-few c = (method_fits _ _ (matched _ _ c.in-Method.is c.requires.fits)).few

pub put_header-requires-clause-fits : goal.put_header-requires-clause-fits
put_header-requires-clause-fits c = (header_fits _ _ (matched _ _ c.in-Header.is c.requires.fits)).fits

pub put_header-requires-clause-few : goal.put_header-requires-clause-few
put_header-requires-clause-few c = (header_fits _ _ (matched _ _ c.in-Header.is c.requires.fits)).few

pub put_framed-requires-clause-short : goal.put_framed-requires-clause-short
put_framed-requires-clause-short c = omega (arith, body_few _ _ (matched _ _ c.in-Body.is c.requires.fits), ap length c.as_slice.ensures)

pub returns-in-Header : goal.returns-in-Header
unfolding canon
returns-in-Header c = rw c.in-Header.is c.put_header.ensures
