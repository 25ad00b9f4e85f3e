-- `gen_frame`: what it ensures and what calls require.
use Rattle.std.proofs.Common.{◌≡◌, ℕ, ◌++◌, ◌∙◌, ap, length, replicate, Ok, IsOk, refl, sym, subst, arith, rules}
use Rattle.std.proofs.lemmas.List.{length-append, length-replicate}
use Rattle.amqp_types.proofs.Puts.{appended}
use Rattle.amqp_frame.specs.Frames.{frame_of}
use Rattle.amqp_wire.specs.Canonical.{canon, size_of}
use Rattle.amqp_wire.proofs.Sizes.{size_is}
use Rattle.amqp_frame.proofs.generation.gen_frame.Goals as goal

pub put_frame-requires-clause-fits : goal.put_frame-requires-clause-fits
put_frame-requires-clause-fits c =
    let found : size_of (frame_of c.args.frame.now) ≡ Ok c.in_ok-size.size = search rules in
    subst IsOk (sym found) refl

pub put_frame-requires-clause-room : goal.put_frame-requires-clause-room
put_frame-requires-clause-room c =
    let found : size_of (frame_of c.args.frame.now) ≡ Ok c.in_ok-size.size = search rules in
    let size = size_is (frame_of c.args.frame.now) c.in_ok-size.size found in
    omega (
      arith,
      size,
      c.in_ok-at.ensures.place,
      ap length c.in_ok-at.ensures.grown,
      ap length c.deref_mut.ensures.value,
      length-append c.args.out.now.items (replicate c.in_ok-size.size 0),
      length-replicate {A = ℕ} c.in_ok-size.size 0,
    )

pub returns : goal.returns
returns c =
    let found : size_of (frame_of c.args.frame.now) ≡ Ok c.in_ok-size.size = search rules in
    let size = size_is (frame_of c.args.frame.now) c.in_ok-size.size found in
    let grown = c.in_ok-at.ensures.grown ∙ ap (λ n. c.args.out.now.items ++ replicate n 0) size in (
      found ∙ ap Ok size,
      appended c.args.out.now.items c.grow.new.out.items c.put_frame.new.buf
          (canon (frame_of c.args.frame.now)) c.grow.new.out.len c.in_ok-at.at grown (search rules) (search rules) (search rules),
    )
