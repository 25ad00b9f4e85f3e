-- `enclose`: what it ensures.
use Rattle.amqp_fields_write.proofs
use proofs.Names.{refl, ap, arith, numbers, head}
use proofs.Quick.{bytes_as, bytes_laid, part_fits}
use proofs.laying_frames.enclose.Goals as goal

pub returns : goal.returns
returns g c =
    let h = bytes_as (ap (head c.args.head.now.frame_type c.args.head.now.channel) c.saturating_sub-n.ensures) c.lay_head.ensures in
    record {
      sound = λ t few. record {
        fits = omega arith;
        mid = _;
        front = _;
        laid = bytes_laid (h.sound t (grind numbers));
        ended = bytes_laid (c.lay.ensures.sound t few);
      };
      complete = λ le room last.
          let a = h.complete _ refl room in
          record { fits = le; mid = _; front = _; laid = a; ended = c.lay.ensures.complete _ refl (part_fits last a.same_length (omega arith)) };
    }

pub returns-then-lay_head : goal.returns-then-lay_head
returns-then-lay_head g c =
    let h = bytes_as (ap (head c.args.head.now.frame_type c.args.head.now.channel) c.saturating_sub-n.ensures) c.lay_head.ensures in
    record {
      sound = λ t few. absurd (omega arith);
      complete = λ le room last. absurd (omega (arith, (h.complete _ refl room).end_is, room.few, c.if-lay_head.true));
    }
