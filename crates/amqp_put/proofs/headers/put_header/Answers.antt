-- `put_header`: what it returns once the properties are measured.
use Rattle.std.proofs.Common.{ap, arith, length, refl, sym, Some, true≢false, ◌∙◌}
use Rattle.amqp_put.proofs.HeadersMade.{forms_count, header_length, header_made}
use Rattle.amqp_put.proofs.SizesAdded.{refused_is, sized}
use Rattle.amqp_put.proofs.headers.put_header.Goals as goal

pub size-size-requires : goal.size-size-requires
size-size-requires g c = omega (arith, forms_count g.P.ToProperties.forms c.requires.all, c.requires.few)

pub returns-then-not-fits : goal.returns-then-not-fits
returns-then-not-fits g c = (
  refused_is 14 _ _ _ _ c.args.max_payload (length c.args.out.now) c.size-size.ensures.size
      (header_length c.args.class c.args.body_size _ _ _ c.requires.all (g.met.P.ToProperties.spells c.args.fields.now 15))
      (λ both. true≢false (sym (c.fits.ensures.1 both) ∙ c.if-not-fits.true)) ∙ ap Some (sym c.refusal.ensures),
  refl,
)

pub returns : goal.returns
returns g c =
    let fits = c.fits.ensures.0 c.if-not-fits.false in
    header_made c.args.out.now _ _ _ c.put_around.new.buf _ _ _ _ c.args.channel c.args.class c.args.body_size _ _ _ _ _ _ _
    (sized 14 _ _ _ c.size-size.ensures.size (omega (arith, fits.0, c.ranges.max_payload.fits))) c.requires.all
    (g.met.P.ToProperties.spells c.args.fields.now 15) c.requires.mask fits.0 fits.1 c.put-mask_place.ensures c.put_short_uint-place.ensures
    c.put-end.ensures c.put_around.ensures
