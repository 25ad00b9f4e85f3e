-- `mark_entries`: clause `marked`, what loops keep and what falls with each iteration.
use Rattle.std.proofs.Common.{refl, ◌≡◌, ◌∙◌, ◌<◌, length, take, drop, sym, ap, arith}
use Rattle.amqp_types.proofs.Bytes.{IsBytes-drop}
use Rattle.std.proofs.lemmas.List.Elements.{All-push}
use Rattle.amqp_canonical.specs.Leads.{leading}
use Rattle.amqp_canonical.specs.Marks.{IsMarkOf}
use Rattle.amqp_canonical.specs.Writes.{entry_bytes, key_in}
use Rattle.amqp_canonical.proofs.Leading.{key_is_short}
use Rattle.std.proofs.lemmas.List.{take_more_set, length-set, take_rest}
use Rattle.amqp_canonical.specs.declared.marks.EntryMark.{EntryMark}
use Rattle.amqp_canonical.proofs.Marking.{marked_next, marked_end}
use Rattle.amqp_canonical.proofs.PutParts.{copied_as}
use Rattle.amqp_canonical.proofs.marks.mark_entries.Goals as goal

pub loop-at-smaller : goal.loop-at-smaller
loop-at-smaller c = omega (arith, c.loop-at-test.true, c.entry_span-span.ensures.some)

pub overflow_cast-marks-in-loop-at : goal.overflow_cast-marks-in-loop-at
overflow_cast-marks-in-loop-at c =
    let content = c.args.content.now in
    let at = c.loop-at.at in
    let key : c.split_key.result.0.now ≡ key_in (drop at content) = rw take_rest at c.split_key.ensures.key in
    let few = key_is_short (drop at content) (IsBytes-drop at content (λ k. omega (arith, c.type_inv.content k))) in
    omega (arith, ap length key, few)

pub loop-at-preserved : goal.loop-at-preserved
loop-at-preserved c =
    let at = c.loop-at.at in
    let count = c.loop-at.count in
    let marks = c.loop-at.marks in
    let content = c.args.content.now in
    let span = c.entry_span-span.result in
    let mark : EntryMark = record {
      lead = c.first_ten-lead.result.0;
      place = at;
      more = c.first_ten-lead.result.1;
      key_size = length c.split_key.result.0.now;
      size = c.size_copied.result;
    } in
    let more : count < length marks = omega (arith, c.loop-at.invariant.1, c.if-count-marks.false) in
    let key = (rw take_rest at c.split_key.ensures.key) in
    let sized = rw take_rest at c.entry_span-span.ensures.used in
    let copied = rw take_rest at c.entry_span-span.ensures.copied in
    let is : IsMarkOf content mark = record {
      first = c.first_ten-lead.ensures.first ∙ ap (leading 8) key;
      next = c.first_ten-lead.ensures.next ∙ ap (λ k. leading 2 (drop 8 k)) key;
      key_length = ap length key;
      copied = λ some room read.
          let fits = c.size_copied.ensures some in
          copied_as entry_bytes (drop at content) span.size c.size_copied.result _ (sym fits.1) (copied fits.0 room read);
    } in
    let taken = take_more_set marks count mark more in (
      length-set marks count mark ∙ c.loop-at.invariant.0,
      omega (arith, more, length-set marks count mark),
      rw taken (All-push (IsMarkOf content) _ mark c.loop-at.invariant.2 is),
      λ room read. rw taken (marked_next room content at span.size (take count marks) mark
          (λ k. omega (arith, c.type_inv.content k)) c.loop-at-test.true (sized room) refl (c.loop-at.invariant.3 room read)),
    )

pub returns-clause-marked : goal.returns-clause-marked
returns-clause-marked c =
    λ room read. marked_end _ _ _ _ c.loop-at-test.false (c.loop-at.invariant.3 room read)
