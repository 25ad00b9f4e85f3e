-- `FrameReader::pull`: clause `pulls`, and what loops keep.
use Rattle.amqp_stream.proofs
use proofs.Names.{Ok, Err, Some, refl, ◌∙◌, arith, LiesIn}
use proofs.Pulling.{Pulled-more, pulls_to, ends_fault, ends_unread, ends_short}
use Rattle.amqp_stream.specs.declared.errors.ReadError.TheVariants as errors
use proofs.reader.FrameReader.pull.Goals as goal

pub returns-in-Err-clause-pulls : goal.returns-in-Err-clause-pulls
returns-in-Err-clause-pulls g c =
    let run = c.reads.invariant in
    let found = rw run.limit at c.in-Err.ensures.finds in
    ends_fault LiesIn c.in-Err.error found.0 run.limit run.pulled c.in-Err.ensures.bytes (rw run.limit at c.in-Err.ensures.room) found.1 found.2

pub returns-in-Ok-Some-clause-pulls : goal.returns-in-Ok-Some-clause-pulls
returns-in-Ok-Some-clause-pulls g c =
    let run = c.reads.invariant in
    let lies = rw (c.in-Ok-Some.field-0-is, run.limit) at c.in-Ok-Some.ensures.finds in
    pulls_to LiesIn (Ok (Some c.in-Ok-Some.layout)) run.limit run.pulled c.in-Ok-Some.ensures.bytes
    (rw run.limit at c.in-Ok-Some.ensures.room) (lies, refl)

pub returns-then-budget-eq0-clause-pulls : goal.returns-then-budget-eq0-clause-pulls
returns-then-budget-eq0-clause-pulls g c =
    let run = c.reads.invariant in
    let more = rw (c.in-Ok-None.field-0-is, run.limit) at c.in-Ok-None.ensures.finds in
    pulls_to LiesIn (Err errors.TurnsSpent) run.limit run.pulled c.in-Ok-None.ensures.bytes
    (rw run.limit at c.in-Ok-None.ensures.room) (more, c.if-budget-eq0.true)

pub returns-in-Err-fill-clause-pulls : goal.returns-in-Err-fill-clause-pulls
returns-in-Err-fill-clause-pulls g c =
    let run = c.reads.invariant in
    let more = rw (c.in-Ok-None.field-0-is, run.limit) at c.in-Ok-None.ensures.finds in
    ends_unread LiesIn (c.in-Err-fill.ensures.limit ∙ run.limit) run.pulled c.in-Ok-None.ensures.bytes
    (omega arith) more c.in-Err-fill.ensures.reads (rw run.limit at c.in-Err-fill.ensures.room)

pub returns-in-Ok-eq0-2-clause-pulls : goal.returns-in-Ok-eq0-2-clause-pulls
returns-in-Ok-eq0-2-clause-pulls g c =
    let run = c.reads.invariant in
    let more = rw (c.in-Ok-None.field-0-is, run.limit) at c.in-Ok-None.ensures.finds in
    ends_short LiesIn (c.in-Ok-eq0.ensures.limit ∙ run.limit) run.pulled
    c.in-Ok-None.ensures.bytes (omega arith) more c.in-Ok-eq0.field-0-test c.in-Ok-eq0.ensures.reads
    (rw run.limit at c.in-Ok-eq0.ensures.room) (λ none. absurd (let told = c.is_empty.ensures.1 none in let empty = c.if-is_empty.false in cc))

pub reads-preserved : goal.reads-preserved
reads-preserved g c =
    let run = c.reads.invariant in
    let more = rw (c.in-Ok-None.field-0-is, run.limit) at c.in-Ok-None.ensures.finds in
    let read = c.in-Ok.ensures.reads in
    record {
      limit = c.in-Ok.ensures.limit ∙ run.limit;
      pulled = Pulled-more 0 run.pulled (omega arith) more read (omega arith);
      unread = λ e. absurd (omega arith);
    }
