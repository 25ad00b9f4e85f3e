-- `feksroum_next`: clauses `more`, `least` and `limited`.
use Rattle.amqp_c.proofs.Needed.{cut_least, cut_needs, whole_limited}
use Rattle.amqp_c.proofs.next.feksroum_next.Goals as goal

pub returns-in-Ok-clause-limited : goal.returns-in-Ok-clause-limited
returns-in-Ok-clause-limited c = whole_limited c.in-Ok.ensures.found

pub returns-in-Err-CutShort-clause-more : goal.returns-in-Err-CutShort-clause-more
returns-in-Err-CutShort-clause-more c = λ status.
    let cut = rw c.in-Err-CutShort.field-0-is at c.in-Err-CutShort.ensures.found in
    rw (c.nowhere.ensures, c.least_length.ensures) (cut_needs c.args.max_payload c.args.bytes.now cut).0

pub returns-in-Err-CutShort-clause-least : goal.returns-in-Err-CutShort-clause-least
returns-in-Err-CutShort-clause-least c =
    λ rest raw used status found. rw (c.nowhere.ensures, c.least_length.ensures) (cut_least c.args.max_payload c.args.bytes.now rest raw used found)

pub returns-in-Err-CutShort-clause-limited : goal.returns-in-Err-CutShort-clause-limited
returns-in-Err-CutShort-clause-limited c =
    let cut = rw c.in-Err-CutShort.field-0-is at c.in-Err-CutShort.ensures.found in
    rw (c.nowhere.ensures, c.least_length.ensures) (cut_needs c.args.max_payload c.args.bytes.now cut).1
