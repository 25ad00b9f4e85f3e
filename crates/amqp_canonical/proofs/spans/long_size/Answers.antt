-- `long_size`: clause `used`.
use Rattle.std.proofs.Common.{Bor, List, ℕ, sym, ap}
use Rattle.amqp_types.specs.Strings.{judge_long_string}
use Rattle.amqp_canonical.proofs.Refusing.{fully}
use Rattle.amqp_canonical.proofs.ReadParts.{unread}
use Rattle.amqp_canonical.proofs.spans.long_size.Goals as goal
use Rattle.amqp_types.specs.Tidiness.{used_by}

pub returns-in-Ok-clause-used : goal.returns-in-Ok-clause-used
returns-in-Ok-clause-used c = λ read. sym (ap (λ j. used_by j) c.in-Ok.ensures.judged)

pub returns-in-Err-clause-used : goal.returns-in-Err-clause-used
returns-in-Err-clause-used c = λ read.
    absurd (unread c.in-Err.field-0 _ (fully {A = Bor (List ℕ)} (λ b. b.now) _ (judge_long_string c.args.i.now) c.in-Err.ensures.judged) read)
