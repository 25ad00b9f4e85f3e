-- `is_short_text`: ASCII is UTF-8.
use Rattle.std.proofs.Common.{sym}
use Rattle.std.proofs.lemmas.Str.{IsUtf8-from_ascii, is_utf8-from_IsUtf8}
use Rattle.amqp_entries.proofs.few.is_short_text.Goals as goal

pub returns-then-are_few_ascii : goal.returns-then-are_few_ascii
returns-then-are_few_ascii c =
    sym (is_utf8-from_IsUtf8 c.args.bytes.now (IsUtf8-from_ascii c.args.bytes.now (c.are_few_ascii.ensures.ascii c.if-are_few_ascii.true)))
