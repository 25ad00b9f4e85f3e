-- `is_text`: what it ensures.
use Rattle.std.proofs.Common.{sym}
use Rattle.std.proofs.lemmas.Str.{IsUtf8-from_ascii, is_utf8-from_IsUtf8}
use Rattle.amqp_canonical.proofs.texts.is_text.Goals as goal

pub returns-then-eights_are_ascii : goal.returns-then-eights_are_ascii
returns-then-eights_are_ascii c =
    sym (is_utf8-from_IsUtf8 _ (IsUtf8-from_ascii _ (c.eights_are_ascii.ensures c.if-eights_are_ascii.true)))

pub returns-then-is_ascii : goal.returns-then-is_ascii
returns-then-is_ascii c = sym (is_utf8-from_IsUtf8 _ (IsUtf8-from_ascii _ c.if-is_ascii.ensures.cases))
