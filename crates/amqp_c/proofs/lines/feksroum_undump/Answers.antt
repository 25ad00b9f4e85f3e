-- `feksroum_undump`: clauses `line`, `none` and `cut_short`.
use Rattle.std.proofs.Common.{sym, ◌∙◌}
use Rattle.std.proofs.lemmas.List.{take-append-drop}
use Rattle.amqp_lines.proofs.TextFronts.{IsAtNone, at_clean, at_other, holds_none}
use Rattle.amqp_c.proofs.FrameLines.{first_holds, undumped_front}
use Rattle.amqp_c.proofs.lines.feksroum_undump.Goals as goal

pub returns-in_default-clause-line : goal.returns-in_default-clause-line
unfolding IsAtNone
returns-in_default-clause-line c = λ frame rest strict e lasts. absurd (at_clean _ c.args.text.now c.in_default.ensures frame rest strict (sym e))

pub returns-in_default-clause-none : goal.returns-in_default-clause-none
returns-in_default-clause-none c = λ holds none lasts. absurd (holds_none c.args.text.now c.in_default.ensures holds)

pub returns-in-Ok-clause-line : goal.returns-in-Ok-clause-line
returns-in-Ok-clause-line c = λ frame rest strict e lasts.
    let found = c.in-Ok.ensures in
    let text = rw c.new-canonical.ensures.items at found.2 in
    undumped_front rest c.in-Some.ensures found.1 (c.deref.ensures.value ∙ text) strict e c.write_front.ensures

pub returns-in-Ok-clause-none : goal.returns-in-Ok-clause-none
returns-in-Ok-clause-none c = λ holds none lasts.
    let of = c.in-Ok.ensures.1 in
    absurd (none of.frame _ of.strict_within (rw of.is_line at (sym (take-append-drop c.in-Some.end c.args.text.now))))

pub returns-in-Ok-clause-cut_short : goal.returns-in-Ok-clause-cut_short
returns-in-Ok-clause-cut_short c = λ clean. absurd (first_holds c.in-Some.ensures clean)

pub returns-in-Err-BadText-clause-line : goal.returns-in-Err-BadText-clause-line
unfolding IsAtNone
returns-in-Err-BadText-clause-line c = λ frame rest strict e lasts.
    let none = rw c.in-Err-BadText.field-0-is at c.in-Err-BadText.ensures in
    absurd (at_other _ c.args.text.now _ c.in-Some.ensures none.0 frame rest strict (sym e))

pub returns-in-Err-BadText-clause-cut_short : goal.returns-in-Err-BadText-clause-cut_short
returns-in-Err-BadText-clause-cut_short c = λ clean. absurd (first_holds c.in-Some.ensures clean)

pub returns-clause-cut_short : goal.returns-clause-cut_short
returns-clause-cut_short c = λ clean. absurd (first_holds c.in-Some.ensures clean)
