-- `command_fault`: what it ensures.
use Rattle.std.proofs.Common.{◌∙◌}
use Rattle.amqp_program.proofs.ArgumentFaults.{after_make, after_one, after_recut, after_two, first_text, no_first, no_texts, none_at_all}
use Rattle.amqp_program.proofs.command.command_fault.Goals as goal

pub returns-then-begins_with_two : goal.returns-then-begins_with_two
returns-then-begins_with_two c = rw c.whole.ensures (after_two _ c.requires.no_command (cc))

pub returns-in_default : goal.returns-in_default
returns-in_default c = rw c.whole-in_default.ensures (none_at_all _ (no_texts _ c.in_default.ensures.value))

pub returns-in-make : goal.returns-in-make
returns-in-make c =
    let at = first_text _ _ c.in-Some.ensures.value in
    rw c.whole-in-make.ensures (after_make at.1 (cc) (cc))

pub returns-in-recut : goal.returns-in-recut
returns-in-recut c =
    let at = first_text _ _ c.in-Some.ensures.value in
    rw c.whole-in-recut.ensures (after_recut at.1 (cc) (cc))

pub returns-in_default-as_str : goal.returns-in_default-as_str
returns-in_default-as_str c =
    let at = first_text _ _ c.in-Some.ensures.value in
    rw c.whole-in_default-as_str.ensures (after_one at.1 c.requires.no_command (cc))

pub returns-in_default-2 : goal.returns-in_default-2
returns-in_default-2 c =
    let at = first_text _ _ c.in-Some.ensures.value in
    rw c.whole-in_default-2.ensures
    (no_first at.1 c.requires.no_selection c.requires.no_filtering (cc)
    (λ is. c.in_default-as_str.not-make (c.as_str.ensures.value ∙ is)) (λ is. c.in_default-as_str.not-recut (c.as_str.ensures.value ∙ is)))
