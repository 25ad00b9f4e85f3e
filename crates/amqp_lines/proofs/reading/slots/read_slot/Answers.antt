-- `read_slot`: what it ensures.
use Rattle.amqp_lines.proofs
use proofs.ReadSteps.{constant_read, kept_is}
use proofs.reading.slots.read_slot.Goals as goal

pub returns-in_ok-write_bytes-in-Reserved : goal.returns-in_ok-write_bytes-in-Reserved
returns-in_ok-write_bytes-in-Reserved c =
    constant_read _ _ _ _ _ _ c.in-Reserved.is c.requires.constant c.in_ok-write_bytes-in-Reserved.ensures

pub returns-in-Kept : goal.returns-in-Kept
returns-in-Kept c = rw (kept_is c.in-Kept.form c.args.i.now c.in-Kept.is c.bytes_from.ensures) c.read_form.ensures
