-- `run_hex`: clause `report`.
use Rattle.amqp_program.proofs.HexRuns.{hex_done, hex_read_fault, hex_too_long, hex_no_memory}
use Rattle.amqp_program.proofs.hex_command.run_hex.Goals as goal

pub returns-in-Err-ReadFault-clause-report : goal.returns-in-Err-ReadFault-clause-report
returns-in-Err-ReadFault-clause-report g c =
    let read = rw c.in-Err-ReadFault.field-0-is at c.in-Err-ReadFault.ensures in
    hex_read_fault _ _ _ _ c.in-Err-ReadFault.after _ (let is = c.in_text.ensures in let same = c.in-Err-ReadFault.after-is in cc) read

pub returns-in-Err-TooLong-clause-report : goal.returns-in-Err-TooLong-clause-report
returns-in-Err-TooLong-clause-report g c = let read = rw c.in-Err-TooLong.field-0-is at c.in-Err-TooLong.ensures in
    rw c.in_text-in-Err-TooLong.ensures (hex_too_long _ _ _ _ read)

pub returns-in-Err-NoMemory-clause-report : goal.returns-in-Err-NoMemory-clause-report
returns-in-Err-NoMemory-clause-report g c =
    let read = rw c.in-Err-NoMemory.field-0-is at c.in-Err-NoMemory.ensures in
    rw c.placeless.ensures (hex_no_memory _ _ _ _ read)

pub returns-in-Ok-write_all-clause-report : goal.returns-in-Ok-write_all-clause-report
returns-in-Ok-write_all-clause-report g c =
    let report = rw c.as_slice.ensures.value at c.in-Ok-report_of.ensures.report in
    let place = rw c.as_slice.ensures.value at c.in-Ok-report_of.ensures.place in
    hex_done _ _ _ _ _ _ _ _ _ c.in-Ok.ensures report place (rw c.as_slice-2.ensures.value at c.in-Ok-write_all.ensures)
