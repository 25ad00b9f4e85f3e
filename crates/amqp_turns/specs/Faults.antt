-- The numbers and names of faults of content.
use Rattle.std.specs.Prelude.{ℕ, List, codes}
use Rattle.amqp_turns.specs.declared.fault.ContentFault.{ContentFault}
use Rattle.amqp_turns.specs.declared.fault.ContentFault.TheVariants as faults

-- the number of a fault, from 1 on
abbrev pub fault_number : ContentFault → ℕ
fault_number faults.UnexpectedMethod = 1
fault_number faults.UnexpectedHeader = 2
fault_number faults.UnexpectedBody = 3
fault_number faults.WrongClass = 4
fault_number faults.BodyTooLarge = 5
fault_number faults.BodyOverrun = 6
fault_number faults.Faulted = 7

-- the name of a fault
abbrev pub fault_name : ContentFault → List ℕ
fault_name faults.UnexpectedMethod = codes "UnexpectedMethod"
fault_name faults.UnexpectedHeader = codes "UnexpectedHeader"
fault_name faults.UnexpectedBody = codes "UnexpectedBody"
fault_name faults.WrongClass = codes "WrongClass"
fault_name faults.BodyTooLarge = codes "BodyTooLarge"
fault_name faults.BodyOverrun = codes "BodyOverrun"
fault_name faults.Faulted = codes "Faulted"
