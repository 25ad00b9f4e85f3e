-- The errors of reading text: their names, and the statuses of a program.
use Rattle.std.specs.Prelude.{ℕ, List, codes}
use Rattle.amqp_lines.specs.declared.errors.TextError.{TextError}
use Rattle.amqp_lines.specs.declared.errors.TextError.TheVariants as texts
use Rattle.amqp_lines.specs.declared.errors.UndumpError.{UndumpError}
use Rattle.amqp_lines.specs.declared.errors.UndumpError.TheVariants as errors

-- the name of the variant, as which the error is displayed
abbrev pub text_error_name : TextError → List ℕ
text_error_name texts.BadText = codes "BadText"
text_error_name texts.NoMemory = codes "NoMemory"

-- so it is for the errors of a stream of lines
abbrev pub undump_error_name : UndumpError → List ℕ
undump_error_name errors.BadText = codes "BadText"
undump_error_name errors.CutShort = codes "CutShort"
undump_error_name errors.TurnsSpent = codes "TurnsSpent"
undump_error_name errors.ReadFault = codes "ReadFault"
undump_error_name errors.WriteFault = codes "WriteFault"
undump_error_name errors.NoMemory = codes "NoMemory"

-- the exit status of a program that ends with this error
abbrev pub undump_error_status : UndumpError → ℕ
undump_error_status errors.BadText = 26
undump_error_status errors.CutShort = 21
undump_error_status errors.TurnsSpent = 22
undump_error_status errors.ReadFault = 4
undump_error_status errors.WriteFault = 5
undump_error_status errors.NoMemory = 3
