-- The reply codes of errors and their texts (AMQP 0-9-1, section 1.2, and 312 as RabbitMQ has it).
use Rattle.std.specs.Prelude.{ℕ, ◌==◌, if◌then◌else◌, List, [], ◌∷◌}
use Rattle.std.specs.Prelude.{◌++◌, Option, Some, None, codes}
use Rattle.amqp_protocol.specs.declared.errors.AMQPSoftError.{AMQPSoftError}
use Rattle.amqp_protocol.specs.declared.errors.AMQPSoftError.TheVariants as soft
use Rattle.amqp_protocol.specs.declared.errors.AMQPHardError.{AMQPHardError}
use Rattle.amqp_protocol.specs.declared.errors.AMQPHardError.TheVariants as hard
use Rattle.amqp_protocol.specs.declared.errors.AMQPErrorKind.{AMQPErrorKind}
use Rattle.amqp_protocol.specs.declared.errors.AMQPErrorKind.TheVariants as kinds

-- ---- errors of a channel

-- the reply code of a soft error, which closes a channel: 311, 313 and 403 to 406 of section 1.2,
-- and 312 (no route) of RabbitMQ
abbrev pub soft_code : AMQPSoftError → ℕ
soft_code soft.CONTENTTOOLARGE = 311
soft_code soft.NOROUTE = 312
soft_code soft.NOCONSUMERS = 313
soft_code soft.ACCESSREFUSED = 403
soft_code soft.NOTFOUND = 404
soft_code soft.RESOURCELOCKED = 405
soft_code soft.PRECONDITIONFAILED = 406

-- the name of the code's constant, in capitals with hyphens
abbrev pub soft_text : AMQPSoftError → List ℕ
soft_text soft.CONTENTTOOLARGE = codes "CONTENT-TOO-LARGE"
soft_text soft.NOROUTE = codes "NO-ROUTE"
soft_text soft.NOCONSUMERS = codes "NO-CONSUMERS"
soft_text soft.ACCESSREFUSED = codes "ACCESS-REFUSED"
soft_text soft.NOTFOUND = codes "NOT-FOUND"
soft_text soft.RESOURCELOCKED = codes "RESOURCE-LOCKED"
soft_text soft.PRECONDITIONFAILED = codes "PRECONDITION-FAILED"

-- all soft errors, in the order of their codes
abbrev pub soft_errors : List AMQPSoftError
soft_errors =
    soft.CONTENTTOOLARGE ∷ soft.NOROUTE ∷ soft.NOCONSUMERS ∷ soft.ACCESSREFUSED ∷
    soft.NOTFOUND ∷ soft.RESOURCELOCKED ∷ soft.PRECONDITIONFAILED ∷ []

-- ---- errors of a connection

-- the reply code of a hard error, which closes a connection: 320, 402, 501 to 506, 530, 540 and
-- 541 of section 1.2
abbrev pub hard_code : AMQPHardError → ℕ
hard_code hard.CONNECTIONFORCED = 320
hard_code hard.INVALIDPATH = 402
hard_code hard.FRAMEERROR = 501
hard_code hard.SYNTAXERROR = 502
hard_code hard.COMMANDINVALID = 503
hard_code hard.CHANNELERROR = 504
hard_code hard.UNEXPECTEDFRAME = 505
hard_code hard.RESOURCEERROR = 506
hard_code hard.NOTALLOWED = 530
hard_code hard.NOTIMPLEMENTED = 540
hard_code hard.INTERNALERROR = 541

-- the name of the code's constant, in capitals with hyphens
abbrev pub hard_text : AMQPHardError → List ℕ
hard_text hard.CONNECTIONFORCED = codes "CONNECTION-FORCED"
hard_text hard.INVALIDPATH = codes "INVALID-PATH"
hard_text hard.FRAMEERROR = codes "FRAME-ERROR"
hard_text hard.SYNTAXERROR = codes "SYNTAX-ERROR"
hard_text hard.COMMANDINVALID = codes "COMMAND-INVALID"
hard_text hard.CHANNELERROR = codes "CHANNEL-ERROR"
hard_text hard.UNEXPECTEDFRAME = codes "UNEXPECTED-FRAME"
hard_text hard.RESOURCEERROR = codes "RESOURCE-ERROR"
hard_text hard.NOTALLOWED = codes "NOT-ALLOWED"
hard_text hard.NOTIMPLEMENTED = codes "NOT-IMPLEMENTED"
hard_text hard.INTERNALERROR = codes "INTERNAL-ERROR"

-- all hard errors, in the order of their codes
abbrev pub hard_errors : List AMQPHardError
hard_errors =
    hard.CONNECTIONFORCED ∷ hard.INVALIDPATH ∷ hard.FRAMEERROR ∷ hard.SYNTAXERROR ∷
    hard.COMMANDINVALID ∷ hard.CHANNELERROR ∷ hard.UNEXPECTEDFRAME ∷ hard.RESOURCEERROR ∷
    hard.NOTALLOWED ∷ hard.NOTIMPLEMENTED ∷ hard.INTERNALERROR ∷ []

-- ---- of both

-- the reply code of an error, soft or hard: no code is of both
abbrev pub kind_code : AMQPErrorKind → ℕ
kind_code (kinds.Soft error) = soft_code error
kind_code (kinds.Hard error) = hard_code error

-- the text that an error is rendered as: whether it is soft or hard, and the name of its
-- code's constant
abbrev pub kind_text : AMQPErrorKind → List ℕ
kind_text (kinds.Soft error) = codes "AMQP soft error: " ++ soft_text error
kind_text (kinds.Hard error) = codes "AMQP hard error: " ++ hard_text error

-- ---- the error of a code

-- the first of these errors that has the code, if there is one
abbrev pub error_among : {E : Type 0} → (E → ℕ) → List E → ℕ → Option E
error_among code [] id = None
error_among code (error ∷ errors) id =
    if id == code error then Some error else error_among code errors id

-- the soft error of a reply code, if it is the code of one
abbrev pub soft_at : ℕ → Option AMQPSoftError
soft_at id = error_among soft_code soft_errors id

-- the hard error of a reply code, if it is the code of one
abbrev pub hard_at : ℕ → Option AMQPHardError
hard_at id = error_among hard_code hard_errors id

-- the soft error where there is one, otherwise the hard error where there is one
abbrev pub kind_else : Option AMQPSoftError → Option AMQPHardError → Option AMQPErrorKind
kind_else (Some error) other = Some (kinds.Soft error)
kind_else None (Some error) = Some (kinds.Hard error)
kind_else None None = None

-- the error of a reply code, soft or hard; none for any other code, such as 200 (success)
abbrev pub kind_at : ℕ → Option AMQPErrorKind
kind_at id = kind_else (soft_at id) (hard_at id)

-- ---- an error with the message that came with it

-- an error, and the text that its sender gave with it: the reply text of a close
pub record ErrorWithMessage : Type 0 where
  pub kind : AMQPErrorKind
  pub message : List ℕ

-- the error with a message, where there is an error
abbrev pub error_of : Option AMQPErrorKind → List ℕ → Option ErrorWithMessage
error_of None message = None
error_of (Some kind) message = Some (record { kind = kind; message = message })
