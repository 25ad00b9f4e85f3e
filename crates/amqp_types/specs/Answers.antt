-- What a parse call returns is what is decoded.
use Rattle.std.specs.Prelude.{◌≡◌, ℕ, Result, Ok, Err}
use Rattle.amqp_types.specs.Judging.{Judged, took, past, fault, Fault, unknown_frame_type}
use Rattle.amqp_types.specs.Judging.{bad_protocol_header, bad_frame_end, unknown_class}
use Rattle.amqp_types.specs.Judging.{unknown_method, short_payload, trailing_bytes}
use Rattle.amqp_types.specs.Judging.{not_utf8, unknown_tag, too_deep}
use Rattle.amqp_types.specs.declared.errors.ParserError.{ParserError}
use Rattle.amqp_types.specs.declared.errors.ParserError.TheVariants as errors

-- each error says why nothing is decoded; out of memory says nothing, and may come in
-- place of any result
abbrev pub Refuses : {B : Type 0} → ParserError → Judged B → Type 0
Refuses errors.Incomplete judged = judged ≡ past
Refuses errors.UnknownFrameType judged = judged ≡ fault unknown_frame_type
Refuses errors.BadProtocolHeader judged = judged ≡ fault bad_protocol_header
Refuses errors.BadFrameEnd judged = judged ≡ fault bad_frame_end
Refuses errors.UnknownClass judged = judged ≡ fault unknown_class
Refuses errors.UnknownMethod judged = judged ≡ fault unknown_method
Refuses errors.ShortPayload judged = judged ≡ fault short_payload
Refuses errors.TrailingBytes judged = judged ≡ fault trailing_bytes
Refuses errors.NotUtf8 judged = judged ≡ fault not_utf8
Refuses errors.UnknownTag judged = judged ≡ fault unknown_tag
Refuses errors.TooDeep judged = judged ≡ fault too_deep
Refuses errors.NoMemory judged = Unit {0}

-- a parse call returns what is decoded, unless memory runs out
abbrev pub Answers : {A B : Type 0} → (A → B) → Result (ℕ × A) ParserError → Judged B → Type 0
Answers view (Ok found) judged = judged ≡ took (view found.1) found.0
Answers view (Err error) judged = Refuses error judged

-- the same of a call that takes no memory
abbrev pub AnswersFully : {A B : Type 0} → (A → B) → Result (ℕ × A) ParserError → Judged B → Type 0
AnswersFully view (Err errors.NoMemory) judged = ⊥
AnswersFully view result judged = Answers view result judged

-- the error says the fault of a whole payload, in which nothing can be incomplete
abbrev pub RefusesWhole : {B : Type 0} → ParserError → Result B Fault → Type 0
RefusesWhole errors.Incomplete read = ⊥
RefusesWhole errors.UnknownFrameType read = read ≡ Err unknown_frame_type
RefusesWhole errors.BadProtocolHeader read = read ≡ Err bad_protocol_header
RefusesWhole errors.BadFrameEnd read = read ≡ Err bad_frame_end
RefusesWhole errors.UnknownClass read = read ≡ Err unknown_class
RefusesWhole errors.UnknownMethod read = read ≡ Err unknown_method
RefusesWhole errors.ShortPayload read = read ≡ Err short_payload
RefusesWhole errors.TrailingBytes read = read ≡ Err trailing_bytes
RefusesWhole errors.NotUtf8 read = read ≡ Err not_utf8
RefusesWhole errors.UnknownTag read = read ≡ Err unknown_tag
RefusesWhole errors.TooDeep read = read ≡ Err too_deep
RefusesWhole errors.NoMemory read = Unit {0}

-- a call that decodes a whole payload returns what it is, unless memory runs out
abbrev pub AnswersWhole : {A B : Type 0} → (A → B) → Result A ParserError → Result B Fault → Type 0
AnswersWhole view (Ok found) read = read ≡ Ok (view found)
AnswersWhole view (Err error) read = RefusesWhole error read
