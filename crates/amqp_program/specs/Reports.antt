-- The report on a hex text, read at a level: what is printed for it, and the status.
use Rattle.std.specs.Prelude.{◌≡◌, ℕ, List, [], ◌∷◌, ◌++◌, codes, Result, Ok, Err}
use Rattle.std.specs.Io.BufRead.{strip_last}
use Rattle.hex.specs.Hex.{decode_of, encode_lower}
use Rattle.hex.specs.declared.error.FromHexError.{FromHexError}
use Rattle.amqp_types.specs.Levels.{Level}
use Rattle.amqp_stream.specs.declared.errors.StreamError.{StreamError}
use Rattle.amqp_stream.specs.Errors.{stream_error_name, stream_error_status, cause_of}
use Rattle.amqp_stream.specs.Causes.{answer_to, UnlessStopped}
use Rattle.amqp_stream.specs.Canonicalizing.{canon_of}
use Rattle.amqp_program.specs.declared.report.Report.{Report}

-- the limit on payloads
abbrev pub max_payload : ℕ
max_payload = 131072

-- the bytes that are printed, and the exit status
pub record Printed : Type 0 where
  pub text : List ℕ
  pub status : ℕ

-- a report as contracts see it, its text as a list of bytes
abbrev pub printed_of : Report → Printed
printed_of r = record { text = r.text.items; status = r.outcome.status }

-- a line with the front in hex, and after a fault a line with its name
abbrev pub printed : List ℕ → Result (Unit {0}) StreamError → Printed
printed front (Ok done) = record { text = front; status = 0 }
printed front (Err error) =
    record {
      text = front ++ (stream_error_name error ++ 10 ∷ []);
      status = stream_error_status error;
    }

-- The canonical bytes of the frames at the front in lower-case hex. Where that is not all, the
-- place's fault is named, or that the input is cut short.
unfoldable pub report_at : Level → List ℕ → Printed
report_at level bytes =
    printed (encode_lower (canon_of level max_payload bytes) ++ 10 ∷ [])
    (answer_to level max_payload bytes)

-- these are the result and the canonical bytes of some bytes, with this limit on payloads
abbrev pub IsAnswer : ℕ → Level → List ℕ → List ℕ → Result (Unit {0}) StreamError → Type 0
IsAnswer m level bytes written result =
    (result ≡ answer_to level m bytes) × (written ≡ canon_of level m bytes)

-- so it is, unless the stream was stopped
abbrev pub IsAnswerWithin : ℕ → Level → List ℕ → List ℕ → Result (Unit {0}) StreamError → Type 0
IsAnswerWithin m level bytes written (Ok done) = IsAnswer m level bytes written (Ok done)
IsAnswerWithin m level bytes written (Err error) =
    UnlessStopped (cause_of error) (IsAnswer m level bytes written (Err error))

-- the report on decoded bytes; of a text that is not hex, the line BadHex with status 7
abbrev pub report_of : Level → Result (List ℕ) FromHexError → Printed
report_of level (Ok bytes) = report_at level bytes
report_of level (Err error) = record { text = codes "BadHex" ++ 10 ∷ []; status = 7 }

-- Hex digits of either case, an even number of them, with at most one newline after them,
-- which is dropped.
abbrev pub report : Level → List ℕ → Printed
report level text = report_of level (decode_of (strip_last 10 text))
