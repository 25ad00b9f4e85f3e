-- Where a run over a hex text ended.
use Rattle.std.specs.Prelude.{◌≡◌, ℕ, ◌<◌, List, length, Option, Some, None, Result, Ok, Err}
use Rattle.std.specs.Io.BufRead.{strip_last}
use Rattle.std.specs.Char.{is_ascii_hexdigit}
use Rattle.std.specs.List.{prefix_len}
use Rattle.hex.specs.Hex.{decode_of}
use Rattle.hex.specs.declared.error.FromHexError.{FromHexError}
use Rattle.amqp_types.specs.Levels.{Level}
use Rattle.amqp_stream.specs.declared.errors.StreamError.{StreamError}
use Rattle.amqp_stream.specs.declared.report.RunReport.{RunReport}
use Rattle.amqp_stream.specs.Changes.{◌⇒◌}
use Rattle.amqp_stream.specs.Ends.{Supply}
use Rattle.amqp_stream.specs.Errors.{stream_error_status}
use Rattle.amqp_stream.specs.Reports.{IsReportAt}
use Rattle.amqp_program.specs.declared.outcome.Place.{Place}
use Rattle.amqp_program.specs.declared.outcome.Place.TheVariants as places
use Rattle.amqp_program.specs.declared.outcome.Outcome.{Outcome}
use Rattle.amqp_program.specs.Reports.{max_payload}
use Rattle.amqp_program.specs.Texts.{longest}

-- the report of a stream over these bytes
pub record IsReportIn (level : Level) (bytes : List ℕ)
    (report : RunReport StreamError) : Type 0 where
  pub source : Supply
  pub rest : Supply
  pub left_is : source.left ≡ Some bytes
  pub is_report : IsReportAt level max_payload (source ⇒ rest) report

-- the place of a report in decoded bytes
abbrev pub decoded_place : Result (Unit {0}) (RunReport StreamError) → Option Place
decoded_place (Ok done) = None
decoded_place (Err report) = Some (places.Decoded report.place report.channel)

-- the place of an error with this status in these bytes
pub record IsFaultIn (level : Level) (bytes : List ℕ)
    (status : ℕ) (place : Option Place) : Type 0 where
  pub report : RunReport StreamError
  pub status_is : status ≡ stream_error_status report.error
  pub place_is : place ≡ Some (places.Decoded report.place report.channel)
  pub is_report : IsReportIn level bytes report

-- where the frames of these bytes end early: nowhere, where all of them are frames
pub record IsPlaceIn (level : Level) (bytes : List ℕ) (outcome : Outcome) : Type 0 where
  pub well : outcome.status ≡ 0 → outcome.place ≡ None
  pub faulty : 0 < outcome.status → IsFaultIn level bytes outcome.status outcome.place

-- the place of an error with this status in the bytes that a text decodes to
abbrev pub IsDecodedPlace : Level → Result (List ℕ) FromHexError → ℕ → Option Place → Type 0
IsDecodedPlace level (Ok bytes) status place = IsFaultIn level bytes status place
IsDecodedPlace level (Err error) status place = ⊥

-- Where a run over a hex text ended, by its status: where a read failed, after all that was taken;
-- after the longest text; after the digits in front of the first character that is none, or of the
-- end where a digit is missing; or else in the decoded bytes.
pub record IsHexPlace (level : Level) (text : List ℕ)
    (status : ℕ) (place : Option Place) : Type 0 where
  pub no_place : status < 4 → place ≡ None
  pub read_failed : status ≡ 4 → place ≡ Some (places.Text (length text))
  pub write_failed : status ≡ 5 → place ≡ None
  pub too_long : status ≡ 6 → place ≡ Some (places.Text longest)
  pub not_hex : status ≡ 7
      → place ≡ Some (places.Text (prefix_len is_ascii_hexdigit (strip_last 10 text)))
  pub decoded : 7 < status → IsDecodedPlace level (decode_of (strip_last 10 text)) status place
