-- How a run over a hex text ends, and where the first fault of the text is.
use Rattle.std.proofs.Common.{◌≡◌, ◌≢◌, ◌⊎◌, ℕ, ◌≤◌, List, [], ◌∷◌, ◌++◌, length, None, Some, Result, Ok, Err, IfOk, IfErr, refl, sym, ap, ◌∙◌, inl, inr}
use Rattle.std.proofs.Common.{arith}
use Rattle.std.proofs.lemmas.List.{length-append}
use Rattle.std.specs.Char.{is_ascii_hexdigit}
use Rattle.std.specs.Io.BufRead.{strip_last}
use Rattle.std.specs.List.{prefix_len}
use Rattle.hex.specs.Hex.{decode_of, encode_lower}
use Rattle.hex.specs.declared.error.FromHexError.{FromHexError}
use Rattle.hex.proofs.HexLemmas.{decode_of-ok}
use Rattle.amqp_types.specs.declared.errors.NoMemory.{NoMemory}
use Rattle.amqp_types.specs.Levels.{Level}
use Rattle.amqp_types.specs.Judging.{Judged}
use Rattle.amqp_wire.specs.Frames.{Frame}
use Rattle.amqp_wire.specs.Fronts.{front, place}
use Rattle.amqp_wire.proofs.Cuts.{IsStop}
use Rattle.amqp_wire.proofs.Sequences.{sequence_of_all, splits_of}
use Rattle.amqp_stream.specs.declared.errors.StreamError.{StreamError}
use Rattle.amqp_stream.specs.declared.report.RunReport.{RunReport}
use Rattle.amqp_stream.specs.declared.sink.SinkFault.{SinkFault}
use Rattle.amqp_stream.specs.Calls.{call_of}
use Rattle.amqp_stream.specs.Canonicalizing.{canon_of, AnswersExactly}
use Rattle.amqp_stream.specs.Causes.{NoFaults, answer_at, answer_to, judge_place}
use Rattle.amqp_stream.specs.Changes.{◌⇒◌}
use Rattle.amqp_stream.specs.Ends.{Supply, Store, Gains, prepended}
use Rattle.amqp_stream.specs.Errors.{status_of}
use Rattle.amqp_stream.specs.Reports.{IsReportAt, unreported}
use Rattle.amqp_stream.specs.Scripts.{KeptBytes, faultless, store_of}
use Rattle.amqp_stream.specs.Writing.{WritesAll}
use Rattle.amqp_stream.proofs.Adding.{Gains-none, taken_of}
use Rattle.amqp_stream.proofs.Exactly.{split_of, all_taken}
use Rattle.amqp_program.specs.declared.outcome.Outcome.{Outcome}
use Rattle.amqp_program.specs.declared.outcome.Place.TheVariants as places
use Rattle.amqp_program.specs.declared.report.Report.{Report}
use Rattle.amqp_program.specs.declared.text.InputError.{InputError}
use Rattle.amqp_program.specs.declared.text.InputError.TheVariants as errors
use Rattle.amqp_program.specs.HexPlaces.{IsReportIn, IsPlaceIn, IsHexPlace, decoded_place}
use Rattle.amqp_program.specs.Reporting.{ReportsHex}
use Rattle.amqp_program.specs.Reports.{Printed, printed, printed_of, report, report_of, report_at, max_payload, IsAnswerWithin}
use Rattle.amqp_program.specs.Runs.{IsWhole, HexEnds, no_memory, read_failed, too_long, write_failed, reported, AcceptsHex, IsValidHex, IsDoneOrNoMemory}
use Rattle.amqp_program.specs.Runs.{RunsHex}
use Rattle.amqp_program.specs.Texts.{longest, ReadsText}
use Rattle.amqp_program.proofs.Statuses.{answer_status_zero, report_at-status, report_status_not_two}

-- ---- places

-- a run that ended with this status after so many bytes of a text
abbrev pub text_place : ℕ → ℕ → Outcome
text_place status at = record { status = status; place = Some (places.Text at) }

-- a stream over a slice
pub in_slice : (level : Level) (m : ℕ) (bytes source source' : List ℕ) (answer : Result (Unit {0}) (RunReport StreamError)) → m ≡ max_payload → source ≡ bytes
    → IfErr answer (IsReportAt level m (faultless source ⇒ faultless source')) → IfErr answer (IsReportIn level bytes)
in_slice level m bytes source source' answer limit e h = grind arith

-- the place of the result, by the report of the stream
pub in_bytes : (level : Level) (bytes : List ℕ) (answer : Result (Unit {0}) (RunReport StreamError)) (outcome : Outcome)
    → outcome.place ≡ decoded_place answer → outcome.status ≡ status_of (unreported answer) → IfErr answer (IsReportIn level bytes)
    → IsPlaceIn level bytes outcome
in_bytes level bytes answer outcome place status h = grind arith

-- decoded bytes have status 0 or one from 10 on
answer_status : (bytes : List ℕ) (judged : Judged Frame) → (status_of (answer_at bytes judged) ≡ 0) ⊎ (10 ≤ status_of (answer_at bytes judged))
answer_status bytes judged = grind arith

module _ (level : Level) (text : List ℕ) (status : ℕ) where
  unplaced : status ≤ 5 → status ≢ 4 → IsHexPlace level text status None
  unplaced low other = grind arith

  in_text : (at : ℕ) → 4 ≤ status → status ≤ 7 → status ≢ 5 → (status ≡ 4 → at ≡ length text) → (status ≡ 6 → at ≡ longest)
      → (status ≡ 7 → at ≡ prefix_len is_ascii_hexdigit (strip_last 10 text)) → IsHexPlace level text status (Some (places.Text at))
  in_text at low high other read long digits = grind arith

-- what is reported of a text that is hex has its place
pub hex_placed : (level : Level) (text bytes : List ℕ) (result : Result Report NoMemory) → decode_of (strip_last 10 text) ≡ Ok bytes
    → IfOk result (λ r. printed_of r ≡ report_at level bytes) → IfOk result (λ r. IsPlaceIn level bytes r.outcome)
    → IfOk result (λ r. IsHexPlace level text r.outcome.status r.outcome.place)
hex_placed level text bytes result e printed h = grind (arith, report_at-status, answer_status, unplaced)

-- what is reported of one that is not has its place in the text
pub bad_hex_placed : (level : Level) (text digits : List ℕ) (n : ℕ) (outcome : Outcome) → outcome ≡ text_place 7 n
    → digits ≡ strip_last 10 text → n ≡ prefix_len is_ascii_hexdigit digits → IsHexPlace level text outcome.status outcome.place
bad_hex_placed level text digits n outcome is e count = grind arith

-- ---- what status 0 says

nothing_left : (bytes : List ℕ) (j : Judged Frame) → IsStop j → answer_at bytes j ≡ Ok tt → bytes ≡ []
nothing_left bytes j stop e = grind arith

report_at-text : (level : Level) (bytes : List ℕ) → answer_to level max_payload bytes ≡ Ok tt
    → (report_at level bytes).text ≡ encode_lower (canon_of level max_payload bytes) ++ 10 ∷ []
unfolding report_at
report_at-text level bytes e = rw e refl

accepted : (level : Level) (text written : List ℕ) (b : Supply) (d : Result (List ℕ) FromHexError) → decode_of (strip_last 10 text) ≡ d
    → IsWhole text b → (report_of level d).status ≡ 0 → written ≡ (report_of level d).text → AcceptsHex level text written b
accepted level text written b (Ok bytes) e whole zero w =
    let ok : answer_to level max_payload bytes ≡ Ok tt = answer_status_zero (answer_to level max_payload bytes) (sym (report_at-status level bytes) ∙ zero) in
    let none = nothing_left (place level (Some max_payload) bytes) (judge_place level max_payload bytes) (splits_of level (Some max_payload) bytes).stop ok in
    record {
      whole = whole;
      bytes = bytes;
      decoded = e;
      sequence = (
        front level (Some max_payload) bytes,
        sequence_of_all level (Some max_payload) bytes (decode_of-ok (strip_last 10 text) bytes e).3 none,
      );
      canonical = w ∙ report_at-text level bytes ok;
    }
accepted level text written b (Err error) e whole zero w = absurd (omega arith)

-- ---- how a run ends

module _ {level : Level} {text written : List ℕ} {a b : Supply} {k l : Store} {status : ℕ} where
  -- with a status of the ends or of memory, or as the report says
  early_or_reported : HexEnds level text written a b k l status
      → (3 ≤ status) ⊎ ((status ≡ (report level text).status) × IsWhole text b × (written ≡ (report level text).text))
  early_or_reported ends = grind arith

  accepts : HexEnds level text written a b k l status → status ≡ 0 → AcceptsHex level text written b
  accepts ends zero = grind (arith, early_or_reported, accepted)

  not_two : HexEnds level text written a b k l status → status ≢ 2
  not_two ends two = elim (early_or_reported ends) [
    | inl early ↦ absurd (omega (arith, early, two))
    | inr r ↦ report_status_not_two level (decode_of (strip_last 10 text)) (sym r.0 ∙ two)
  ]

  -- valid input ends with 0, unless memory runs out
  completes : {input : List ℕ} → HexEnds level text written a b k l status → Some input ≡ prepended text b.left
      → IsValidHex level input → NoFaults (a ⇒ b) (k ⇒ l) → IsDoneOrNoMemory status
  completes (no_memory s w few) e v f = inr s
  completes (read_failed s w few r) e v f = absurd (omega (arith, r f.source_below, f.source))
  completes {input = input} (too_long s w h) e v f =
      let split = split_of input text b.left e in absurd (omega (arith, v.few, ap length split.parts, length-append text split.rest))
  completes (write_failed s whole r p) e v f = absurd (omega (arith, r f.sink_below, f.sink))
  completes {input = input} (reported s whole w) e v f =
      inl (s ∙ ap (λ (xs : List ℕ). (report level xs).status) (all_taken input text b.left e whole.end) ∙ v.accepted)

-- a run of `hex` or `tidy` does not end with 2
pub hex_not_two : (level : Level) {a b : Supply} {k l : Store} {status : ℕ} → RunsHex level a b k l status → status ≢ 2
hex_not_two level run = not_two run.ends

-- ---- the ways in which a run ends

-- a run that ended with this status, without a place
abbrev pub unplaced_as : ℕ → Outcome
unplaced_as status = record { status = status; place = None }

abbrev pub printed_as : List ℕ → ℕ → Printed
printed_as text status = record { text = text; status = status }

hex_reports : {result : Result (List ℕ) InputError} {written : List ℕ} {a b : Supply} {k l : Store} (level : Level) (outcome : Outcome)
    (r : ReadsText a b result) → Gains k l written → HexEnds level r.taken written a b k l outcome.status
    → IsHexPlace level r.taken outcome.status outcome.place → ReportsHex level a b k l outcome
hex_reports {written = written} level outcome r gains ends place = record {
  run = record {
    text = r.taken;
    reads = r.reads;
    takes = r.takes;
    at_most = r.at_most;
    written = written;
    gains = gains;
    ends = ends;
    accepts = accepts ends;
    complete = λ input e v f. completes ends (taken_of e r.takes) v f;
  };
  place = place;
}

module _ (level : Level) (a b : Supply) (k : Store) where
  -- a read failed
  pub hex_read_fault : (after : ℕ) (outcome : Outcome) → outcome ≡ text_place 4 after → ReadsText a b (Err (errors.ReadFault after))
      → ReportsHex level a b k k outcome
  hex_read_fault after outcome e r =
      rw e (hex_reports level (text_place 4 after) r (Gains-none k) (read_failed refl refl r.ends.1 r.ends.2)
      (in_text level r.taken 4 after (omega arith) (omega arith) (omega arith) (λ h. r.ends.0) (λ h. absurd (omega arith)) (λ h. absurd (omega arith))))

  -- the text is too long
  pub hex_too_long : ReadsText a b (Err errors.TooLong) → ReportsHex level a b k k (text_place 6 longest)
  hex_too_long r =
      hex_reports level (text_place 6 longest) r (Gains-none k) (too_long refl refl r.ends)
      (in_text level r.taken 6 longest (omega arith) (omega arith) (omega arith) (λ h. absurd (omega arith)) (λ h. refl) (λ h. absurd (omega arith)))

  -- memory ran out as the text was read
  pub hex_no_memory : ReadsText a b (Err errors.NoMemory) → ReportsHex level a b k k (unplaced_as 3)
  hex_no_memory r =
      hex_reports level (unplaced_as 3) r (Gains-none k) (no_memory refl refl r.ends) (unplaced level r.taken 3 (omega arith) (omega arith))

  -- memory ran out on the way to the report
  pub hex_no_report : (text : List ℕ) (outcome : Outcome) → outcome ≡ unplaced_as 3 → ReadsText a b (Ok text) → ReportsHex level a b k k outcome
  hex_no_report text outcome e r = rw e (hex_reports level (unplaced_as 3) r (Gains-none k)
      (no_memory refl refl r.ends.1) (unplaced level r.taken 3 (omega arith) (omega arith)))

module _ (level : Level) (a b : Supply) (k l : Store) (text out : List ℕ) where
  -- the report was written whole
  pub hex_done : (outcome : Outcome) (u : Unit {0}) → ReadsText a b (Ok text) → printed_as out outcome.status ≡ report level text
      → IsHexPlace level text outcome.status outcome.place → WritesAll k l out (Ok u) → ReportsHex level a b k l outcome
  hex_done outcome u r e place w =
      let all = rw r.ends.0 at e in
      hex_reports level outcome r w.gains
      (reported (ap (λ p. p.status) all) (record { few = r.ends.1; end = r.ends.2 }) (w.ok ∙ ap (λ p. p.text) all))
      (rw r.ends.0 at place)

  -- the report was not written whole
  pub hex_write_fault : (status : ℕ) (outcome : Outcome) (f : SinkFault) → outcome ≡ unplaced_as 5 → ReadsText a b (Ok text)
      → printed_as out status ≡ report level text → WritesAll k l out (Err f) → ReportsHex level a b k l outcome
  hex_write_fault status outcome f is r e w = grind arith

-- ---- bytes in memory

-- what a sink that held nothing took is what was written
pub answered : (level : Level) (m n budget : ℕ) (source source' : Supply) (bytes : List ℕ) (old new : KeptBytes)
    (r : Result (Unit {0}) StreamError) → m ≡ n → old ≡ record { bytes = []; faults = 0 }
    → AnswersExactly level (call_of m budget (source ⇒ source') (store_of old ⇒ store_of new)) bytes r → IsAnswerWithin n level bytes new.bytes r
answered level m n budget source source' bytes old new r limit empty h = grind arith
