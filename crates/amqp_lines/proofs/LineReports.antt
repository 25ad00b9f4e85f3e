-- What a call reports: the line that it reached, by the lines of frames in front.
use Rattle.amqp_lines.proofs
use proofs.Names.{◌≡◌, ℕ, ◌*◌, ◌≤◌, List, [], ◌∷◌, ◌++◌, length, Some, Result, Ok, Err, ap, ◌∙◌, append-nil, arith, IfErr, length-append, Frame, Beat, ◌⇒◌}
use proofs.Names.{Call, call_of, Supply, Store, taken_of, words, line, lines, Decides, UndumpRun, PassesLines, first_line, LinePlace, UndumpError, Answer}
use proofs.Names.{lengths}
use proofs.Names.errors
use Rattle.amqp_stream.specs.Ends.{last}
use Rattle.amqp_lines.specs.UndumpReports.{IsLineAfter, EndsAtLine, EndsExactlyAt, IsUndumpReport, unreported_lines}
use Rattle.amqp_lines.specs.declared.report.UndumpReport.{UndumpReport}
use proofs.Completing.{left_of, empty_left, Left}
use proofs.Exactly.{longest_more}
use proofs.Undumps.{never_began}

-- ---- the number of a line

words_some : (f : Frame) → 1 ≤ length (words f)
unfolding words
words_some Beat = omega arith
words_some f = omega arith

line_two : (f : Frame) → 2 ≤ length (line f)
unfolding line
line_two f = omega (lengths, words_some f)

lines_two : (fs : List Frame) → 2 * length fs ≤ length (lines fs)
unfolding lines
lines_two [] = omega arith
lines_two (f ∷ fs) = omega (lengths, line_two f, lines_two fs)

line_after : (fs : List Frame) (taken rest : List ℕ) (now : LinePlace) → taken ≡ lines fs ++ rest → PassesLines fs first_line now
    → length taken ≤ last → IsLineAfter fs now.line now.place
line_after fs taken rest now parts passes fits =
    let size = ap length parts ∙ length-append _ rest in
    let few = lines_two fs in
    record {
      line_is = omega (arith, passes.line (omega (arith, size, few, fits)));
      place_is = omega (arith, passes.place (omega (arith, size, fits)));
    }

-- ---- the report of an error

module _ {call : Call Supply Store} {now : LinePlace} where
  ends_at_line : (error : UndumpError) → Decides call now (Err error) → EndsAtLine call error now.line now.place
  ends_at_line error d = record {
    taken = d.taken;
    reads = d.reads;
    takes = d.takes;
    frames = d.frames;
    are_strict = d.are_strict;
    rest = d.rest;
    parts = d.parts;
    decided = d.decided;
    written = d.written;
    gains = d.gains;
    writes = d.writes;
    cause = d.cause;
    line_after = line_after d.frames d.taken d.rest now d.parts d.passes;
  }

  ends_exactly : (error : UndumpError) → Decides call now (Err error) → (bytes : List ℕ) → call.source.old.left ≡ Some bytes
      → length bytes ≤ last → EndsExactlyAt call.limit bytes error now.line now.place
  ends_exactly error d bytes left fits = by_error error d (left_of (taken_of left d.takes))
    where
      after : {error : UndumpError} (d : Decides call now (Err error)) → Left bytes d.taken call.source.new.left → IsLineAfter d.frames now.line now.place
      after d is = line_after d.frames d.taken d.rest now d.parts d.passes (omega (lengths, fits, ap length is.parts))

      by_error : (error : UndumpError) (d : Decides call now (Err error)) → Left bytes d.taken call.source.new.left
          → EndsExactlyAt call.limit bytes error now.line now.place
      by_error errors.BadText d is = record {
        frames = d.frames;
        rest = d.rest ++ is.more;
        text = rw is.parts (longest_more is.more d.cause d.decided);
        line_after = after d is;
      }
      by_error errors.CutShort d is = record {
        frames = d.frames;
        rest = d.rest;
        text = rw (is.parts, empty_left is.is d.cause.2, append-nil) d.decided;
        line_after = after d is;
      }
      by_error error d is = tt

-- ---- by the result

-- the report of a call that reached this line
pub reported : {call : Call Supply Store} {now : LinePlace} {answer : Answer} (r : Result (Unit {0}) UndumpReport)
    → unreported_lines r ≡ answer → IfErr r (λ report. report.line ≡ now.line) → IfErr r (λ report. report.place ≡ now.place)
    → Decides call now answer → IfErr r (IsUndumpReport call)
reported (Ok done) is number place d = tt
reported (Err report) is number place d =
    let h = rw (← is) at d in
    record {
      ends = rw (number, place) (ends_at_line report.error h);
      exact = λ bytes left fits. rw (number, place) (ends_exactly report.error h bytes left fits);
    }

-- the result without where it ended
pub unreported : {S K : Type 0} {supply : S → Supply} {store : K → Store} {call : Call S K}
    {answer : Answer} (r : Result (Unit {0}) UndumpReport) → unreported_lines r ≡ answer
    → UndumpRun supply store call answer → UndumpRun supply store call (unreported_lines r)
unreported r is h = rw is h

-- a call that memory did not let begin
pub never_reported : (m budget : ℕ) (source : Supply) (sink : Store) {first : LinePlace} (r : Result (Unit {0}) UndumpReport)
    → first ≡ first_line → unreported_lines r ≡ Err errors.NoMemory
    → IfErr r (λ report. report.line ≡ first.line) → IfErr r (λ report. report.place ≡ first.place)
    → IfErr r (IsUndumpReport (call_of m budget (source ⇒ source) (sink ⇒ sink)))
never_reported m budget source sink r first_is is number place = reported r is number place (rw first_is (never_began source sink))
