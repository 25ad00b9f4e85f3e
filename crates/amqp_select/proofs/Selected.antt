-- A frame that is kept is written, one that is dropped is decoded.
use Rattle.std.proofs.Common.{◌≡◌, ℕ, Bool, true, false, List, [], ◌∷◌, ◌++◌, ◌⊎◌, inl, inr, Result, Ok, cond, refl, sym, ap, subst, ◌∙◌}
use mathlib.Core.Path.{fun_ext}
use Rattle.std.specs.Prelude.{if◌then◌else◌}
use Rattle.std.specs.List.{flat_map}
use Rattle.std.specs.declared.string.ParseError.{Infallible}
use Rattle.amqp_types.specs.Levels.{plain}
use Rattle.amqp_wire.specs.Frames.{Raw, Frame}
use Rattle.amqp_wire.specs.Canonical.{canon, canon_frames}
use Rattle.amqp_wire.specs.declared.outline.FrameOutline.{FrameOutline}
use Rattle.amqp_wire.specs.Outlines.{outline_of}
use Rattle.amqp_wire.specs.Verdicts.{decode_raw}
use Rattle.amqp_wire.specs.declared.judging.FrameJudgement.{FrameJudgement}
use Rattle.amqp_wire.specs.Judgements.{IsJudged}
use Rattle.amqp_stream.specs.declared.errors.StreamError.{StreamError}
use Rattle.amqp_stream.specs.declared.errors.StreamError.TheVariants as errors
use Rattle.amqp_stream.specs.Changes.{Change}
use Rattle.amqp_stream.specs.Calls.{Call, as_reported}
use Rattle.amqp_stream.specs.Ends.{Supply, Store}
use Rattle.amqp_stream.specs.Streaming.{IsStep}
use Rattle.amqp_stream.specs.Decisions.{IsKept, IsDropped}
use Rattle.amqp_stream.specs.declared.report.RunReport.{RunReport}
use Rattle.amqp_stream.specs.Transcribing.{Transcribes, TranscribesExactly}
use Rattle.amqp_stream.specs.Reports.{CanonicalReport, WriterReport, NeverRanReport, NeverBeganReport, as_run_report, unreported}
use Rattle.amqp_stream.proofs.Transcribing.{Transcriber, maps}
use Rattle.amqp_stream.proofs.Runs.{run_by, text_run}
use Rattle.amqp_stream.proofs.Reporting.{unreported_as_run, report_at, never_began_report}
use Rattle.amqp_select.specs.declared.rule.Rule.{Rule}
use Rattle.amqp_select.specs.declared.selecting.Selector.{Selector}
use Rattle.amqp_select.specs.Matching as matching
use Rattle.amqp_select.specs.Matching.{decides}
use Rattle.amqp_select.specs.Selecting.{selection, selected, selecting, SelectReport}

-- ---- all frames

all_kept : (rules : List Rule) → ((outline : FrameOutline) → true ≡ decides rules outline) → (frames : List Frame) → matching.kept rules frames ≡ frames
all_kept rules all [] = refl
all_kept rules all (frame ∷ frames) = rw (sym (all (outline_of frame))) (ap (λ fs. frame ∷ fs) (all_kept rules all frames))

pub selects_all : (rules : List Rule) → ((outline : FrameOutline) → true ≡ decides rules outline) → canon_frames ≡ selection rules
selects_all rules all = fun_ext λ frames. ap canon_frames (sym (all_kept rules all frames))

-- where all are kept, what is canonicalized is what is selected
pub all_run : {S K : Type 0} (rules : List Rule) {supply : S → Supply} {store : K → Store}
    {call : Call S K} {source : Change S} {sink : Change K} (r : Result (Unit {0}) (RunReport StreamError))
    → ((outline : FrameOutline) → true ≡ decides rules outline)
    → CanonicalReport plain supply store call r ⊎ NeverBeganReport source sink errors.NoMemory r
    → SelectReport rules supply store call r ⊎ NeverBeganReport source sink errors.NoMemory r
all_run rules {supply = supply} {store = store} {call = call} r all (inl run) =
    let same = selects_all rules all in
    let ran = as_reported supply store call in
    inl (
      run_by (λ goes. subst (λ text. Transcribes text plain ran (unreported r)) same goes.run) (λ e. e)
          (λ bytes. subst (λ text. TranscribesExactly text plain ran bytes (unreported r)) same) (λ bytes e. e) (λ goes e. e) run.0,
      run.1,
    )
all_run rules r all (inr never) = inr never

-- ---- one frame

-- whether the frame that a whole payload is is kept
abbrev pub IsDecision : Selector → Raw → Bool → Type 0
IsDecision s raw b = (frame : Frame) → decode_raw raw ≡ Ok frame → b ≡ decides s.rules.now (outline_of frame)

drops : (s : Selector) (frame : Frame) → decides s.rules.now (outline_of frame) ≡ false → selected s.rules.now frame ≡ []
drops s frame e = rw e refl

keeps : (s : Selector) (frame : Frame) → decides s.rules.now (outline_of frame) ≡ true → selected s.rules.now frame ≡ canon frame
keeps s frame e = rw e refl

-- a frame that is kept
kept_step : (s : Selector) (raw : Raw) (frame : Frame) (b : Bool) → decode_raw raw ≡ Ok frame
    → IsDecision s raw b → b ≡ true → IsStep selecting s s raw (canon frame)
kept_step s raw frame b is decided yes-keep =
    record { frame = frame; is_whole = is; at_level = refl; steps = ap (λ (bytes : List ℕ). Ok (bytes, s)) (keeps s frame (sym (decided frame is) ∙ yes-keep)) }

-- before anything is written for it
pub keeps_frame : {judged : FrameJudgement} (s : Selector) (raw : Raw) (b : Bool)
    → (h : IsJudged raw judged) → IsDecision s raw b → b ≡ true → IsKept selecting s s raw judged
keeps_frame s raw b h decided e = record { is_judged = h; step = kept_step s raw h.frame b h.is decided e; compact = refl }

-- A frame that the rules do not keep is dropped, with nothing written for it.
pub drops_frame : {judged : FrameJudgement} (s : Selector) (raw : Raw) (b : Bool)
    → IsJudged raw judged → IsDecision s raw b → b ≡ false → IsDropped selecting s s raw
drops_frame s raw b h decided e = record {
  step =
      record {
        frame = h.frame;
        is_whole = h.is;
        at_level = refl;
        steps = ap (λ (bytes : List ℕ). Ok (bytes, s)) (drops s h.frame (sym (decided h.frame h.is) ∙ e));
      };
  compact = refl;
}

-- ---- a stream

selection_more : (b : Bool) (frame : Frame) (rest : List Frame) (bytes : List ℕ) → bytes ≡ canon_frames rest
    → (if b then canon frame else []) ++ bytes ≡ canon_frames (cond b (frame ∷ rest) rest)
selection_more true frame rest bytes e = ap (λ (xs : List ℕ). canon frame ++ xs) e
selection_more false frame rest bytes e = e

selection_is : (rules : List Rule) (frames : List Frame) → flat_map (selected rules) frames ≡ selection rules frames
selection_is rules [] = refl
selection_is rules (frame ∷ frames) = selection_more (decides rules (outline_of frame)) frame (matching.kept rules frames) _ (selection_is rules frames)

pub selects : (s : Selector) → Transcriber selecting s (selection s.rules.now)
selects s =
    let each = maps {E = Infallible} {level = plain} {compact = true} (λ (s : Selector) frame. selected s.rules.now frame) s in
    record {
      text_is = λ frames. each.text_is frames ∙ selection_is s.rules.now frames;
      none_refused = each.none_refused;
      wants_none = each.wants_none;
      ends = each.ends;
    }

-- a whole call
pub select_run : {S K : Type 0} (writer : Change Selector) {supply : S → Supply} {store : K → Store}
    {call : Call S K} {source : Change S} {sink : Change K} (r : Result (Unit {0}) (RunReport StreamError))
    → WriterReport selecting writer supply store call (as_run_report r) ⊎ NeverRanReport writer source sink (as_run_report {E = Infallible} r)
    → SelectReport writer.old.rules.now supply store call r ⊎ NeverBeganReport source sink errors.NoMemory r
select_run writer {supply = supply} {store = store} {call = call} r (inl run) =
    inl (
      text_run (selects writer.old) (rw unreported_as_run at run.0),
      report_at (selects writer.old) call.limit (as_reported supply store call).source r run.1,
    )
select_run writer r (inr never) = inr (never_began_report r never)
