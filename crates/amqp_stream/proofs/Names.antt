-- The names that most proofs of streams cite, passed on from one place.
use Rattle.amqp_stream.specs
use Rattle.amqp_types.specs as types
use Rattle.amqp_wire.specs as wire
pub use Rattle.std.proofs.Common.{◌≡◌, ℕ, ◌+◌, ◌-◌, ◌<◌, ◌≤◌, ◌++◌, ◌∙◌, ◌≢◌, ◌∷◌, ◌*◌, ◌%◌, ◌^◌, ◌⊎◌, List, [], length, Option, Some, None, refl, sym, ap}
pub use Rattle.std.proofs.Common.{subst, inl, inr, arith, append_assoc, append-nil, true, Result, Ok, IsTrue, Err, drop, take, suc, zero, Bool, false}
pub use Rattle.std.proofs.Math.Seq.{take-add}
pub use Rattle.std.proofs.lemmas.Bool.{cases_lt}
pub use Rattle.std.proofs.lemmas.Bool.Decides.{nat_tests}
pub use Rattle.std.proofs.lemmas.List.{length-append, take_at, take-append-drop, nil_from_length, length-take-le, take-take, length-drop, drop_at, drop-drop}
pub use Rattle.std.proofs.lemmas.List.{take_rest}
pub use Rattle.std.specs.Io.KnownBytes.{Keeps}
pub use Rattle.std.specs.Prelude.{◌==◌, if◌then◌else◌}
pub use Rattle.std.specs.declared.string.ParseError.{Infallible}
pub use specs.Buffers.{Adds}
pub use specs.Calls.{Call, call_of}
pub use specs.Canonicalizing.{Canonicalizes}
pub use specs.Causes.{IsSequence, judge_place, answer_to}
pub use specs.Changes.{◌⇒◌, Change}
pub use specs.Decisions.{IsKept}
pub use specs.Ends.{Supply, Takes, Store, Gains, Grows, Rises, prepended, counted, last, IsEmpty}
pub use specs.Errors.{error_for, faulty, cut_short, budget_spent, read_failed, write_failed, out_of_memory, cause_of, stream_error, read_fault, Cause}
pub use specs.Made.{made_from, made_channel, made_payload, select_payload, declare_payload}
unfoldable pub use specs.Made.{made_frame}
pub use specs.Manners.{canonical_at}
pub use specs.Reading.{ReadsMore, Lies, Holding, Ends, IsBorrowed, HasNext, LiesIn, Finds}
pub use specs.Resuming.{ahead, with_ahead, Rests, RestsAfter, RestsBy, Resumes}
pub use specs.Runs.{WriterRun}
pub use specs.Spans.{held_in}
pub use specs.Steps.{Manner}
unfoldable pub use specs.Steps.{text, refused, state}
pub use specs.Streaming.{Writes, Ending, finished, refused_by, stopped_by, text_of, refused_of, state_of, plan_of, Plan, Streams, answer_at_end, IsExactRun}
pub use specs.Streaming.{UnlessStoppedBy, StreamsExactly, IsWelcome, IsDoneOrWanting, error_ending, ending_of, WritesBy, end_with, EndsWith, IsShortBy}
pub use specs.Streaming.{HasCause, HasWritten, HasState, as_run}
pub use specs.Taking.{gathered, IsTaken, IsStopped}
pub use specs.Transcribing.{text_ending}
pub use specs.Writing.{IsPrefix, WritesAll, GatherFails, IsFaulty, Gathered}
pub use specs.declared.decision.Decision.{Decision}
pub use specs.declared.errors.ReadError.{ReadError}
pub use specs.declared.errors.RunError.{RunError}
pub use specs.declared.errors.StreamError.{StreamError}
pub use specs.declared.sink.SinkFault.{SinkFault}
pub use specs.declared.source.SourceFault.{SourceFault}
pub use Rattle.amqp_types.proofs.Bytes.{IsBytes-take, IsBytes-drop}
pub use Rattle.amqp_types.proofs.WrittenParts.{written-length}
pub use types.Judging.{IsBytes, Fault, Judged, past, fault, not_tidy, took}
pub use types.Levels.{Level, plain}
pub use types.Writing.{Puts}
unfoldable pub use types.Writing.{written}
pub use types.declared.errors.ParserError.{ParserError}
pub use Rattle.amqp_wire.proofs.Cuts.{place-none, verdict-whole}
pub use Rattle.amqp_wire.proofs.HeaderScan.{scan-in_bounds, scan-none, scan-past_few}
pub use Rattle.amqp_wire.proofs.Looked.{raw_with}
pub use Rattle.amqp_wire.proofs.Sequences.{sequence_front, splits_of}
pub use wire.Canonical.{canon_frames}
unfoldable pub use wire.Canonical.{canon}
pub use wire.Frames.{Frame, Raw, frame_length, Body, raw_of}
pub use wire.Fronts.{front, place}
pub use wire.HeaderScan.{scan}
pub use wire.Judgements.{IsJudged}
pub use wire.Looks.{laid_out}
pub use wire.Spelling.{SpellsFrames}
pub use wire.Verdicts.{decode_raw, is_at, judge_decoded}
unfoldable pub use wire.Verdicts.{judge_frame}
pub use wire.declared.frame_type.AMQPFrameType.{AMQPFrameType}
pub use wire.declared.judging.FrameJudgement.{FrameJudgement}
pub use wire.declared.looking.FrameLayout.{FrameLayout}
pub use wire.declared.raw_frame.AMQPRawFrame.{AMQPRawFrame}
pub use specs.declared.errors.RunError.TheVariants as ends
pub use specs.declared.errors.StreamError.TheVariants as errors
pub use specs.declared.decision.Decision.TheVariants as decisions
pub use wire.declared.frame_type.AMQPFrameType.TheVariants as kinds
