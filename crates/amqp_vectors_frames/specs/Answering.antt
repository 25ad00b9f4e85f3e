-- What a peer answers to the frame at the front of its input.
use Rattle.std.specs.Prelude.{◌≡◌, ℕ, List, [], ◌++◌, Option, Some, None, Err}
use Rattle.amqp_types.specs.Levels.{plain}
use Rattle.amqp_types.specs.Judging.{took}
use Rattle.amqp_types.specs.Answers.{Answers}
use Rattle.amqp_types.specs.declared.errors.GenError.TheVariants as gen_errors
use Rattle.amqp_channel.specs.declared.methods.channel.AMQPMethod.TheVariants as methods
use Rattle.amqp_protocol.specs.declared.class.AMQPClass.TheVariants as classes
use Rattle.amqp_frame.specs.declared.frame.AMQPFrame.{AMQPFrame}
use Rattle.amqp_frame.specs.declared.frame.AMQPFrame.TheVariants as frames
use Rattle.amqp_frame.specs.Frames.{Frame, Meth, Beat, frame_of}
use Rattle.amqp_frame.specs.Canonical.{canon}
use Rattle.amqp_frame.specs.Verdicts.{judge_frame}
use Rattle.amqp_vectors_frames.specs.declared.answering.AnswerError.{AnswerError}
use Rattle.amqp_vectors_frames.specs.declared.answering.AnswerError.TheVariants as errors

-- the answer that is due: a heartbeat to a heartbeat, and `CloseOk` to a `Close` of its channel
-- (AMQP 0-9-1, sections 4.2.7 and 1.5.2.5)
abbrev pub due : AMQPFrame → Option Frame
due frames.Heartbeat = Some Beat
due (frames.Method channel (classes.Channel (methods.Close close))) =
    Some (Meth channel (record { class = 20; id = 41; items = [] }))
due frame = None

-- the canonical bytes of an answer, none where there is none
abbrev pub answer_bytes : Option Frame → List ℕ
answer_bytes None = []
answer_bytes (Some answer) = canon answer

-- A frame stands at the front of the input, in just as many bytes as were used, and the answer that
-- is due to it was appended.
pub record IsAnswered (input old new : List ℕ) (used : ℕ) : Type 0 where
  pub frame : AMQPFrame
  pub found : judge_frame plain None input ≡ took (frame_of frame) used
  pub appended : new ≡ old ++ answer_bytes (due frame)

-- Why there is no answer: what stands at the front of the input is refused, or memory ran out
-- for the answer.
abbrev pub IsRefused : List ℕ → AnswerError → Type 0
IsRefused input (errors.Parse error) = Answers frame_of (Err error) (judge_frame plain None input)
IsRefused input (errors.Gen error) = error ≡ gen_errors.NoMemory
