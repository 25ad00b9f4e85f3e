-- The answers of a peer are neither deep nor long, so that only memory can be wanting for them.
use Rattle.std.proofs.Common.{◌≡◌, ℕ, List, [], length, Some, Result, Ok, Err, refl, sym, subst, ◌∙◌}
use Rattle.std.specs.Option.{option_map}
use Rattle.std.specs.Prelude.{Option}
use Rattle.amqp_types.specs.Writing.{Appends}
use Rattle.amqp_types.specs.Rows.{rows_of, slots_at}
use Rattle.amqp_types.specs.SlotBytes.{slots_bytes}
use Rattle.amqp_types.specs.Methods.{method_bytes, payload_bytes}
use Rattle.amqp_types.specs.declared.errors.GenError.{GenError}
use Rattle.amqp_types.specs.declared.errors.GenError.TheVariants as errors
use Rattle.amqp_channel.specs.declared.methods.channel.AMQPMethod.TheVariants as methods
use Rattle.amqp_protocol.specs.declared.class.AMQPClass.TheVariants as classes
use Rattle.amqp_frame.specs.declared.frame.AMQPFrame.{AMQPFrame}
use Rattle.amqp_frame.specs.declared.frame.AMQPFrame.TheVariants as frames
use Rattle.amqp_frame.specs.Frames.{Frame, Meth, Beat, frame_of}
use Rattle.amqp_frame.specs.Canonical.{canon, size_of}
use Rattle.amqp_vectors_frames.specs.Answering.{due}

-- a frame has a size
abbrev IsSized : Frame → Type 0
IsSized frame = size_of frame ≡ Ok (length (canon frame))

beat_sized : IsSized Beat
unfolding size_of canon
beat_sized = refl

close_ok_sized : (channel : ℕ) → IsSized (Meth channel (record { class = 20; id = 41; items = [] }))
unfolding size_of canon rows_of slots_at slots_bytes method_bytes payload_bytes
close_ok_sized channel = refl

due_sized : (frame : AMQPFrame) (answer : Frame) → due frame ≡ Some answer → IsSized answer
due_sized frames.Heartbeat answer h = let is : Beat ≡ answer = cc in subst (λ f. IsSized f) is beat_sized
due_sized (frames.Method channel (classes.Channel (methods.Close close))) answer h =
    let is : Meth channel (record { class = 20; id = 41; items = [] }) ≡ answer = cc in
    subst (λ f. IsSized f) is (close_ok_sized channel)
due_sized (frames.Method channel (classes.Channel (methods.Open m))) answer h = absurd cc
due_sized (frames.Method channel (classes.Channel (methods.OpenOk m))) answer h = absurd cc
due_sized (frames.Method channel (classes.Channel (methods.Flow m))) answer h = absurd cc
due_sized (frames.Method channel (classes.Channel (methods.FlowOk m))) answer h = absurd cc
due_sized (frames.Method channel (classes.Channel (methods.CloseOk m))) answer h = absurd cc
due_sized (frames.Method channel (classes.Basic m)) answer h = absurd cc
due_sized (frames.Method channel (classes.Connection m)) answer h = absurd cc
due_sized (frames.Method channel (classes.Access m)) answer h = absurd cc
due_sized (frames.Method channel (classes.Exchange m)) answer h = absurd cc
due_sized (frames.Method channel (classes.Queue m)) answer h = absurd cc
due_sized (frames.Method channel (classes.Tx m)) answer h = absurd cc
due_sized (frames.Method channel (classes.Confirm m)) answer h = absurd cc
due_sized (frames.ProtocolHeader version) answer h = absurd cc
due_sized (frames.Header channel header) answer h = absurd cc
due_sized (frames.Body channel content) answer h = absurd cc
due_sized (frames.InvalidHeartbeat channel) answer h = absurd cc

sized_refused : (X : Type 0) (old new bytes : List ℕ) (size : Result ℕ GenError) (n : ℕ) (error : GenError)
    → size ≡ Ok n → Appends {X = X} old new size bytes (Err error) → error ≡ errors.NoMemory
sized_refused X old new bytes size n errors.NoMemory is h = refl
sized_refused X old new bytes size n errors.TooDeep is h = absurd (let e = sym is ∙ h.0 in cc)
sized_refused X old new bytes size n errors.TooLong is h = absurd (let e = sym is ∙ h.0 in cc)
sized_refused X old new bytes size n errors.BufferTooSmall is h = absurd (let e = sym is ∙ h.0 in cc)

-- An answer of a peer is refused only where out of memory.
pub answer_refused : (X : Type 0) (old new : List ℕ) (error : GenError) (frame reply : AMQPFrame) (found : Option AMQPFrame)
    → option_map frame_of found ≡ due frame → found ≡ Some reply
    → Appends {X = X} old new (size_of (frame_of reply)) (canon (frame_of reply)) (Err error) → error ≡ errors.NoMemory
answer_refused X old new error frame reply found is some h =
    let P : Option AMQPFrame → Type 0 = λ o. option_map frame_of o ≡ due frame in
    sized_refused X old new (canon (frame_of reply)) (size_of (frame_of reply))
    (length (canon (frame_of reply))) error (due_sized frame (frame_of reply) (sym (subst P some is))) h
