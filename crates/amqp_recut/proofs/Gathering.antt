-- What is gathered one after another, and the steps that are made of it.
use Rattle.amqp_stream.specs as stream
use Rattle.std.proofs.lemmas.Grind.{common_steps}
use Rattle.std.proofs.Common.{arith, ◌≡◌, ℕ, List, [], ◌++◌, append_assoc, append-nil, Result, Ok, Err}
use Rattle.amqp_wire.specs.Frames.{Raw, Body}
use Rattle.amqp_wire.specs.Verdicts.{decode_payload}
use stream.declared.sink.SinkFault.{SinkFault}
use stream.Ends.{Store}
use stream.Writing.{Gathered, GatherFails, Gathers}
use stream.Streaming.{IsStep, Writes, WriteFails}
use Rattle.amqp_stream.proofs.Adding.{Gains-then, Gains-none, Rises-later}
use Rattle.amqp_recut.specs.declared.recutter.Recutter.{Recutter}
use Rattle.amqp_recut.specs.Stepping.{recutting, step_recutting, body_raw}
use Rattle.amqp_stream.proofs.Transcribing.{gathered_then}

-- ---- bytes after bytes

-- Where bytes were gathered, and gathering more after them fails, gathering all of them fails.
pub gather_fails_later : {a b c : Store} {x y z p q : List ℕ} → Gathered a b x y p → GatherFails b c y z q → GatherFails a c x z (p ++ q)
gather_fails_later f g = record {
  piece = f.written ++ g.piece;
  gains = Gains-then _ _ _ _ _ f.gains g.gains;
  prefix = (g.prefix.0, grind (arith, common_steps, append_assoc));
  rises = Rises-later _ _ _ f.gains.faults g.gains.faults g.rises;
  none = g.none;
}

-- the first bytes were gathered, and then the others or not
pub gathers_then : {a b : Store} {x y p : List ℕ} (c : Store) (z q : List ℕ) (r : Result (Unit {0}) SinkFault)
    → Gathered a b x y p → Gathers b c y z q r → Gathers a c x z (p ++ q) r
gathers_then c z q (Ok done) f g = gathered_then f g
gathers_then c z q (Err bad) f g = gather_fails_later f g

-- the first bytes were not gathered, and so not all
pub gathers_less : {a b : Store} {x y p : List ℕ} (q : List ℕ) → GatherFails a b x y p → GatherFails a b x y (p ++ q)
gathers_less q f = record {
  piece = f.piece;
  gains = f.gains;
  prefix = (f.prefix.0 ++ q, grind (arith, common_steps, append_assoc));
  rises = f.rises;
  none = f.none;
}

-- other words for the same bytes
pub gathers_as : {p q : List ℕ} (a b : Store) (x y : List ℕ) (r : Result (Unit {0}) SinkFault) → p ≡ q → Gathers a b x y p r → Gathers a b x y q r
gathers_as a b x y r e h = rw e at h

-- Where the pending bytes are as they were, nothing was gathered.
pub gathered_none : (a : Store) (x y : List ℕ) → y ≡ x → Gathered a a x y []
gathered_none a x y e = grind (arith, common_steps, Gains-none, append-nil)

-- ---- a step

body_step : (s t : Recutter) (channel : ℕ) (payload bytes : List ℕ)
    → step_recutting s (Body channel payload) ≡ Ok (bytes, t) → IsStep recutting s t (body_raw channel payload) bytes
unfolding decode_payload
body_step s t channel payload bytes e = grind (arith, common_steps)

-- what is written for a body was gathered, or not
pub body_written : {s t : Recutter} {channel : ℕ} {payload bytes : List ℕ} (a b : Store) (x y : List ℕ)
    → step_recutting s (Body channel payload) ≡ Ok (bytes, t) → Gathered a b x y bytes → Writes recutting s t (body_raw channel payload) a b x y
body_written a b x y e h = grind (arith, common_steps, body_step)

-- Where gathering the bytes that a body is replaced by fails, writing for its frame fails.
pub body_unwritten : {s t : Recutter} {channel : ℕ} {payload bytes : List ℕ} (a b : Store) (x y : List ℕ)
    → step_recutting s (Body channel payload) ≡ Ok (bytes, t) → GatherFails a b x y bytes → WriteFails recutting s (body_raw channel payload) a b x y
body_unwritten a b x y e h = record { bytes = _; next = _; step = body_step _ _ _ _ _ e; failed = h }

-- and then some of what is pending was written
pub settled : {s t : Recutter} {raw : Raw} {a b : Store} {x y : List ℕ} (c : Store) (z : List ℕ)
    → Writes recutting s t raw a b x y → Gathered b c y z [] → Writes recutting s t raw a c x z
settled c z h g = record { bytes = h.bytes; step = h.step; gathered = rw append-nil at (gathered_then h.gathered g) }

-- Where a frame was written, and what is done after it fails without more bytes, writing for the frame fails.
pub unsettled : {s t : Recutter} {raw : Raw} {a b : Store} {x y : List ℕ} (c : Store) (z : List ℕ)
    → Writes recutting s t raw a b x y → GatherFails b c y z [] → WriteFails recutting s raw a c x z
unsettled c z h g =
    record { bytes = h.bytes; next = _; step = h.step; failed = rw append-nil at (gather_fails_later h.gathered g) }
