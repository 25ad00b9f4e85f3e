-- What is written for the frames in front of some bytes, and feeding them in pieces.
use Rattle.std.specs.Prelude.{◌≡◌, ◌==◌, ℕ, ◌+◌, ◌≤◌, true, List, [], ◌∷◌, ◌++◌, length, drop}
use Rattle.std.specs.Prelude.{if◌then◌else◌, Option, Some, None, Result, Ok, Err}
use Rattle.std.specs.List.{concat}
use Rattle.amqp_types.specs.Levels.{Level}
use Rattle.amqp_types.specs.Judging.{Fault, past, fault, took}
use Rattle.amqp_types.specs.Writing.{Puts}
use Rattle.amqp_types.specs.declared.profile.Profile.{Profile}
use Rattle.amqp_types.specs.declared.profile.Profile.TheVariants as profiles
use Rattle.amqp_wire.specs.declared.judging.FrameJudgement.{FrameJudgement}
use Rattle.amqp_wire.specs.Frames.{Frame, Raw}
use Rattle.amqp_wire.specs.Canonical.{canon}
use Rattle.amqp_wire.specs.Judgements.{IsJudged}
use Rattle.amqp_wire.specs.Verdicts.{is_at, judge_frame, decode_raw}
use Rattle.amqp_wire.specs.Fronts.{place}
use Rattle.amqp_stream.specs.declared.errors.StreamError.{StreamError}
use Rattle.amqp_stream.specs.Errors.{error_for, status_of}
use Rattle.amqp_stream.specs.Writing.{IsFaulty}
use Rattle.amqp_stream.specs.Canonicalizing.{canon_of}
use Rattle.amqp_stream.specs.Causes.{answer_to, judge_place}
use Rattle.amqp_c.specs.declared.canonicalize.CallProgress.{CallProgress}
use Rattle.amqp_c.specs.Scans.{error_at, fault_status}

-- the level that a number names
abbrev pub profile_at : ℕ → Option Profile
profile_at level =
    if level == 0 then Some profiles.Plain else (if level == 1 then Some profiles.Tidy else None)

-- ---- one call

-- how far a call came
abbrev pub came : ℕ → ℕ → ℕ → CallProgress
came used written status = record { used = used; written = written; status = status; unused = 0 }

-- nothing is used or written
pub record RefusesPart (status : ℕ) (old new : List ℕ) (progress : CallProgress) : Type 0 where
  pub is : progress ≡ came 0 0 status
  pub kept : new ≡ old

-- The frames in front are used, and their canonical bytes stand at the front of the buffer, which
-- is kept after them. The status is that of a stream of these bytes.
pub record CanonicalizesPart (level : Level) (m : ℕ)
    (bytes old new : List ℕ) (progress : CallProgress) : Type 0 where
  pub used : progress.used + length (place level (Some m) bytes) ≡ length bytes
  pub left : drop progress.used bytes ≡ place level (Some m) bytes
  pub put : Puts old new 0 (canon_of level m bytes) progress.written
  pub no_longer : progress.written ≤ progress.used
  pub status : progress.status ≡ status_of (answer_to level m bytes)
  pub unused : progress.unused ≡ 0

-- ---- one frame

-- a frame at a level, decoded; or the error of its fault
abbrev pub JudgesAt : Level → Raw → Result FrameJudgement StreamError → Type 0
JudgesAt level raw (Ok judged) = IsJudged raw judged × (is_at level raw ≡ true)
JudgesAt level raw (Err error) = (bad : Fault) × IsFaulty level raw bad × (error ≡ error_for bad)

-- the canonical bytes of a frame at a level are put at the place, or the error is that of its
-- fault, and nothing is put
abbrev pub PutsFrame : Level → List ℕ → List ℕ → ℕ → Raw → Result ℕ StreamError → Type 0
PutsFrame level old new at raw (Ok end) =
    (frame : Frame) × (decode_raw raw ≡ Ok frame)
    × (is_at level raw ≡ true) × Puts old new at (canon frame) end
PutsFrame level old new at raw (Err error) =
    (bad : Fault) × IsFaulty level raw bad × (error ≡ error_for bad) × (new ≡ old)

-- the frame in front was used and its canonical bytes put
pub record PutsFrom (level : Level) (m : ℕ)
    (bytes old new : List ℕ) (at used end : ℕ) : Type 0 where
  pub frame : Frame
  pub found : judge_frame level (Some m) bytes ≡ took frame used
  pub put : Puts old new at (canon frame) end
  pub no_longer : end ≤ at + used

-- the canonical bytes of the frame in front are put at the place, or the error says why none is in
-- front, and nothing is put
abbrev pub PutsFront : Level → ℕ → List ℕ → List ℕ
    → List ℕ → ℕ → Result (ℕ × ℕ) StreamError → Type 0
PutsFront level m bytes old new at (Ok (used, end)) = PutsFrom level m bytes old new at used end
PutsFront level m bytes old new at (Err error) =
    (error_at (judge_frame level (Some m) bytes) ≡ Some error) × (new ≡ old)

-- ---- pieces

-- what a call writes for some bytes, what it leaves of them, and its status
pub record Call : Type 0 where
  pub text : List ℕ
  pub left : List ℕ
  pub status : ℕ

-- a call on some bytes: it writes the canonical bytes of the frames in front, leaves the bytes
-- after them, and returns the status of a stream of them all
abbrev pub called : Level → ℕ → List ℕ → Call
called level m bytes = record {
  text = canon_of level m bytes;
  left = place level (Some m) bytes;
  status = status_of (answer_to level m bytes);
}

-- one call after others: what they left, in front of the next piece
abbrev pub then_called : Level → ℕ → Call → List ℕ → Call
then_called level m done piece =
    let next = called level m (done.left ++ piece) in
    record { text = done.text ++ next.text; left = next.left; status = next.status }

-- what a call and then one for each piece, in order, give together
abbrev pub fed_after : Level → ℕ → Call → List (List ℕ) → Call
fed_after level m done [] = done
fed_after level m done (piece ∷ pieces) = fed_after level m (then_called level m done piece) pieces

-- a first piece and then others
abbrev pub fed : Level → ℕ → List ℕ → List (List ℕ) → Call
fed level m first pieces = fed_after level m (called level m first) pieces

-- Bytes that are fed in pieces, with what was left in front of the next piece, give what one call
-- gives for them all.
abbrev pub PiecesAreWhole : Type 0
PiecesAreWhole =
    (level : Level) (m : ℕ) (first : List ℕ) (pieces : List (List ℕ))
    → fed level m first pieces ≡ called level m (first ++ concat pieces)

-- A fault stays, whatever follows: nothing more is used or written.
abbrev pub FaultsStay : Type 0
FaultsStay =
    (level : Level) (m : ℕ) (bytes more : List ℕ) (bad : Fault)
    → judge_place level m bytes ≡ fault bad
    → called level m (bytes ++ more)
    ≡ record {
      text = canon_of level m bytes;
      left = place level (Some m) bytes ++ more;
      status = fault_status bad;
    }

-- Where more bytes are needed, fewer are left than a frame of the largest size has.
abbrev pub LittleIsLeft : Type 0
LittleIsLeft =
    (level : Level) (m : ℕ) (bytes : List ℕ) → judge_place level m bytes ≡ past
    → length (place level (Some m) bytes) ≤ m + 7
