-- What a loop over the frames of a source does that writes each before the next is read: which
-- bytes are read and written, what the reader holds afterwards, and why it ends.
use Rattle.std.specs.Prelude.{◌≡◌, ◌≢◌, ◌⊎◌, ℕ, ◌+◌, ◌-◌, ◌≤◌, List, [], ◌++◌}
use Rattle.std.specs.Prelude.{length, drop, Some, Result, Ok, Err}
use Rattle.amqp_types.specs.Levels.{plain}
use Rattle.amqp_types.specs.Judging.{Fault, past, fault, took, IsBytes}
use Rattle.amqp_wire.specs.Frames.{Frame, Raw}
use Rattle.amqp_wire.specs.HeaderScan.{scan}
use Rattle.amqp_wire.specs.Verdicts.{decode_raw}
use Rattle.amqp_wire.specs.Canonical.{canon, canon_frames}
use Rattle.amqp_wire.specs.Spelling.{SpellsFrames}
use Rattle.amqp_wire.specs.Fronts.{ComesBefore}
use Rattle.amqp_stream.specs.declared.errors.StreamError.{StreamError}
use Rattle.amqp_stream.specs.Ends.{Supply, Store, Takes, Gains, Rises, IsEmpty}
use Rattle.amqp_stream.specs.Errors.{Cause, faulty, cut_short, budget_spent, read_failed}
use Rattle.amqp_stream.specs.Errors.{write_failed, out_of_memory, cause_of}
use Rattle.amqp_stream.specs.Writing.{IsPrefix}

-- The rest is what follows the frames that were written in full. A frame at its front was read, and
-- the reader holds what comes after that.
pub record IsPassed (limit : ℕ) (rest after : List ℕ) (raw : Raw) : Type 0 where
  pub used : ℕ
  pub found : scan (Some limit) rest ≡ took raw used
  pub held : after ≡ drop used rest

-- no whole frame and no fault is at the front of the rest, and it is held
abbrev pub WantsMore : ℕ → List ℕ → List ℕ → Type 0
WantsMore limit rest after = (scan (Some limit) rest ≡ past) × (after ≡ rest)

-- a fault of a frame's header or end byte is at the front of the rest, and it is held
abbrev pub IsFaultOutside : ℕ → List ℕ → List ℕ → Fault → Type 0
IsFaultOutside limit rest after bad = (scan (Some limit) rest ≡ fault bad) × (after ≡ rest)

-- a frame whose payload has a fault was read
abbrev pub IsFaultInside : ℕ → List ℕ → List ℕ → Fault → Type 0
IsFaultInside limit rest after bad =
    (raw : Raw) × IsPassed limit rest after raw × (decode_raw raw ≡ Err bad)

-- When a call ends early by each cause: by the rest, what the reader holds, the read budget that is
-- left, and the two ends. Memory never runs out.
abbrev pub IsEndedBy : ℕ → ℕ → Supply → Supply → Store → Store → List ℕ → List ℕ → Cause → Type 0
IsEndedBy limit budget a b k l rest after (faulty bad) =
    IsFaultOutside limit rest after bad ⊎ IsFaultInside limit rest after bad
IsEndedBy limit budget a b k l rest after cut_short =
    WantsMore limit rest after × (rest ≢ []) × IsEmpty b.left
IsEndedBy limit budget a b k l rest after budget_spent = WantsMore limit rest after × (budget ≡ 0)
IsEndedBy limit budget a b k l rest after read_failed =
    WantsMore limit rest after × Rises a.faults b.faults
IsEndedBy limit budget a b k l rest after write_failed = Rises k.faults l.faults
IsEndedBy limit budget a b k l rest after out_of_memory = ⊥

-- when each result comes: at the end of input no bytes are left or held
abbrev pub HasEnded : ℕ → ℕ → Supply → Supply → Store → Store
    → List ℕ → List ℕ → Result (Unit {0}) StreamError → Type 0
HasEnded limit budget a b k l rest after (Ok done) = (rest ≡ []) × (after ≡ []) × IsEmpty b.left
HasEnded limit budget a b k l rest after (Err error) =
    IsEndedBy limit budget a b k l rest after (cause_of error)

-- what was written where a write failed: the canonical bytes of the frames, and a part of the front
-- of those of the next frame, which was read
pub record IsBrokenOff (limit : ℕ) (frames : List Frame)
    (written rest after : List ℕ) : Type 0 where
  pub raw : Raw
  pub passed : IsPassed limit rest after raw
  pub next : Frame
  pub is_whole : decode_raw raw ≡ Ok next
  pub part : List ℕ
  pub begins : IsPrefix part (canon next)
  pub parts : written ≡ canon_frames frames ++ part

-- what was written by a call that ended early
abbrev pub IsForwardedUpTo : ℕ → List Frame → List ℕ → List ℕ → List ℕ → Cause → Type 0
IsForwardedUpTo limit frames written rest after write_failed =
    IsBrokenOff limit frames written rest after
IsForwardedUpTo limit frames written rest after cause = written ≡ canon_frames frames

-- what was written: the canonical bytes of the frames, and no others unless a write failed
abbrev pub HasForwarded : ℕ → List Frame → List ℕ → List ℕ
    → List ℕ → Result (Unit {0}) StreamError → Type 0
HasForwarded limit frames written rest after (Ok done) = written ≡ canon_frames frames
HasForwarded limit frames written rest after (Err error) =
    IsForwardedUpTo limit frames written rest after (cause_of error)

-- A whole call: the reader held some bytes before it and holds others after it, a is the source
-- before it and b after it, k and l the sink.
pub record Forwards (limit : ℕ) (held : List ℕ) (budget_old budget_new : ℕ) (a b : Supply)
    (k l : Store) (after : List ℕ) (result : Result (Unit {0}) StreamError) : Type 0 where
  -- what was read: each read takes one of the read budget, and one read at most gave nothing
  pub taken : List ℕ
  pub are_bytes : IsBytes taken
  pub takes : Takes a b taken (budget_old - budget_new)
  pub budget_falls : budget_new ≤ budget_old
  pub few : budget_old ≤ budget_new + length taken + 1
  -- the frames that were written in full: all bytes begin with them, whatever follows
  pub frames : List Frame
  pub front : List ℕ
  pub rest : List ℕ
  pub all : held ++ taken ≡ front ++ rest
  pub sequence : SpellsFrames plain (Some limit) front frames
  pub precedes : ComesBefore plain (Some limit) front frames
  -- what was written for them, and why the call ended
  pub written : List ℕ
  pub gains : Gains k l written
  pub wrote : HasForwarded limit frames written rest after result
  pub ended : HasEnded limit budget_new a b k l rest after result
