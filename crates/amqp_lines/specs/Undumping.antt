-- What reading lines of a stream does: which bytes are taken, which frames are written,
-- and why it ends.
use Rattle.std.specs.Prelude.{◌≡◌, ◌≢◌, ◌⊎◌, ℕ, ◌<◌, ◌≤◌, List, [], ◌∷◌, ◌++◌}
use Rattle.std.specs.Prelude.{length, Some, Result, Ok, Err}
use Rattle.amqp_types.specs.Levels.{strict}
use Rattle.amqp_types.specs.Judging.{IsBytes}
use Rattle.amqp_wire.specs.Frames.{Frame}
use Rattle.amqp_wire.specs.Canonical.{canon_frames}
use Rattle.amqp_wire.specs.Spelling.{SpellsFrames}
use Rattle.amqp_stream.specs.Calls.{Call, as_reported}
use Rattle.amqp_stream.specs.Ends.{Supply, Store, Takes, Gains, Rises, IsEmpty}
use Rattle.amqp_stream.specs.Writing.{IsPrefix}
use Rattle.amqp_stream.specs.Runs.{Claims, Runs}
use Rattle.amqp_lines.specs.Lines.{lines}
use Rattle.amqp_lines.specs.declared.errors.UndumpError.{UndumpError}
use Rattle.amqp_lines.specs.declared.errors.UndumpError.TheVariants as errors

-- Frames that their canonical bytes encode strictly, within a limit on payloads. These are bytes:
-- contracts see them as natural numbers, and a body with a number above 255, which no program
-- holds, could have a line of bytes too.
abbrev pub AreStrict : ℕ → List Frame → Type 0
AreStrict m frames =
    SpellsFrames strict (Some m) (canon_frames frames) frames × IsBytes (canon_frames frames)

-- a newline stands in the bytes
pub record HoldsNewline (bytes : List ℕ) : Type 0 where
  pub front : List ℕ
  pub back : List ℕ
  pub parts : bytes ≡ front ++ 10 ∷ back

-- the longest sequence of frames whose text the bytes begin with, and the bytes after that text
pub record IsLongestText (m : ℕ) (bytes : List ℕ)
    (frames : List Frame) (rest : List ℕ) : Type 0 where
  pub are_strict : AreStrict m frames
  pub parts : bytes ≡ lines frames ++ rest
  pub longest : (other : List Frame) → AreStrict m other
      → IsPrefix (lines other) bytes → length other ≤ length frames

-- When each result comes, by the bytes after the longest text.
abbrev pub HasCauseUndumped : Call Supply Store → List ℕ
    → List ℕ → Result (Unit {0}) UndumpError → Type 0
HasCauseUndumped call taken rest (Ok done) = (rest ≡ []) × IsEmpty call.source.new.left
HasCauseUndumped call taken rest (Err errors.BadText) = HoldsNewline rest
HasCauseUndumped call taken rest (Err errors.CutShort) =
    (rest ≢ []) × (HoldsNewline rest → ⊥) × IsEmpty call.source.new.left
HasCauseUndumped call taken rest (Err errors.TurnsSpent) =
    (call.budget ≤ length taken) × (HoldsNewline rest → ⊥)
HasCauseUndumped call taken rest (Err errors.ReadFault) =
    Rises call.source.old.faults call.source.new.faults × (HoldsNewline rest → ⊥)
HasCauseUndumped call taken rest (Err errors.WriteFault) =
    Rises call.sink.old.faults call.sink.new.faults
HasCauseUndumped call taken rest (Err errors.NoMemory) = Unit {0}

-- how many bytes one read takes at most
abbrev pub read_size : ℕ
read_size = 65536

-- The last of the bytes taken are at most 65,536, as many as a read takes. Of those before them,
-- the frames of the longest text were written, and no newline comes after that text: they are lines
-- that were written and then a part of one line.
pub record IsOneReadBehind (m : ℕ) (taken written : List ℕ) : Type 0 where
  pub before : List ℕ
  pub last : List ℕ
  pub parts : taken ≡ before ++ last
  pub few : length last ≤ read_size
  pub frames : List Frame
  pub rest : List ℕ
  pub text : IsLongestText m before frames rest
  pub no_line : HoldsNewline rest → ⊥
  pub written_begins : IsPrefix (canon_frames frames) written

-- what was written of some bytes: all of them, or a part of their front where a write
-- or memory failed
abbrev pub HasWrittenUndumped : List ℕ → List ℕ → Result (Unit {0}) UndumpError → Type 0
HasWrittenUndumped all written (Err errors.WriteFault) = IsPrefix written all
HasWrittenUndumped all written (Err errors.NoMemory) = IsPrefix written all
HasWrittenUndumped all written result = written ≡ all

-- a whole call
pub record Undumps (call : Call Supply Store)
    (result : Result (Unit {0}) UndumpError) : Type 0 where
  pub taken : List ℕ
  pub are_bytes : IsBytes taken
  pub reads : ℕ
  pub takes : Takes call.source.old call.source.new taken reads
  pub at_most : reads ≤ call.budget
  pub all_spent : result ≡ Err errors.TurnsSpent → reads ≡ call.budget
  pub frames : List Frame
  pub rest : List ℕ
  pub text : IsLongestText call.limit taken frames rest
  pub written : List ℕ
  pub gains : Gains call.sink.old call.sink.new written
  pub writes : HasWrittenUndumped (canon_frames frames) written result
  pub cause : HasCauseUndumped call taken rest result
  pub behind : IsOneReadBehind call.limit taken written

-- What is returned and written by all the bytes of a source, which are a longest text and the rest
-- after it. (Where the read budget or memory ran out, or an end failed, a part of the canonical
-- bytes was written.)
abbrev pub IsAnswerToText : List ℕ → List ℕ → List ℕ → Result (Unit {0}) UndumpError → Type 0
IsAnswerToText all rest written (Ok done) = (rest ≡ []) × (written ≡ all)
IsAnswerToText all rest written (Err errors.BadText) = HoldsNewline rest × (written ≡ all)
IsAnswerToText all rest written (Err errors.CutShort) =
    (rest ≢ []) × (HoldsNewline rest → ⊥) × (written ≡ all)
IsAnswerToText all rest written (Err error) = IsPrefix written all

-- what a call returns over a source that reports its bytes
pub record UndumpsExactly (call : Call Supply Store) (bytes : List ℕ)
    (result : Result (Unit {0}) UndumpError) : Type 0 where
  pub frames : List Frame
  pub rest : List ℕ
  pub text : IsLongestText call.limit bytes frames rest
  pub written : List ℕ
  pub gains : Gains call.sink.old call.sink.new written
  pub answer : IsAnswerToText (canon_frames frames) rest written result

-- valid text: the lines of frames within the limit, and a read budget above the number of bytes
pub record IsValidText (m budget : ℕ) (bytes : List ℕ) : Type 0 where
  pub frames : List Frame
  pub are_strict : AreStrict m frames
  pub is_text : bytes ≡ lines frames
  pub enough : length bytes < budget

-- the call ended well, or memory ran out
abbrev pub IsOkOrNoMemory : Result (Unit {0}) UndumpError → Type 0
IsOkOrNoMemory (Ok done) = Unit {0}
IsOkOrNoMemory (Err errors.NoMemory) = Unit {0}
IsOkOrNoMemory (Err error) = ⊥

-- what is claimed of a run that writes the canonical bytes of the frames of lines
abbrev pub undump_claims : Call Supply Store → Result (Unit {0}) UndumpError → Claims
undump_claims call result = record {
  Goes = Undumps call result;
  -- memory may run out before the first read
  IsSpent = (result ≡ Err errors.TurnsSpent) ⊎ (result ≡ Err errors.NoMemory);
  Exactly = λ bytes. UndumpsExactly call bytes result;
  Accepts = IsValidText call.limit call.budget;
  IsDone = IsOkOrNoMemory result;
}

-- such a run
abbrev pub UndumpRun : {S K : Type 0} → (S → Supply) → (K → Store)
    → Call S K → Result (Unit {0}) UndumpError → Type 0
UndumpRun supply store call result =
    Runs supply store call (undump_claims (as_reported supply store call) result)
