-- How lines are taken from text that is held, and their canonical bytes gathered.
use Rattle.std.specs.Prelude.{◌≡◌, ◌≢◌, ℕ, ◌+◌, ◌<◌, ◌≤◌, min, Bool, true, false, List, []}
use Rattle.std.specs.Prelude.{◌∷◌, ◌++◌, length, take, Option, Some, None, Result, Ok, Err}
use Rattle.std.specs.List.{AllByRecursion}
use Rattle.amqp_types.specs.declared.errors.NoMemory.{NoMemory}
use Rattle.amqp_types.specs.Judging.{IsBytes}
use Rattle.amqp_wire.specs.Frames.{Frame}
use Rattle.amqp_wire.specs.Canonical.{canon_frames}
use Rattle.amqp_stream.specs.Calls.{Call}
use Rattle.amqp_stream.specs.Ends.{Supply, Store, Takes, Gains, Rises, IsEmpty, last}
use Rattle.amqp_stream.specs.declared.sink.SinkFault.{SinkFault}
use Rattle.amqp_stream.specs.Writing.{WritesAll, Gathered, GatherFails, Keeps}
use Rattle.amqp_lines.specs.Lines.{lines}
use Rattle.amqp_lines.specs.OneLine.{IsNoLine, IsLineOf}
use Rattle.amqp_lines.specs.Undumping.{AreStrict, HoldsNewline, IsLongestText, read_size}
use Rattle.amqp_lines.specs.Undumping.{HasCauseUndumped, IsOneReadBehind}
use Rattle.amqp_lines.specs.UndumpReports.{AreDecided, HasWrittenDecided}
use Rattle.amqp_lines.specs.UndumpReports.{PassesLines, first_line}
use Rattle.amqp_lines.specs.declared.report.LinePlace.{LinePlace}
use Rattle.amqp_lines.specs.declared.errors.UndumpError.{UndumpError}
use Rattle.amqp_lines.specs.declared.errors.UndumpError.TheVariants as errors

-- no byte is a newline (10)
abbrev pub HasNoNewline : List ℕ → Type 0
HasNoNewline = AllByRecursion (λ byte. byte ≢ 10)

-- a newline that ends the first line
pub record IsFirstLine (text : List ℕ) (end : ℕ) : Type 0 where
  pub front : List ℕ
  pub parts : take end text ≡ front ++ 10 ∷ []
  pub none_before : HasNoNewline front
  pub some : 0 < end
  pub within : end ≤ length text

-- where the first line ends, if one does
abbrev pub EndsLine : List ℕ → Option ℕ → Type 0
EndsLine text None = HasNoNewline text
EndsLine text (Some end) = IsFirstLine text end

-- whether a text is the line of a frame, whose canonical bytes are then held
abbrev pub RendersLine : ℕ → List ℕ → List ℕ → Result Bool NoMemory → Type 0
RendersLine m text canonical (Ok true) = IsLineOf m text canonical
RendersLine m text canonical (Ok false) = IsNoLine m text
RendersLine m text canonical (Err error) = Unit {0}

-- the canonical bytes of the frame of a line are gathered, or not all of them, or the line is
-- that of no frame
abbrev pub GathersLine : ℕ → List ℕ → Store → Store → List ℕ
    → List ℕ → Result (Unit {0}) UndumpError → Type 0
GathersLine m text old new before after (Ok done) =
    (canonical : List ℕ) × IsLineOf m text canonical × Gathered old new before after canonical
GathersLine m text old new before after (Err errors.BadText) =
    IsNoLine m text × Keeps old new before after
GathersLine m text old new before after (Err errors.WriteFault) =
    (canonical : List ℕ) × IsLineOf m text canonical × GatherFails old new before after canonical
GathersLine m text old new before after (Err errors.NoMemory) = Keeps old new before after
GathersLine m text old new before after (Err error) = ⊥

-- the place of the next line after a line of so many bytes; each count stays at its last value
pub record IsNextPlace (size : ℕ) (old new : LinePlace) : Type 0 where
  pub line : new.line ≡ min (old.line + 1) last
  pub place : new.place ≡ min (old.place + size) last

-- the line is passed where it is that of a frame
abbrev pub PassesLine : List ℕ → LinePlace → LinePlace → Result (Unit {0}) UndumpError → Type 0
PassesLine text old new (Err errors.BadText) = new ≡ old
PassesLine text old new (Err errors.NoMemory) = new ≡ old
PassesLine text old new result = IsNextPlace (length text) old new

-- what is gathered of some text, by the frames whose lines stand in front, and the rest after them
abbrev pub GathersAll : ℕ → List ℕ → List Frame → List ℕ → Store → Store
    → List ℕ → List ℕ → Result ℕ UndumpError → Type 0
GathersAll m text frames rest old new before after (Ok left) =
    (left ≡ length rest) × HasNoNewline rest
    × Gathered old new before after (canon_frames frames)
GathersAll m text frames rest old new before after (Err errors.BadText) =
    IsLongestText m text frames rest × HoldsNewline rest
    × Gathered old new before after (canon_frames frames)
GathersAll m text frames rest old new before after (Err errors.WriteFault) =
    GatherFails old new before after (canon_frames frames)
GathersAll m text frames rest old new before after (Err errors.NoMemory) =
    Gathered old new before after (canon_frames frames)
GathersAll m text frames rest old new before after (Err error) = ⊥

-- what a call gathers of some text: the canonical bytes of frames whose lines stand in front, and
-- which are passed
pub record GathersLines (m : ℕ) (text : List ℕ) (at now : LinePlace) (old new : Store)
    (before after : List ℕ) (result : Result ℕ UndumpError) : Type 0 where
  pub frames : List Frame
  pub are_strict : AreStrict m frames
  pub rest : List ℕ
  pub parts : text ≡ lines frames ++ rest
  pub passes : PassesLines frames at now
  pub gathers : GathersAll m text frames rest old new before after result

-- what one read returns, by the bytes that it took
abbrev pub ReadsAs : Supply → Supply → List ℕ → List ℕ → List ℕ → Result ℕ UndumpError → Type 0
ReadsAs old new before after piece (Ok n) =
    (after ≡ before ++ piece) × (length piece ≡ n) × (n ≡ 0 → IsEmpty new.left)
ReadsAs old new before after piece (Err errors.ReadFault) =
    (piece ≡ []) × Rises old.faults new.faults
ReadsAs old new before after piece (Err errors.NoMemory) = Unit {0}
ReadsAs old new before after piece (Err error) = ⊥

-- one read after the bytes that are held
pub record ReadsOnce (old new : Supply) (before after : List ℕ)
    (result : Result ℕ UndumpError) : Type 0 where
  pub piece : List ℕ
  pub few : length piece ≤ read_size
  pub are_bytes : IsBytes piece
  pub takes : Takes old new piece 1
  pub reads : ReadsAs old new before after piece result

-- the result of a call that is to end with this error, and first writes what is pending
abbrev pub stopped : UndumpError → Result (Unit {0}) SinkFault → Result (Unit {0}) UndumpError
stopped error (Ok done) = Err error
stopped error (Err bad) = Err errors.WriteFault

-- what was pending is written first, and then the call ends with this error, or with WriteFault
-- where the write fails
pub record StopsWith (old new : Store) (pending : List ℕ) (error : UndumpError)
    (result : Result (Unit {0}) UndumpError) : Type 0 where
  pub written : Result (Unit {0}) SinkFault
  pub writes : WritesAll old new pending written
  pub answer : result ≡ stopped error written

-- the result at the end of input, where this is held
abbrev pub end_of_text : List ℕ → Result (Unit {0}) UndumpError
end_of_text [] = Ok tt
end_of_text (byte ∷ bytes) = Err errors.CutShort

-- A whole call, and the line that it reached: of what was taken, the lines of these frames were
-- decided, and their canonical bytes written.
pub record Decides (call : Call Supply Store) (now : LinePlace)
    (result : Result (Unit {0}) UndumpError) : Type 0 where
  pub taken : List ℕ
  pub are_bytes : IsBytes taken
  pub reads : ℕ
  pub takes : Takes call.source.old call.source.new taken reads
  pub at_most : reads ≤ call.budget
  pub all_spent : result ≡ Err errors.TurnsSpent → reads ≡ call.budget
  pub frames : List Frame
  pub are_strict : AreStrict call.limit frames
  pub rest : List ℕ
  pub parts : taken ≡ lines frames ++ rest
  pub decided : AreDecided call.limit taken frames rest result
  pub written : List ℕ
  pub gains : Gains call.sink.old call.sink.new written
  pub writes : HasWrittenDecided (canon_frames frames) written result
  pub cause : HasCauseUndumped call taken rest result
  pub behind : IsOneReadBehind call.limit taken written
  pub passes : PassesLines frames first_line now
