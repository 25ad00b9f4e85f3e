-- What a run of each command does. a is the source before the run and b after it, k and l the sink.
use Rattle.std.specs.Prelude.{◌≡◌, ◌⊎◌, ℕ, Bool, ◌+◌, ◌^◌, ◌<◌, ◌≤◌, List, [], ◌∷◌, ◌++◌, length}
use Rattle.std.specs.Prelude.{Option, Some, None, Result, Ok, Err}
use Rattle.hex.specs.Hex.{decode_of, encode_lower}
use Rattle.std.specs.Io.BufRead.{strip_last}
use Rattle.amqp_types.specs.Levels.{Level, plain}
use Rattle.amqp_wire.specs.declared.frame_type.AMQPFrameType.{AMQPFrameType}
use Rattle.amqp_wire.specs.Frames.{Frame}
use Rattle.amqp_stream.specs.declared.errors.StreamError.{StreamError}
use Rattle.amqp_stream.specs.declared.errors.StreamError.TheVariants as errors
use Rattle.amqp_stream.specs.Errors.{status_of}
use Rattle.amqp_stream.specs.Changes.{◌⇒◌}
use Rattle.amqp_stream.specs.Calls.{Call, call_of}
use Rattle.amqp_stream.specs.Ends.{Supply, Store, Takes, Gains, Rises, IsEmpty}
use Rattle.amqp_stream.specs.Causes.{IsSequence}
use Rattle.amqp_stream.specs.Transcribing.{Transcribes, TranscribesExactly}
use Rattle.amqp_stream.specs.Causes.{NeverBegan, IsValid, NoFaults}
use Rattle.amqp_stream.specs.Canonicalizing.{canon_of, Canonicalizes, AnswersExactly}
use Rattle.amqp_stream.specs.Writing.{IsPrefix}
use Rattle.amqp_select.specs.declared.rule.Rule.{Rule}
use Rattle.amqp_select.specs.Matching.{decides}
use Rattle.amqp_select.specs.Selecting.{selection}
use Rattle.amqp_in_turn.specs.declared.errors.TurnError.{TurnError}
use Rattle.amqp_in_turn.specs.declared.errors.TurnError.TheVariants as turns
use Rattle.amqp_in_turn.specs.Errors.{turn_error_status}
use Rattle.amqp_in_turn.specs.RunsInTurn.{GoesInTurn, GoesExactly, IsComplete as AreWhole}
use Rattle.amqp_recut.specs.Recutting.{recut_bytes}
use Rattle.amqp_recut.specs.Stepping.{is_content_type}
use Rattle.amqp_filter.specs.Filtering.{kept_bytes}
use Rattle.amqp_filter.specs.Stepping.{is_method_type}
use Rattle.amqp_lines.specs.Dumping.{Dumps, DumpsExactly}
use Rattle.amqp_lines.specs.Undumping.{Undumps, UndumpsExactly, IsValidText}
use Rattle.amqp_lines.specs.Errors.{undump_error_status}
use Rattle.amqp_lines.specs.declared.errors.UndumpError.{UndumpError}
use Rattle.amqp_program.specs.Texts.{longest}
use Rattle.amqp_program.specs.Reports.{max_payload, report}
use Rattle.amqp_program.specs.declared.command.Command.{Command}
use Rattle.amqp_program.specs.declared.command.Command.TheVariants as commands

-- the whole text was taken
pub record IsWhole (text : List ℕ) (b : Supply) : Type 0 where
  pub few : length text ≤ longest
  pub end : IsEmpty b.left

-- How a run over a hex text ends, by its status: what was taken is the text. More than the longest
-- text is taken with status 6 alone.
pub data HexEnds (level : Level) (text written : List ℕ)
    (a b : Supply) (k l : Store) (status : ℕ) : Type 0 where
  no_memory : status ≡ 3 → written ≡ [] → length text ≤ longest
      → HexEnds level text written a b k l status
  read_failed : status ≡ 4 → written ≡ [] → length text ≤ longest
      → Rises a.faults b.faults → HexEnds level text written a b k l status
  too_long : status ≡ 6 → written ≡ [] → longest < length text
      → HexEnds level text written a b k l status
  write_failed : status ≡ 5 → IsWhole text b → Rises k.faults l.faults
      → IsPrefix written (report level text).text → HexEnds level text written a b k l status
  reported : status ≡ (report level text).status → IsWhole text b
      → written ≡ (report level text).text → HexEnds level text written a b k l status

-- where a run ended with 0, the decoded text is a sequence of frames, and their canonical
-- bytes were written
pub record AcceptsHex (level : Level) (text written : List ℕ) (b : Supply) : Type 0 where
  pub whole : IsWhole text b
  pub bytes : List ℕ
  pub decoded : decode_of (strip_last 10 text) ≡ Ok bytes
  pub sequence : IsSequence level max_payload bytes
  pub canonical : written ≡ encode_lower (canon_of level max_payload bytes) ++ 10 ∷ []

-- a text with a report of status 0
pub record IsValidHex (level : Level) (text : List ℕ) : Type 0 where
  pub few : length text ≤ longest
  pub accepted : (report level text).status ≡ 0

-- a run ended with 0, or memory ran out
abbrev pub IsDoneOrNoMemory : ℕ → Type 0
IsDoneOrNoMemory status = (status ≡ 0) ⊎ (status ≡ 3)

-- A run of `hex` (level plain) or `tidy` (level tidy): the report on the hex text was written, or
-- the status says why not all of it was. A valid text ends with 0 where no read or write fails
-- and memory lasts.
pub record RunsHex (level : Level) (a b : Supply) (k l : Store) (status : ℕ) : Type 0 where
  pub text : List ℕ
  pub reads : ℕ
  pub takes : Takes a b text reads
  pub at_most : reads ≤ longest + 1
  pub written : List ℕ
  pub gains : Gains k l written
  pub ends : HexEnds level text written a b k l status
  pub accepts : status ≡ 0 → AcceptsHex level text written b
  pub complete : (input : List ℕ) → a.left ≡ Some input
      → IsValidHex level input → NoFaults (a ⇒ b) (k ⇒ l) → IsDoneOrNoMemory status

-- the most reads that `raw` makes
abbrev pub raw_budget : ℕ
raw_budget = 2 ^ 40

-- a call that such a run makes
abbrev pub raw_call : {S K : Type 0} → S → S → K → K → Call S K
raw_call a b k l = call_of max_payload raw_budget (a ⇒ b) (k ⇒ l)

-- where a run ended with 0, all that was taken is a sequence of frames, none is left, and their
-- canonical bytes were written
pub record AcceptsRaw (a b : Supply) (k l : Store) : Type 0 where
  pub taken : List ℕ
  pub reads : ℕ
  pub takes : Takes a b taken reads
  pub end : IsEmpty b.left
  pub sequence : IsSequence plain max_payload taken
  pub canonical : Gains k l (canon_of plain max_payload taken)

-- A run of `raw` or `lent`: the canonical bytes of the frames were written, as far as the result
-- says. Memory runs out only before anything is read or written.
pub record RunsRaw (a b : Supply) (k l : Store) (status : ℕ) : Type 0 where
  pub answer : Result (Unit {0}) StreamError
  pub status_is : status ≡ status_of answer
  pub stream : Canonicalizes plain (raw_call a b k l) answer
      ⊎ NeverBegan (a ⇒ b) (k ⇒ l) errors.NoMemory answer
  pub memory : answer ≡ Err errors.NoMemory
      → NeverBegan (a ⇒ b) (k ⇒ l) errors.NoMemory answer
  pub no_memory : status ≡ 3 → NeverBegan (a ⇒ b) (k ⇒ l) errors.NoMemory answer
  pub accepts : status ≡ 0 → AcceptsRaw a b k l
  pub exact : (input : List ℕ) → a.left ≡ Some input
      → AnswersExactly plain (raw_call a b k l) input answer
  pub complete : (input : List ℕ) → a.left ≡ Some input
      → IsValid plain max_payload raw_budget input
      → NoFaults (a ⇒ b) (k ⇒ l) → IsDoneOrNoMemory status

-- A text for the frames was written, of which none is refused.
pub record RunsText (text : List Frame → List ℕ)
    (a b : Supply) (k l : Store) (status : ℕ) : Type 0 where
  pub answer : Result (Unit {0}) StreamError
  pub status_is : status ≡ status_of answer
  pub stream : Transcribes text plain (raw_call a b k l) answer
      ⊎ NeverBegan (a ⇒ b) (k ⇒ l) errors.NoMemory answer
  pub no_memory : status ≡ 3 → NeverBegan (a ⇒ b) (k ⇒ l) errors.NoMemory answer
  pub exact : (input : List ℕ) → a.left ≡ Some input
      → TranscribesExactly text plain (raw_call a b k l) input answer
  pub complete : (input : List ℕ) → a.left ≡ Some input
      → IsValid plain max_payload raw_budget input
      → NoFaults (a ⇒ b) (k ⇒ l) → IsDoneOrNoMemory status

-- the canonical bytes of the frames that rules keep
abbrev pub RunsSelect : List Rule → Supply → Supply → Store → Store → ℕ → Type 0
RunsSelect rules a b k l status = RunsText (selection rules) a b k l status

-- the lines of the frames were written
pub record RunsDump (a b : Supply) (k l : Store) (status : ℕ) : Type 0 where
  pub answer : Result (Unit {0}) StreamError
  pub status_is : status ≡ status_of answer
  pub stream : Dumps (raw_call a b k l) answer
      ⊎ NeverBegan (a ⇒ b) (k ⇒ l) errors.NoMemory answer
  pub exact : (input : List ℕ) → a.left ≡ Some input
      → DumpsExactly (raw_call a b k l) input answer
  pub complete : (input : List ℕ) → a.left ≡ Some input
      → IsValid plain max_payload raw_budget input
      → NoFaults (a ⇒ b) (k ⇒ l) → IsDoneOrNoMemory status

-- the status of a result of undumping
abbrev pub undump_status_of : Result (Unit {0}) UndumpError → ℕ
undump_status_of (Ok done) = 0
undump_status_of (Err error) = undump_error_status error

-- the canonical bytes of the frames of lines were written
pub record RunsUndump (a b : Supply) (k l : Store) (status : ℕ) : Type 0 where
  pub answer : Result (Unit {0}) UndumpError
  pub status_is : status ≡ undump_status_of answer
  pub stream : Undumps (raw_call a b k l) answer
  pub exact : (input : List ℕ) → a.left ≡ Some input
      → UndumpsExactly (raw_call a b k l) input answer
  pub complete : (input : List ℕ) → a.left ≡ Some input
      → IsValidText max_payload raw_budget input
      → NoFaults (a ⇒ b) (k ⇒ l) → IsDoneOrNoMemory status

-- the status of a result of recutting or filtering
abbrev pub turn_status_of : Result (Unit {0}) TurnError → ℕ
turn_status_of (Ok done) = 0
turn_status_of (Err error) = turn_error_status error

-- What is to be written for frames in turn was written, as far as the result says. Memory may run
-- out at frames of the types in `wants`.
pub record RunsInTurn (text : List Frame → List ℕ) (wants : AMQPFrameType → Bool)
    (a b : Supply) (k l : Store) (status : ℕ) : Type 0 where
  pub answer : Result (Unit {0}) TurnError
  pub status_is : status ≡ turn_status_of answer
  pub stream : GoesInTurn text wants (raw_call a b k l) answer
      ⊎ NeverBegan (a ⇒ b) (k ⇒ l) (turns.Stream errors.NoMemory) answer
  pub exact : (input : List ℕ) → a.left ≡ Some input
      → GoesExactly text (raw_call a b k l) input answer
  pub complete : (input : List ℕ) → a.left ≡ Some input → IsValid plain max_payload raw_budget input
      → AreWhole max_payload input → NoFaults (a ⇒ b) (k ⇒ l) → IsDoneOrNoMemory status

-- the canonical bytes of the frames, with the bodies of messages cut into so many bytes
abbrev pub RunsRecut : ℕ → Supply → Supply → Store → Store → ℕ → Type 0
RunsRecut size a b k l status = RunsInTurn (recut_bytes size) is_content_type a b k l status

-- the canonical bytes of the messages whose openings rules keep, and of each other
-- frame that they keep
abbrev pub RunsFilter : List Rule → Supply → Supply → Store → Store → ℕ → Type 0
RunsFilter rules a b k l status =
    RunsInTurn (kept_bytes (decides rules)) is_method_type a b k l status

-- a text was printed, or a part of its front and then the sink failed
pub record Prints (text : List ℕ) (k l : Store) (status : ℕ) : Type 0 where
  pub written : List ℕ
  pub gains : Gains k l written
  pub ends : ((status ≡ 0) × (written ≡ text))
      ⊎ ((status ≡ 5) × IsPrefix written text × Rises k.faults l.faults)

-- The statuses from 23 on with which a run may end, by the words after `filter` and the command
-- that is asked for: those of content faults with `filter` and with `recut` alone.
abbrev pub MayEndWith : Option (List (List ℕ)) → Option Command → ℕ → Type 0
MayEndWith (Some rules) asked status = (status ≡ 24) ⊎ (status ≡ 25)
MayEndWith None (Some commands.Tidy) status = status ≡ 23
MayEndWith None (Some (commands.Recut n)) status = (status ≡ 24) ⊎ (status ≡ 25)
MayEndWith None (Some commands.Undump) status = status ≡ 26
MayEndWith None other status = ⊥
