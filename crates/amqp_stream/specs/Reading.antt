-- What a call of the reader does.
use Rattle.std.specs.Prelude.{◌≡◌, ◌≢◌, ℕ, ◌+◌, ◌-◌, ◌*◌, ◌≤◌, List, [], ◌++◌, length}
use Rattle.std.specs.Prelude.{drop, Option, Some, None, Result, Ok, Err, IfOk, OnErr}
use Rattle.amqp_types.specs.Judging.{Fault, unknown_frame_type, bad_protocol_header, too_large}
use Rattle.amqp_types.specs.Judging.{bad_frame_end, past, fault, took, IsBytes}
use Rattle.amqp_wire.specs.Frames.{raw_of}
use Rattle.amqp_wire.specs.HeaderScan.{scan}
use Rattle.amqp_wire.specs.Looks.{laid_out}
use Rattle.amqp_wire.specs.declared.looking.FrameLayout.{FrameLayout}
use Rattle.amqp_wire.specs.declared.raw_frame.AMQPRawFrame.{AMQPRawFrame}
use Rattle.amqp_stream.specs.declared.errors.ReadError.{ReadError}
use Rattle.amqp_stream.specs.declared.errors.ReadError.TheVariants as errors
use Rattle.amqp_stream.specs.declared.source.SourceFault.{SourceFault}
use Rattle.amqp_stream.specs.Changes.{Change}
use Rattle.amqp_stream.specs.Ends.{Supply, Takes, Rises, IsEmpty}
use Rattle.amqp_stream.specs.Errors.{read_fault}

-- a reader: the limit on payloads, and the bytes that it holds
pub record Holding : Type 0 where
  pub limit : ℕ
  pub held : List ℕ

-- one read after the bytes that are held
pub record ReadsMore (supply : Change Supply) (bytes : Change (List ℕ))
    (result : Result ℕ SourceFault) : Type 0 where
  pub piece : List ℕ
  pub are_bytes : IsBytes piece
  pub takes : Takes supply.old supply.new piece 1
  pub held : bytes.new ≡ bytes.old ++ piece
  pub ok : IfOk result (λ n. length piece ≡ n)
  pub end : IfOk result (λ n. n ≡ 0 → IsEmpty supply.new.left)
  pub err : OnErr result ((piece ≡ []) × Rises supply.old.faults supply.new.faults)

-- How a call of the reader ends over the bytes b, with what is held after it. `IsFound` is what is
-- said of a frame.
abbrev pub Ends : {X : Type 0} → (ℕ → List ℕ → List ℕ → X → Type 0) → ℕ → List ℕ
    → Change Supply → ℕ → List ℕ → Result (Option X) ReadError → Type 0
Ends IsFound m b supply budget after (Ok (Some x)) = IsFound m b after x
Ends IsFound m b supply budget after (Ok None) =
    (b ≡ []) × (after ≡ []) × IsEmpty supply.new.left
Ends IsFound m b supply budget after (Err errors.UnknownFrameType) =
    scan (Some m) b ≡ fault unknown_frame_type
Ends IsFound m b supply budget after (Err errors.BadProtocolHeader) =
    scan (Some m) b ≡ fault bad_protocol_header
Ends IsFound m b supply budget after (Err errors.TooLarge) = scan (Some m) b ≡ fault too_large
Ends IsFound m b supply budget after (Err errors.BadFrameEnd) =
    scan (Some m) b ≡ fault bad_frame_end
Ends IsFound m b supply budget after (Err errors.CutShort) =
    (scan (Some m) b ≡ past) × (b ≢ []) × IsEmpty supply.new.left
Ends IsFound m b supply budget after (Err errors.TurnsSpent) =
    (scan (Some m) b ≡ past) × (budget ≡ 0)
Ends IsFound m b supply budget after (Err errors.ReadFault) =
    (scan (Some m) b ≡ past) × Rises supply.old.faults supply.new.faults

-- how many reads of a call took nothing, by its result: one at most, the last
abbrev pub idle_reads : {X : Type 0} → Result (Option X) ReadError → ℕ
idle_reads (Ok (Some x)) = 0
idle_reads (Ok None) = 1
idle_reads (Err errors.CutShort) = 1
idle_reads (Err errors.ReadFault) = 1
idle_reads (Err error) = 0

-- a whole frame lies so at the front of the bytes
pub record Lies (m : ℕ) (bytes : List ℕ) (layout : FrameLayout) : Type 0 where
  pub found : scan (Some m) bytes ≡ took (laid_out layout bytes) layout.frame_len
  pub payload_inside : layout.payload_start + layout.payload_len ≤ layout.frame_len
  pub inside : layout.frame_len ≤ length bytes

-- what stands at the front of the bytes: a frame, a fault, or neither, so that more
-- bytes are needed
abbrev pub Finds : ℕ → List ℕ → Result (Option FrameLayout) ReadError → Type 0
Finds m bytes (Ok (Some layout)) = Lies m bytes layout
Finds m bytes (Ok None) = scan (Some m) bytes ≡ past
Finds m bytes (Err error) =
    (bad : Fault) × (read_fault error ≡ Some bad) × (scan (Some m) bytes ≡ fault bad)

-- a frame that lies in the bytes, which are all held
abbrev pub LiesIn : ℕ → List ℕ → List ℕ → FrameLayout → Type 0
LiesIn m b after layout = Lies m b layout × (after ≡ b)

-- a frame that is borrowed, and whose bytes are held no more
abbrev pub IsBorrowed : ℕ → List ℕ → List ℕ → AMQPRawFrame → Type 0
IsBorrowed m b after raw =
    (used : ℕ) × (scan (Some m) b ≡ took (raw_of raw) used) × (after ≡ drop used b)

-- What falls with each frame that a loop over `next` takes: the frame costs a read of the budget,
-- or bytes that are held.
abbrev pub reading_left : ℕ → ℕ → List ℕ → ℕ
reading_left m budget held = budget * (m + 9) + length held

-- A call of `next` (`IsFound` is `IsBorrowed`): it looks at the bytes that were held and those that
-- its reads took.
pub record HasNext {X : Type 0} (IsFound : ℕ → List ℕ → List ℕ → X → Type 0)
    (supply : Change Supply) (budget : Change ℕ) (reader : Change Holding)
    (result : Result (Option X) ReadError) : Type 0 where
  pub limit : reader.new.limit ≡ reader.old.limit
  pub taken : List ℕ
  pub bytes : List ℕ
  pub all : bytes ≡ reader.old.held ++ taken
  pub are_bytes : IsBytes bytes
  pub room : length bytes ≤ reader.old.limit + 8
  pub ends : Ends IsFound reader.old.limit bytes supply budget.new reader.new.held result
  -- after an error all of them are held
  pub kept : OnErr result (reader.new.held ≡ bytes)
  -- each read takes one of the read budget, and all but the last take bytes
  pub takes : Takes supply.old supply.new taken (budget.old - budget.new)
  pub budget_falls : budget.new ≤ budget.old
  pub unread : budget.new ≡ budget.old → taken ≡ []
  pub idle : budget.old ≤ budget.new + length taken + idle_reads result
  -- where a frame or a fault was held, none is made
  pub decided : scan (Some reader.old.limit) reader.old.held ≢ past → budget.new ≡ budget.old
