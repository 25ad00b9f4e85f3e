-- Sources and sinks in memory, and a sink that counts. Some follow a script: which calls fail, and
-- how many bytes each call takes at most.
use Rattle.std.specs.Prelude.{ℕ, ◌-◌, min, max, List, length, nat_lt}
use Rattle.std.specs.Prelude.{if◌then◌else◌, slice_index, take, Option, Some, None}
use Rattle.amqp_stream.specs.Ends.{Supply, Store, Reported, Nothing, Number, Bytes}

-- at most so many bytes: as the script has it for the call, one at least, and after its
-- end as many as fit
abbrev pub most_of : List ℕ → ℕ → ℕ → ℕ
most_of pieces call fit =
    if nat_lt call (length pieces) then min fit (max 1 (slice_index pieces call)) else fit

-- a source that reports the bytes that are left, counts no reads and never fails
abbrev pub faultless : List ℕ → Supply
faultless left = record { left = Some left; reads = None; faults = 0 }

-- a source that follows a script; its calls are counted from 0
pub record ScriptedSource : Type 0 where
  pub left : List ℕ
  pub pieces : List ℕ
  pub failing : List ℕ
  pub reads : ℕ
  pub faults : ℕ

-- what such a source reports
abbrev pub supply_of : ScriptedSource → Supply
supply_of s = record { left = Some s.left; reads = Some s.reads; faults = s.faults }

-- a sink that keeps what it takes
pub record KeptBytes : Type 0 where
  pub bytes : List ℕ
  pub faults : ℕ

-- what such a sink reports
abbrev pub store_of : KeptBytes → Store
store_of s = record { taken = Bytes s.bytes; faults = s.faults }

-- a sink that follows a script; its calls are counted from 0
pub record ScriptedSink : Type 0 where
  pub kept : KeptBytes
  pub pieces : List ℕ
  pub failing : List ℕ
  pub writes : ℕ

-- a sink that counts what it takes
pub record Counted : Type 0 where
  pub total : ℕ
  pub faults : ℕ

-- what such a sink reports
abbrev pub count_of : Counted → Store
count_of s = record { taken = Number s.total; faults = s.faults }

-- a reader of the system, and how many of its reads failed
pub record CountedReads (R : Type 0) : Type 0 where
  pub reader : R
  pub faults : ℕ

-- What a source over a reader reports: the bytes that the reader has left, where it reports them,
-- and the failed reads.
abbrev pub supply_over : Option (List ℕ) → ℕ → Supply
supply_over left faults = record { left = left; reads = None; faults = faults }

-- A writer of the system, how many of the last bytes that it took are not known to be flushed, and
-- how many writes failed.
pub record CountedWrites (W : Type 0) : Type 0 where
  pub writer : W
  pub unflushed : ℕ
  pub faults : ℕ

-- the bytes that a writer has, where it reports them, without so many of the last
abbrev pub without_last : ℕ → Option (List ℕ) → Reported
without_last unflushed None = Nothing
without_last unflushed (Some bytes) = Bytes (take (length bytes - unflushed) bytes)

-- What a sink over a writer reports: what the writer has, without the bytes that are not known to
-- be flushed, and the failed writes.
abbrev pub store_over : Option (List ℕ) → ℕ → ℕ → Store
store_over contents unflushed faults =
    record { taken = without_last unflushed contents; faults = faults }
