-- What a call that makes a frame of any kind returns, and what it leaves in the slice.
use Rattle.std.specs.Prelude.{ℕ, nat_lt, List, length, if◌then◌else◌, Option, Some, None, Result}
use Rattle.amqp_wire.specs.Canonical.{canon, payload_of}
use Rattle.amqp_wire.specs.Frames.{Frame}
use Rattle.amqp_entries.specs.Flaws.{first_of}
use Rattle.amqp_put.specs.Made.{size_flaw, MakesBytes}
use Rattle.amqp_entries.specs.declared.errors.PutError.{PutError}
use Rattle.amqp_entries.specs.declared.errors.PutError.TheVariants as errors

-- The canonical bytes of a frame with a payload, whose parts have this flaw.
abbrev pub MakesFrame : List ℕ → List ℕ → ℕ → Frame → Option PutError → Result ℕ PutError → Type 0
MakesFrame old new max frame flaw result =
    MakesBytes old new (first_of flaw (size_flaw (length (payload_of frame)) max (length old)))
    (canon frame) result

-- why 8 bytes are not written
abbrev pub room_flaw : ℕ → Option PutError
room_flaw room = if nat_lt room 8 then Some (errors.BufferTooSmall 8) else None

-- The 8 canonical bytes of a heartbeat or a protocol header.
abbrev pub MakesEight : List ℕ → List ℕ → Frame → Result ℕ PutError → Type 0
MakesEight old new frame result = MakesBytes old new (room_flaw (length old)) (canon frame) result
