-- What is reported of frames and contents that are written, and what stands in the buffer then.
use Rattle.std.specs.Prelude.{◌≡◌, ◌<◌, ◌≤◌, ℕ, List, length, nat_lt, if◌then◌else◌}
use Rattle.std.specs.Prelude.{Option, Some, None, Result, Ok, Err}
use Rattle.amqp_types.specs.Judging.{too_large}
use Rattle.amqp_types.specs.Levels.{plain}
use Rattle.amqp_types.specs.Writing.{written}
use Rattle.amqp_wire.specs.Frames.{Frame}
use Rattle.amqp_wire.specs.Spelling.{SpellsFrames}
use Rattle.amqp_types.specs.declared.tag.FieldTag.{FieldTag}
use Rattle.amqp_types.specs.declared.tag.FieldTag.TheVariants as tag
use Rattle.amqp_stream.specs.Errors.{stream_error_status}
use Rattle.amqp_fields.specs.declared.head.Head.{Head}
use Rattle.amqp_fields.specs.declared.node.Node.{Node}
use Rattle.amqp_fields_write.specs.declared.refusals.WriteError.{WriteError}
use Rattle.amqp_fields_write.specs.declared.refusals.WriteError.TheVariants as failures
use Rattle.amqp_fields_write.specs.declared.refusals.WriteRefusal.{WriteRefusal}
use Rattle.amqp_fields_write.specs.declared.refusals.WriteRefusal.TheVariants as whys
use Rattle.amqp_fields_write.specs.Makes.{cut_long}
use Rattle.amqp_fields_write.specs.Making.{EncodesEntries, EncodesUnless}
use Rattle.amqp_fields_write.specs.Making.{EncodesValues, RefusesFirst}
use Rattle.amqp_fields_write.specs.Making.{made_entries, made_values}
use Rattle.amqp_fields.specs.Nodes.{cut}
use Rattle.amqp_c.specs.declared.writing.Written.{Written}
use Rattle.amqp_c.specs.Scans.{fault_status}
use Rattle.amqp_c.specs.Statuses.{bad_argument, buffer_too_small, decoding_error, too_long}

-- so many bytes were written
abbrev pub all_written : ℕ → Written
all_written count = record { length = count; head = 0; node = 0; status = 0; unused = 0 }

-- the buffer needs so many bytes
abbrev pub too_small : ℕ → Written
too_small needed =
    record { length = needed; head = 0; node = 0; status = buffer_too_small; unused = 0 }

-- the status of a refusal
abbrev pub refusal_status : WriteRefusal → ℕ
refusal_status whys.BadArgument = bad_argument
refusal_status (whys.Payload error) = stream_error_status (decoding_error error)
refusal_status whys.TooLong = too_long
refusal_status whys.TooLarge = fault_status too_large

-- the number that no node has: a head itself is refused, or a content as a whole
abbrev pub no_node : ℕ
no_node = 4294967295

-- which one of all nodes, as 4 bytes say it, or the number in front of that of no node
abbrev pub node_number : Option ℕ → ℕ
node_number None = no_node
node_number (Some node) = if nat_lt node 4294967294 then node else 4294967294

-- a head is refused, or one of the nodes; 4 bytes say which
abbrev pub refused_at : ℕ → Option ℕ → ℕ → Written
refused_at head node status =
    record { length = 0; head = cut head; node = node_number node; status = status; unused = 0 }

-- nothing was written
abbrev pub not_written : WriteError → Written
not_written (failures.Refused head node why) = refused_at head node (refusal_status why)
not_written (failures.TooSmall needed) = too_small needed

-- as it is reported
abbrev pub report_of : Result ℕ WriteError → Written
report_of (Ok count) = all_written count
report_of (Err error) = not_written error

-- These bytes were made. Where the buffer has room for them they stand at its front, and what comes
-- after them is as it was; else all of it is.
pub record PutsMade (bytes old new : List ℕ) (report : Written) : Type 0 where
  pub fits : length bytes ≤ length old
      → (new ≡ written old 0 bytes) × (report ≡ all_written (length bytes))
  pub too_short : length old < length bytes
      → (new ≡ old) × (report ≡ too_small (cut_long (length bytes)))

-- what was made is written; where something is refused the buffer is as it was
abbrev pub Reports : Result (List ℕ) WriteError → List ℕ → List ℕ → Written → Type 0
Reports (Ok bytes) old new report = PutsMade bytes old new report
Reports (Err error) old new report = (new ≡ old) × (report ≡ not_written error)

-- what fills an array or a table, by its tag; a byte that is neither is refused
abbrev pub content_made : Option FieldTag → List ℕ → List Node → Result (List ℕ) WriteError
content_made (Some tag.FieldArray) pool nodes = made_values pool nodes
content_made (Some tag.FieldTable) pool nodes = made_entries pool nodes
content_made other pool nodes = Err (failures.Refused 0 None whys.BadArgument)

-- What fills an array or a table, by its tag, is encoded at the front: the values or the entries
-- that nodes mean.
abbrev pub EncodesContent : Option FieldTag
    → List ℕ → List Node → List ℕ → List ℕ → ℕ → Type 0
EncodesContent (Some tag.FieldArray) pool nodes old new count =
    EncodesValues pool nodes old new count
EncodesContent (Some tag.FieldTable) pool nodes old new count =
    EncodesEntries pool nodes old new count
EncodesContent other pool nodes old new count = ⊥

-- Frames that are meant are encoded at the front, or the buffer is too small, or the first head is
-- refused that has too long a payload, or a node that holds too many bytes.
pub record ReportsMeant (pool : List ℕ) (nodes : List Node) (m : ℕ) (heads : List Head)
    (frames : List Frame) (new : List ℕ) (report : Written) : Type 0 where
  pub written : Result ℕ WriteError
  pub report_is : report ≡ report_of written
  pub encoded : EncodesUnless (RefusesFirst plain pool nodes m 0 heads frames)
      (SpellsFrames plain (Some m)) frames new written
