-- What is reported of the fields of a whole payload, or of contents that stand alone.
use Rattle.std.specs.Prelude.{◌≡◌, ◌==◌, ◌≤◌, ℕ, nat_lt, Bool, true, false, if◌then◌else◌, List}
use Rattle.std.specs.Prelude.{length, take, Option, Some, None, Result, Ok, Err}
use Rattle.amqp_types.specs.Levels.{tidy, strict}
use Rattle.amqp_types.specs.Judging.{Fault, too_large}
use Rattle.amqp_types.specs.declared.tag.FieldTag.{FieldTag}
use Rattle.amqp_types.specs.declared.tag.FieldTag.TheVariants as tag
use Rattle.amqp_wire.specs.Frames.{Frame, Raw}
use Rattle.amqp_wire.specs.Outlines.{outline_of}
use Rattle.amqp_wire.specs.Verdicts.{is_at, decode_raw}
use Rattle.amqp_fields.specs.declared.node.Node.{Node}
use Rattle.amqp_stream.specs.Errors.{stream_error_status}
use Rattle.amqp_fields.specs.declared.reading.FieldsError.{FieldsError}
use Rattle.amqp_fields.specs.declared.reading.FieldsError.TheVariants as errors
use Rattle.amqp_fields.specs.Contents.{entries_in, values_in}
use Rattle.amqp_fields.specs.Listed.{entries_nodes, payload_nodes, values_nodes}
use Rattle.amqp_c.specs.declared.check.PayloadSummary.{PayloadSummary}
use Rattle.amqp_c.specs.declared.fields.PayloadFields.{PayloadFields}
use Rattle.amqp_c.specs.Checks.{raw_after, summed}
use Rattle.amqp_c.specs.Scans.{fault_status}
use Rattle.amqp_c.specs.Statuses.{bad_argument, buffer_too_small, decoding_error}

-- a status, and a number of nodes
abbrev pub counted : ℕ → ℕ → PayloadFields
counted status count = record {
  body_size = 0;
  nodes = count;
  class_id = 0;
  method_id = 0;
  canonical = false;
  tidy = false;
  status = status;
  unused = 0;
}

-- what stands in a payload, and how many nodes its fields have
abbrev pub fields_with : PayloadSummary → ℕ → PayloadFields
fields_with summary count = record {
  body_size = summary.body_size;
  nodes = count;
  class_id = summary.class_id;
  method_id = summary.method_id;
  canonical = summary.canonical;
  tidy = summary.tidy;
  status = summary.status;
  unused = 0;
}

-- 0 asks for fields alone, 1 for all that lies inside them too
abbrev pub deep_at : ℕ → Option Bool
deep_at detail = if detail == 0 then Some false else (if detail == 1 then Some true else None)

-- So many nodes there are, at most this many. Where the list has room for all, they stand in front
-- of it, and what is given is reported; and else how many the list needs.
pub record GivesNodes (nodes : List Node) (most : ℕ) (given : ℕ → PayloadFields)
    (list : List Node) (result : PayloadFields) : Type 0 where
  pub few : length nodes ≤ most
  pub result_is : result
      ≡ (if nat_lt (length list) (length nodes) then counted buffer_too_small (length nodes)
      else given (length nodes))
  pub in_front : length nodes ≤ length list → take (length nodes) list ≡ nodes

-- the nodes of a frame, at most as many as its payload has bytes, or the fault of its payload
abbrev pub ReadsFrame : Bool → Raw → Result Frame Fault → List Node → PayloadFields → Type 0
ReadsFrame deep raw (Ok frame) list result =
    GivesNodes (payload_nodes raw.kind deep (length raw.payload) raw.payload) (length raw.payload)
    (fields_with (summed (is_at strict raw) (is_at tidy raw) (outline_of frame))) list result
ReadsFrame deep raw (Err bad) list result = result ≡ counted (fault_status bad) 0

-- the fields of a whole payload
abbrev pub ReadsWhole : Bool → Raw → List Node → PayloadFields → Type 0
ReadsWhole deep raw list result = ReadsFrame deep raw (decode_raw raw) list result

-- the same of a payload after a type byte; a fault of that byte, or of the payload's
-- length, comes next
abbrev pub ReadsRaw : Bool → Result Raw Fault → List Node → PayloadFields → Type 0
ReadsRaw deep (Ok raw) list result = ReadsWhole deep raw list result
ReadsRaw deep (Err bad) list result = result ≡ counted (fault_status bad) 0

-- the same with what is asked for; a number that asks for nothing comes first
abbrev pub ReadsAfter : ℕ → List ℕ → Option Bool → List Node → PayloadFields → Type 0
ReadsAfter byte payload (Some deep) list result =
    ReadsRaw deep (raw_after byte 0 payload) list result
ReadsAfter byte payload None list result = result ≡ counted bad_argument 0

-- ---- contents that stand alone

-- the nodes of what fills some content, at most this many, or its fault
abbrev pub OpensFilled : {A : Type 0} → List Node → ℕ
    → Result (List A) Fault → List Node → PayloadFields → Type 0
OpensFilled nodes most (Ok things) list result = GivesNodes nodes most (counted 0) list result
OpensFilled nodes most (Err bad) list result = result ≡ counted (fault_status bad) 0

-- the same of a content that may be longer than four bytes can say
abbrev pub OpensIf : {A : Type 0} → Bool → List Node → ℕ
    → Result (List A) Fault → List Node → PayloadFields → Type 0
OpensIf true nodes most read list result = result ≡ counted (fault_status too_large) 0
OpensIf false nodes most read list result = OpensFilled nodes most read list result

-- the nodes of the entries of a table, at most one a byte, or the fault of what stands in it
abbrev pub OpensEntries : List ℕ → List Node → PayloadFields → Type 0
OpensEntries content list result =
    OpensIf (nat_lt 4294967295 (length content)) (entries_nodes content) (length content)
    (entries_in content) list result

-- the same of the values of an array
abbrev pub OpensValues : List ℕ → List Node → PayloadFields → Type 0
OpensValues content list result =
    OpensIf (nat_lt 4294967295 (length content)) (values_nodes content) (length content)
    (values_in content) list result

-- the content of an array or a table, by its tag; a byte that is neither comes first
abbrev pub Opens : Option FieldTag → List ℕ → List Node → PayloadFields → Type 0
Opens (Some tag.FieldArray) content list result = OpensValues content list result
Opens (Some tag.FieldTable) content list result = OpensEntries content list result
Opens other content list result = result ≡ counted bad_argument 0

-- what is reported of a content: how many nodes are given, how many the list needs, or its fault
abbrev pub reported : Result ℕ FieldsError → PayloadFields
reported (Ok count) = counted 0 count
reported (Err (errors.Payload error)) = counted (stream_error_status (decoding_error error)) 0
reported (Err (errors.TooFew needed)) = counted buffer_too_small needed
