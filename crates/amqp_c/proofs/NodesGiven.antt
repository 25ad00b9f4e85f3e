-- What is reported of fields is what was read of them.
use Rattle.std.proofs.Common.{◌≡◌, ℕ, ◌<◌, ◌≤◌, nat_lt, Bool, List, length, Some, Result, Ok, Err, refl, arith}
use Rattle.std.specs.Prelude.{IsOk, IfOk, IfErr}
use Rattle.std.proofs.lemmas.Bool.{le-ltb, lt-ltb}
use Rattle.amqp_types.specs.Levels.{tidy}
use Rattle.amqp_types.specs.Judging.{Fault}
use Rattle.amqp_types.specs.Answers.{RefusesWhole}
use Rattle.amqp_types.specs.declared.errors.ParserError.{ParserError}
use Rattle.amqp_wire.specs.declared.frame_type.AMQPFrameType.{AMQPFrameType}
use Rattle.amqp_wire.specs.declared.outline.FrameOutline.{FrameOutline}
use Rattle.amqp_wire.specs.Frames.{Frame, raw_as}
use Rattle.amqp_wire.specs.Judgements.{IsPayloadFault}
use Rattle.amqp_wire.specs.HeaderScan.{type_of}
use Rattle.amqp_wire.specs.Outlines.{outline_of}
use Rattle.amqp_wire.specs.Verdicts.{decode_raw}
use Rattle.amqp_stream.specs.Errors.{stream_error_status}
use Rattle.amqp_stream.specs.Writing.{payload_fault}
use Rattle.amqp_fields.specs.declared.node.Node.{Node}
use Rattle.amqp_fields.specs.declared.reading.FieldsRead.{FieldsRead}
use Rattle.amqp_canonical.specs.Judgements.{MayRefuse}
use Rattle.amqp_canonical.specs.Writes.{IsFilled}
use Rattle.amqp_fields.specs.declared.reading.FieldsError.{FieldsError}
use Rattle.amqp_fields.specs.declared.reading.FieldsError.TheVariants as fields_errors
use Rattle.amqp_fields.specs.Contents.{RefusesContent, entries_in, values_in}
use Rattle.amqp_fields.specs.Listed.{entries_nodes, values_nodes}
use Rattle.amqp_fields.specs.Reading.{IsWhole, NeedsMore, SaysLevels, StandInFront, fields_nodes}
use Rattle.amqp_c.specs.declared.fields.PayloadFields.{PayloadFields}
use Rattle.amqp_c.specs.Checks.{raw_after, summed}
use Rattle.amqp_c.specs.Fields.{GivesNodes, OpensEntries, OpensFilled, OpensIf, OpensValues, counted, fields_with, reported, ReadsFrame, ReadsRaw, ReadsWhole}
use Rattle.amqp_c.specs.Statuses.{buffer_too_small, decoding_error}
use Rattle.amqp_c.proofs.Summaries.{raw-known}

-- a list with room for these nodes, and one without
module _ {nodes : List Node} {most : ℕ} {given : ℕ → PayloadFields} {list : List Node} {count : ℕ} {result : PayloadFields} (few : length nodes ≤ most) where
  in_room : StandInFront nodes list count → result ≡ given count → GivesNodes nodes most given list result
  in_room front is = record {
    few = few;
    result_is = rw (le-ltb (length list) (length nodes) (omega (arith, front.fit, front.count_is)), ← front.count_is) is;
    in_front = λ room. rw (← front.count_is) front.front;
  }

  beyond : (old : List Node) → length list ≡ length old → NeedsMore nodes (length old) count
      → result ≡ counted buffer_too_small count → GivesNodes nodes most given list result
  beyond old same more is = grind (arith, lt-ltb)

-- ---- a whole payload

module _ (kind : AMQPFrameType) (payload : List ℕ) (deep : Bool) (list : List Node) (result : PayloadFields) where
  -- its nodes, where it is decoded
  of_whole : (read : Result Frame Fault) → IsOk read
      → ((frame : Frame) → read ≡ Ok frame → ReadsFrame deep (raw_as kind 0 payload) (Ok frame) list result)
      → ReadsFrame deep (raw_as kind 0 payload) read list result
  of_whole (Ok frame) h gives = gives frame refl
  of_whole (Err bad) h gives = absurd cc

  -- What is reported of a payload that was read is its levels, the sizes in its outline, and how many nodes were given.
  pub nodes_given : (found : FieldsRead) (outline : FrameOutline)
      → IsWhole kind payload → StandInFront (fields_nodes kind deep payload) list found.count → SaysLevels kind payload found
      → ((frame : Frame) → decode_raw (raw_as kind 0 payload) ≡ Ok frame → outline ≡ outline_of frame)
      → (IsWhole kind payload → length (fields_nodes kind deep payload) ≤ length payload)
      → result ≡ fields_with (summed found.canonical found.tidy outline) found.count → ReadsWhole deep (raw_as kind 0 payload) list result
  nodes_given found outline valid front levels outlined few is =
      of_whole (decode_raw (raw_as kind 0 payload)) valid
      (λ frame whole. in_room (few valid) front (let same = outlined frame whole in let c = levels.0 in let t = levels.1 in cc))

  -- Where there are more nodes than the list holds, how many there are is reported, with the status of a short list.
  pub nodes_wanted : (old : List Node) (count : ℕ)
      → length list ≡ length old → IsWhole kind payload × NeedsMore (fields_nodes kind deep payload) (length old) count
      → (IsWhole kind payload → length (fields_nodes kind deep payload) ≤ length payload)
      → result ≡ counted buffer_too_small count → ReadsWhole deep (raw_as kind 0 payload) list result
  nodes_wanted old count same more few is =
      of_whole (decode_raw (raw_as kind 0 payload)) more.0 (λ frame whole. beyond (few more.0) old same more.1 is)

  refused_by : (error : ParserError) (read : Result Frame Fault) → IsPayloadFault error
      → RefusesWhole error read → ReadsFrame deep (raw_as kind 0 payload) read list (counted (stream_error_status (payload_fault error)) 0)
  refused_by error read fault h = grind arith

  -- Where a payload is refused, its status is reported, and no nodes.
  pub payload_refused : (error : ParserError) (status : ℕ) → IsPayloadFault error → RefusesWhole error (decode_raw (raw_as kind 0 payload))
      → status ≡ stream_error_status (payload_fault error) → result ≡ counted status 0 → ReadsWhole deep (raw_as kind 0 payload) list result
  payload_refused error status fault h same is = grind (arith, refused_by)

  -- the same after the byte that names the type
  pub raw_found : (byte : ℕ) → type_of byte ≡ Some kind → length payload ≤ 4294967295
      → ReadsWhole deep (raw_as kind 0 payload) list result → ReadsRaw deep (raw_after byte 0 payload) list result
  raw_found byte e few h = grind (arith, raw-known)

-- ---- contents that stand alone

of_filled : {A : Type 0} {nodes : List Node} {most : ℕ} {list : List Node} {result : PayloadFields} (read : Result (List A) Fault)
    → IsFilled read → GivesNodes nodes most (counted 0) list result → OpensFilled nodes most read list result
of_filled read h gives = grind arith

module _ {A : Type 0} (nodes : List Node) (most : ℕ) (list : List Node) where
  refused_filled : (error : ParserError) (read : Result (List A) Fault) → MayRefuse error → RefusesWhole error read
      → OpensFilled nodes most read list (counted (stream_error_status (decoding_error error)) 0)
  refused_filled error read may h = grind arith

-- what is reported of a content that is no longer than four bytes can say
abbrev ReportsContent : {A : Type 0} → Result (List A) Fault → List Node → List ℕ → List Node → PayloadFields → Type 0
ReportsContent read nodes content list result =
    (old : List Node) (found : Result ℕ FieldsError) → length content ≤ 4294967295
    → length list ≡ length old → IfOk found (λ count. IsFilled read) → IfOk found (StandInFront nodes list)
    → IfErr found (RefusesContent read nodes (length old)) → (IsFilled read → length nodes ≤ length content) → result ≡ reported found
    → OpensIf (nat_lt 4294967295 (length content)) nodes (length content) read list result

module _ {A : Type 0} (read : Result (List A) Fault) (nodes : List Node) (content : List ℕ) (list : List Node) where
  items_reported : (old : List Node) (found : Result ℕ FieldsError) → length list ≡ length old → IfOk found (λ count. IsFilled read)
      → IfOk found (StandInFront nodes list) → IfErr found (RefusesContent read nodes (length old)) → (IsFilled read → length nodes ≤ length content)
      → OpensFilled nodes (length content) read list (reported found)
  items_reported old (Ok count) same fills listed refused few = of_filled read fills (in_room (few fills) listed refl)
  items_reported old (Err (fields_errors.Payload error)) same fills listed refused few =
      refused_filled nodes (length content) list error read refused.0 refused.1
  items_reported old (Err (fields_errors.TooFew needed)) same fills listed refused few =
      of_filled read refused.0 (beyond (few refused.0) old same refused.1 refl)

  content_reported : (result : PayloadFields) → ReportsContent read nodes content list result
  content_reported result old found short same fills listed refused few is = grind (arith, le-ltb, items_reported)

  -- a longer one is refused as too large, before it is read
  content_too_large : (result : PayloadFields) → 4294967295 < length content → result ≡ counted 12 0
      → OpensIf (nat_lt 4294967295 (length content)) nodes (length content) read list result
  content_too_large result many is = rw (lt-ltb 4294967295 (length content) many) is

module _ (content : List ℕ) (list : List Node) (result : PayloadFields) where
  -- What is reported of the entries of a table is their nodes, the count of more than the list holds, or the fault of the content.
  pub entries_reported : ReportsContent (entries_in content) (entries_nodes content) content list result
  entries_reported = content_reported (entries_in content) (entries_nodes content) content list result

  -- Content of more than four bytes can count is refused as too large, before it is read.
  pub entries_too_large : 4294967295 < length content → result ≡ counted 12 0 → OpensEntries content list result
  entries_too_large = content_too_large (entries_in content) (entries_nodes content) content list result

  -- The same of the values of an array.
  pub values_reported : ReportsContent (values_in content) (values_nodes content) content list result
  values_reported = content_reported (values_in content) (values_nodes content) content list result

  pub values_too_large : 4294967295 < length content → result ≡ counted 12 0 → OpensValues content list result
  values_too_large = content_too_large (values_in content) (values_nodes content) content list result
