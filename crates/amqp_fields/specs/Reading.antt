-- What reading the fields of a whole payload returns.
use Rattle.std.specs.Prelude.{◌≡◌, ◌<◌, ◌≤◌, ℕ, Bool, List, length, take, IsOk}
use Rattle.amqp_types.specs.Levels.{tidy, strict}
use Rattle.amqp_types.specs.Answers.{RefusesWhole}
use Rattle.amqp_wire.specs.declared.frame_type.AMQPFrameType.{AMQPFrameType}
use Rattle.amqp_wire.specs.Frames.{Raw, raw_as}
use Rattle.amqp_wire.specs.Judgements.{IsPayloadFault}
use Rattle.amqp_wire.specs.Verdicts.{is_at, decode_raw}
use Rattle.amqp_fields.specs.declared.node.Node.{Node}
use Rattle.amqp_fields.specs.declared.reading.FieldsRead.{FieldsRead}
use Rattle.amqp_fields.specs.declared.reading.FieldsError.{FieldsError}
use Rattle.amqp_fields.specs.declared.reading.FieldsError.TheVariants as errors
use Rattle.amqp_fields.specs.Listed.{payload_nodes}

-- a payload of a type; its channel says nothing of its fields
abbrev pub payload_as : AMQPFrameType → List ℕ → Raw
payload_as kind payload = raw_as kind 0 payload

-- the payload encodes a frame
abbrev pub IsWhole : AMQPFrameType → List ℕ → Type 0
IsWhole kind payload = IsOk (decode_raw (payload_as kind payload))

-- the nodes of a payload that stands alone
abbrev pub fields_nodes : AMQPFrameType → Bool → List ℕ → List Node
fields_nodes kind deep payload = payload_nodes kind deep (length payload) payload

-- exactly these nodes stand in front of the list, and so many they are
pub record StandInFront (nodes list : List Node) (count : ℕ) : Type 0 where
  pub count_is : count ≡ length nodes
  pub fit : count ≤ length list
  pub front : take count list ≡ nodes

-- it is said exactly at which levels the payload encodes its frame
abbrev pub SaysLevels : AMQPFrameType → List ℕ → FieldsRead → Type 0
SaysLevels kind payload found =
    (found.canonical ≡ is_at strict (payload_as kind payload))
    × (found.tidy ≡ is_at tidy (payload_as kind payload))

-- there are so many nodes: more than the list holds
pub record NeedsMore (nodes : List Node) (room needed : ℕ) : Type 0 where
  pub needed_is : needed ≡ length nodes
  pub more : room < needed

-- the fault of a payload, or a list that is too short for the nodes of its frame
abbrev pub RefusesFields : AMQPFrameType → List ℕ → Bool → ℕ → FieldsError → Type 0
RefusesFields kind payload deep room (errors.Payload error) =
    IsPayloadFault error × RefusesWhole error (decode_raw (payload_as kind payload))
RefusesFields kind payload deep room (errors.TooFew needed) =
    IsWhole kind payload × NeedsMore (fields_nodes kind deep payload) room needed
