-- The spans of nodes lie in the bytes of their frame, and those of what lies inside a table or an array in its own.
use Rattle.std.proofs.Common.{replicate, length-append, length-drop, take_all, ◌≡◌, ℕ, ◌+◌, Bool, List, ◌++◌, length, take, drop, Option, Some, None}
use Rattle.std.proofs.Common.{refl, sym, ap, subst, ◌∙◌, arith}
use Rattle.std.proofs.Math.Seq.{drop-append_seam}
use Rattle.amqp_fields.proofs.Names.{length-replicate, bind_took, value_took, Judged, fault, past, took, bytes2, judge_number, slots_at, AMQPFrameType, Node}
use Rattle.amqp_fields.proofs.Names.{entries_nodes, listed_header, listed_known, listed_method, listed_payload, nodes_of, payload_nodes, values_nodes}
use Rattle.amqp_fields.proofs.Names.{listed_properties, version_slots, LieIn}
use Rattle.amqp_types.specs.Slots.{Slot}
use Rattle.amqp_wire.specs.declared.frame_type.AMQPFrameType.TheVariants as kinds
use Rattle.amqp_wire.specs.Looks.{payload_place}
use Rattle.amqp_fields.specs.declared.head.Head.{Head}
use Rattle.amqp_fields.specs.Heads.{SaysFrame}
use Rattle.amqp_fields.specs.Reading.{fields_nodes}
use Rattle.amqp_fields.proofs.Answering.{span_stands}
use Rattle.amqp_fields.proofs.ContentsFound.{content_lies, entries_all, values_all}
use Rattle.amqp_fields.proofs.FieldsFound.{slots_found}
use Rattle.amqp_fields.proofs.Groups.{IsAt, at_drop}
use Rattle.amqp_fields.proofs.Lying.{none_lie}
use Rattle.amqp_fields.proofs.PayloadsFound.{few_fields, properties_found}
use Rattle.amqp_fields.proofs.Spans.{number_took}

module _ (deep : Bool) (bytes : List ℕ) (from to : ℕ) where
  known_lies : (class id : ℕ) (slots : Option (List Slot)) (payload : List ℕ) (nodes : List Node) (n : ℕ) → slots_at class id ≡ slots
      → IsAt bytes from to payload → listed_known deep to slots payload ≡ took nodes n → LieIn from to nodes
  known_lies class id None payload nodes n is at h = absurd cc
  known_lies class id (Some slots) payload nodes n is at h =
      ((slots_found deep bytes from to slots payload 0 (let few = few_fields class id slots is in omega arith) at).lies nodes n h).0

  payload_lies : (kind : AMQPFrameType) (payload : List ℕ) (nodes : List Node) (n : ℕ) → IsAt bytes from to payload
      → listed_payload kind deep to payload ≡ took nodes n → LieIn from to nodes
  unfolding listed_payload listed_method listed_header listed_properties
  payload_lies kinds.ProtocolHeader payload nodes n at h = ((slots_found deep bytes from to version_slots payload 0 (omega arith) at).lies nodes n h).0
  payload_lies kinds.Method payload nodes n at h =
      let class = bind_took (judge_number bytes2 payload) _ _ _ h in
      let behind = drop class.1 payload in
      let id = bind_took (judge_number bytes2 behind) _ _ _ class.3 in
      let inner = at_drop payload class.1 at (number_took bytes2 payload _ _ class.2).1 in
      known_lies class.0 id.0 (slots_at class.0 id.0) (drop id.1 behind) nodes n refl
      (at_drop behind id.1 inner (number_took bytes2 behind _ _ id.2).1) id.3
  payload_lies kinds.Header payload nodes n at h =
      let mask = bind_took (judge_number bytes2 (drop 12 payload)) _ _ _ h in
      let two = number_took bytes2 (drop 12 payload) _ _ mask.2 in
      ((properties_found deep bytes from to (drop 12 payload) (at_drop payload 12 at (omega (arith, length-drop 12 payload)))).lies nodes n h).0
  payload_lies kinds.Body payload nodes n at h = subst (LieIn from to) (value_took _ _ _ _ h) none_lie
  payload_lies kinds.Heartbeat payload nodes n at h = subst (LieIn from to) (value_took _ _ _ _ h) none_lie

-- ---- what is given to a caller

-- the nodes of a payload lie where it stands
pub payload_lie : (kind : AMQPFrameType) (deep : Bool) (start : ℕ) (payload : List ℕ)
    → LieIn start (start + length payload) (payload_nodes kind deep (start + length payload) payload)
payload_lie kind deep start payload = by_listed (listed_payload kind deep (start + length payload) payload) refl
  where
    front : List ℕ
    front = replicate start 0

    stands : IsAt (front ++ payload) start (start + length payload) payload
    stands = record {
      stands =
          span_stands (front ++ payload) payload start (record {
            within = omega (arith, length-append front payload, length-replicate {A = ℕ} start 0);
            bytes_are =
                ap (λ n. take (length payload) (drop n (front ++ payload))) (sym (length-replicate {A = ℕ} start 0))
                ∙ ap (take (length payload)) (drop-append_seam front payload) ∙ take_all (length payload) payload (omega arith);
          });
      room = omega arith;
    }

    by_listed : (j : Judged (List Node)) → listed_payload kind deep (start + length payload) payload ≡ j
        → LieIn start (start + length payload) (nodes_of j)
    by_listed past is = none_lie
    by_listed (fault bad) is = none_lie
    by_listed (took nodes n) is = payload_lies deep (front ++ payload) start (start + length payload) kind payload nodes n stands is

-- those of a payload that stands alone
pub fields_lie : (kind : AMQPFrameType) (deep : Bool) (payload : List ℕ) → LieIn 0 (length payload) (fields_nodes kind deep payload)
fields_lie kind deep payload =
    subst (λ n. LieIn 0 n (payload_nodes kind deep n payload)) {x = 0 + length payload} {y = length payload} (omega arith) (payload_lie kind deep 0 payload)

-- the nodes of a head lie in its payload
pub head_lies : (m : ℕ) (deep : Bool) (bytes : List ℕ) (at first size : ℕ) (head : Head) (nodes : List Node)
    → SaysFrame m deep bytes at first head nodes size → LieIn head.start (head.start + head.length) nodes
head_lies m deep bytes at first size head nodes says =
    rw (says.head_is, says.nodes_are) (payload_lie says.raw.kind deep (at + payload_place says.raw.kind) says.raw.payload)

-- the nodes of entries lie in their content
pub entries_lie : (content : List ℕ) → LieIn 0 (length content) (entries_nodes content)
entries_lie content = content_lies (entries_all content)

-- the nodes of values lie in their content
pub values_lie : (content : List ℕ) → LieIn 0 (length content) (values_nodes content)
values_lie content = content_lies (values_all content)
