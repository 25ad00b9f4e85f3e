-- What the fields of whole payloads are listed as.
use Rattle.std.proofs.Common.{drop-drop, length-drop, option_copied, option_map, Bor, ◌≡◌, ℕ, ◌+◌, ◌-◌, ◌<◌, ◌≤◌, Bool, List, length, drop, Option, Some, None}
use Rattle.std.proofs.Common.{Result, Ok, Err, refl, sym, ap, ap₂, subst, ◌∙◌, arith}
use Rattle.amqp_fields.proofs.Names.{Fault, IsBytes, took, bytes2, judge_number, slots_at, read_map, ParserError, Slot, count_took, value_took, judge_slots}
use Rattle.amqp_fields.proofs.Names.{AMQPFrameType, Frame, Meth, slots_of, Node, listed_method, listed_slots, Counts}
use Rattle.amqp_types.specs.Methods.{Method, judge_payload, payload_bytes}
use Rattle.amqp_types.specs.Tidiness.{is_tidy_payload}
use Rattle.amqp_types.specs.Slots as meant
use Rattle.amqp_canonical.specs.declared.slots.Judgement.{Judgement}
use Rattle.amqp_canonical.specs.SlotJudgements.{JudgesSlots}
use Rattle.amqp_canonical.proofs.MethodWalk.{payload_took}
use Rattle.amqp_canonical.proofs.ReadParts.{is_read, unread}
use Rattle.amqp_wire.proofs.Payloads.{filled_took}
use Rattle.amqp_fields.proofs.PayloadsFound.{MethodParts, method_parts}
use Rattle.amqp_wire.specs.declared.frame_type.AMQPFrameType.TheVariants as kinds
use Rattle.amqp_wire.specs.Judgements.{JudgesAll}
use Rattle.amqp_wire.specs.Verdicts.{all_of, decode_payload}
use Rattle.amqp_wire.proofs.Judged.{method_all}
use Rattle.amqp_fields.specs.Decoding.{IsNoMethod}

-- the payload is a method with these fields, whose bytes stand after both ids
pub record IsMethodAt (payload : List ℕ) (slots : List meant.Slot) (fields : List ℕ) : Type 0 where
  pub class : ℕ
  pub id : ℕ
  pub class_is : judge_number bytes2 payload ≡ took class 2
  pub id_is : judge_number bytes2 (drop 2 payload) ≡ took id 2
  pub at : slots_at class id ≡ Some slots
  pub fields_are : fields ≡ drop 2 (drop 2 payload)

-- the fields of a method that is in the table are listed
pub method_listed : (deep : Bool) (end count : ℕ) (payload fields : List ℕ) (slots : List meant.Slot) (old new : List Node) (total : ℕ)
    → IsMethodAt payload slots fields → Counts (listed_slots deep end 0 slots fields) old count new total
    → Counts (listed_method deep end payload) old count new total
unfolding listed_method
method_listed deep end count payload fields slots old new total m h = rw (m.class_is, m.id_is, m.at, ← m.fields_are) h

-- the shapes that were found for ids are in the table
pub method_is : (class id : ℕ) (found : Option (Bor (List Slot))) (shapes : Bor (List Slot))
    → option_map slots_of (option_copied found) ≡ slots_at class id → found ≡ Some shapes → slots_at class id ≡ Some (slots_of shapes.now)
method_is class id found shapes at is = sym at ∙ ap (λ o. option_map slots_of (option_copied o)) is

-- a payload that begins with the ids of a method whose shapes were found is that method
pub method_at : {payload : List ℕ} (class id : ℕ) (found : Option (Bor (List Slot))) (shapes : Bor (List Slot)) → judge_number bytes2 payload ≡ took class 2
    → judge_number bytes2 (drop 2 payload) ≡ took id 2 → option_map slots_of (option_copied found) ≡ slots_at class id → found ≡ Some shapes
    → IsMethodAt payload (slots_of shapes.now) (drop 4 payload)
method_at {payload} class id found shapes one two at is = record {
  class = class;
  id = id;
  class_is = one;
  id_is = two;
  at = method_is class id found shapes at is;
  fields_are = sym (drop-drop 2 2 payload);
}

-- ---- methods decoded

rest_size : {payload fields : List ℕ} {slots : List meant.Slot} → IsMethodAt payload slots fields → length fields ≡ length payload - 4
rest_size {payload} m = ap length m.fields_are ∙ length-drop 2 (drop 2 payload) ∙ omega (arith, length-drop 2 payload)

-- a payload whose fields fill it is judged as they are
pub method_read : (payload fields : List ℕ) (slots : List meant.Slot) (j : Judgement) → IsBytes payload → IsMethodAt payload slots fields
    → 4 ≤ length payload → j.used ≡ length fields → JudgesSlots slots fields (Ok j)
    → JudgesAll judge_payload payload_bytes is_tidy_payload payload (Ok (record { canonical = j.canonical; tidy = j.tidy }))
method_read payload fields slots j fits m some all h =
    method_all payload (record { used = 2 + (2 + j.used); canonical = j.canonical; tidy = j.tidy }) fits (omega (arith, rest_size m))
    (payload_took payload m.class 2 m.id 2 slots j fits m.class_is m.id_is m.at (rw m.fields_are at h))

-- ---- faults of methods

none_of : (payload : List ℕ) → ((m : Method) → MethodParts payload m (length payload) → ⊥) → IsNoMethod payload
none_of payload none m h = none m (method_parts payload m (length payload) (filled_took (length payload) (judge_payload payload) m h))

-- a payload without both ids is no method
pub no_ids : (payload : List ℕ) → length payload < 4 → IsNoMethod payload
no_ids payload few = none_of payload (λ m p. omega (arith, few, p.some))

-- a payload whose ids are not in the table is none
pub no_method : (payload : List ℕ) (class id : ℕ) (shapes : Option (Bor (List Slot))) → judge_number bytes2 payload ≡ took class 2
    → judge_number bytes2 (drop 2 payload) ≡ took id 2 → option_map slots_of (option_copied shapes) ≡ slots_at class id → shapes ≡ None → IsNoMethod payload
no_method payload class id shapes one two at is =
    none_of payload (λ m p.
    let a : p.class ≡ class = value_took _ _ _ _ (sym p.class_is ∙ one) in
    let b : p.id ≡ id = value_took _ _ _ _ (sym p.id_is ∙ two) in
    let none : option_map slots_of (option_copied shapes) ≡ None = ap (λ o. option_map slots_of (option_copied o)) is in
    let there : None ≡ Some p.slots = sym none ∙ at ∙ ap₂ slots_at (sym a) (sym b) ∙ p.at in
    absurd cc)

same_fields : {payload fields : List ℕ} {slots : List meant.Slot} {m : Method} {n : ℕ} → IsMethodAt payload slots fields
    → (p : MethodParts payload m n) → judge_slots slots fields ≡ took p.items p.used
same_fields at p =
    let a : at.class ≡ p.class = value_took _ _ _ _ (sym at.class_is ∙ p.class_is) in
    let b : at.id ≡ p.id = value_took _ _ _ _ (sym at.id_is ∙ p.id_is) in
    let same : Some _ ≡ Some p.slots = sym at.at ∙ ap₂ slots_at a b ∙ p.at in
    ap₂ judge_slots (cc (same)) at.fields_are ∙ p.fields

-- nor one whose fields have a fault
pub no_fields : (payload fields : List ℕ) (slots : List meant.Slot) (error : ParserError) → IsMethodAt payload slots fields
    → JudgesSlots slots fields (Err error) → IsNoMethod payload
no_fields payload fields slots error at h =
    none_of payload (λ m p. unread error (judge_slots slots fields) h (is_read (judge_slots slots fields) p.items p.used (same_fields at p)))

-- nor one in which bytes are left after the fields
pub more_fields : (payload fields : List ℕ) (slots : List meant.Slot) (j : Judgement) → IsMethodAt payload slots fields
    → j.used < length fields → JudgesSlots slots fields (Ok j) → IsNoMethod payload
more_fields payload fields slots j at less h =
    none_of payload (λ m p. omega (
      arith,
      less,
      count_took _ _ _ _ (sym h.is ∙ same_fields at p),
      p.size,
      rest_size at,
    ))

read_none : (channel : ℕ) (read : Result Method Fault) → ((m : Method) → read ≡ Ok m → ⊥) → (frame : Frame)
    → read_map (λ m. Meth channel m) read ≡ Ok frame → ⊥
read_none channel (Ok m) h frame is = h m refl
read_none channel (Err bad) h frame is = absurd cc

-- a whole payload that is no method is no frame of one
pub no_frame : (kind : AMQPFrameType) (channel : ℕ) (payload : List ℕ) → kind ≡ kinds.Method → IsNoMethod payload → (frame : Frame)
    → decode_payload kind channel payload ≡ Ok frame → ⊥
unfolding decode_payload
no_frame kind channel payload is h frame found =
    read_none channel (all_of judge_payload payload) h frame (subst (λ k. decode_payload k channel payload ≡ Ok frame) is found)
