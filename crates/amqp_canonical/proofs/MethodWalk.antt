-- Methods in payloads, decoded by the fields of the table.
use Rattle.std.proofs.Common.{◌≡◌, ◌↔◌, ℕ, ◌+◌, ◌≤◌, true, false, List, ◌++◌, length, take, drop, Option, Some, None, Ok, Err, refl, sym, ap, ◌∙◌}
use Rattle.std.proofs.lemmas.List.{drop_at, length-take-le}
use Rattle.std.proofs.Math.Seq.{take-add}
use Rattle.std.specs.Option.{is_some}
use Rattle.amqp_types.specs.Levels.{Level, tidy, strict}
use Rattle.amqp_types.specs.Judging.{took, fault, unknown_class, unknown_method, IsBytes}
use Rattle.amqp_types.specs.Answers.{AnswersFully}
use Rattle.amqp_types.specs.Numbers.{bytes2, judge_number, SpellsNumber}
use Rattle.amqp_types.specs.Slots.{Item, Slot}
use Rattle.amqp_types.specs.SlotJudging.{judge_slots}
use Rattle.amqp_types.specs.SlotSpelling.{SpellsSlots}
use Rattle.amqp_types.specs.Rows.{Row, rows_of, slots_at}
use Rattle.amqp_types.specs.Methods.{method, judge_method, judge_in_class, judge_payload}
use Rattle.amqp_types.specs.MethodSpelling.{SpellsPayload}
use Rattle.amqp_types.specs.declared.errors.ParserError.{ParserError}
use Rattle.amqp_types.proofs.Bytes.{IsBytes-drop}
use Rattle.amqp_types.proofs.FormLaws.{numbers_lawful}
use Rattle.amqp_laws.proofs.MethodLaws.{in_table, rows_lawful, payloads_lawful}
use Rattle.amqp_canonical.specs.declared.slots.Judgement.{Judgement}
use Rattle.amqp_canonical.specs.SlotJudgements.{TakesTidily, AreCanonicalSlots, IsCanonicalPayload}
use Rattle.amqp_canonical.proofs.Refusing.{Fails, fully, fails_next}
use Rattle.amqp_canonical.proofs.Children.{decided_as}
use Rattle.amqp_canonical.proofs.Joining.{judgement}
use Rattle.amqp_canonical.proofs.Forms.{canonical_of_levels, levels_of_canonical}

-- ---- what stands in the table

-- An option of which the test says that there is nothing is None.
pub none_is : {A : Type 0} (o : Option A) → is_some o ≡ false → o ≡ None
none_is None h = refl
none_is (Some x) h = absurd cc

-- An option of which the test says that there is something holds it.
pub some_is : {A : Type 0} (o : Option A) → is_some o ≡ true → (x : A) × (o ≡ Some x)
some_is None h = absurd cc
some_is (Some x) h = (x, refl)

-- ---- faults

-- An error in the class id is the error of the payload.
pub payload_unread : {A : Type 0} (payload : List ℕ) (view : A → ℕ) (e : ParserError)
    → AnswersFully view (Err e) (judge_number bytes2 payload) → Fails e (judge_payload payload)
unfolding judge_payload
payload_unread payload view e h = fails_next _ _ _ (fully view _ _ h)

-- A class id without methods in the table is refused as an unknown class.
pub payload_no_class : (payload : List ℕ) (class n : ℕ) → judge_number bytes2 payload ≡ took class n
    → rows_of class ≡ None → judge_payload payload ≡ fault unknown_class
unfolding judge_payload judge_in_class
payload_no_class payload class n is none = rw (is, none)

-- An error in the method id is the error of the payload, where the class is known.
pub payload_no_id : {A : Type 0} (payload : List ℕ) (class n : ℕ) (rows : List Row) (view : A → ℕ) (e : ParserError)
    → judge_number bytes2 payload ≡ took class n → rows_of class ≡ Some rows
    → AnswersFully view (Err e) (judge_number bytes2 (drop n payload)) → Fails e (judge_payload payload)
unfolding judge_payload judge_in_class
payload_no_id payload class n rows view e is some h = rw (is, some) (fails_next _ _ _ (fails_next _ _ _ (fully view _ _ h)))

-- A method id that the class does not have is refused as an unknown method.
pub payload_no_method : (payload : List ℕ) (class n id m : ℕ) (rows : List Row) → judge_number bytes2 payload ≡ took class n
    → rows_of class ≡ Some rows → judge_number bytes2 (drop n payload) ≡ took id m
    → slots_at class id ≡ None → judge_payload payload ≡ fault unknown_method
unfolding judge_payload judge_in_class judge_method
payload_no_method payload class n id m rows is some next none = rw (is, some, next, none)

-- An error in the fields of a known method is the error of the payload.
pub payload_fails : (payload : List ℕ) (class n id m : ℕ) (slots : List Slot) (e : ParserError)
    → judge_number bytes2 payload ≡ took class n → judge_number bytes2 (drop n payload) ≡ took id m → slots_at class id ≡ Some slots
    → Fails e (judge_slots slots (drop m (drop n payload))) → Fails e (judge_payload payload)
unfolding judge_payload judge_in_class judge_method
payload_fails payload class n id m slots e is next some h =
    let table = in_table class id slots some in
    rw (is, table.known, next, some) (fails_next _ _ _ (fails_next _ _ _ (fails_next _ _ _ h)))

-- ---- what is taken

-- the fields after both ids
behind_ids : (a b s rest : List ℕ) (n m : ℕ) → rest ≡ a ++ (b ++ s) → length a ≡ n → length b ≡ m → drop m (drop n rest) ≡ s
behind_ids a b s rest n m is first second = ap (λ bs. drop m (drop n bs)) is ∙ ap (drop m) (drop_at a (b ++ s) n first) ∙ drop_at b s m second

module _ (payload : List ℕ) (class n id m : ℕ) (slots : List Slot) (j : Judgement) (fits : IsBytes payload)
    (is : judge_number bytes2 payload ≡ took class n) (next : judge_number bytes2 (drop n payload) ≡ took id m) (some : slots_at class id ≡ Some slots) where
  abbrev rest : List ℕ
  rest = drop m (drop n payload)

  abbrev front : List ℕ
  front = take (n + (m + j.used)) payload

  class_spelled : SpellsNumber bytes2 (take n payload) class × (n ≤ length payload)
  class_spelled = (numbers_lawful bytes2).exact.spelled payload class n fits is

  id_spelled : SpellsNumber bytes2 (take m (drop n payload)) id × (m ≤ length (drop n payload))
  id_spelled = (numbers_lawful bytes2).exact.spelled (drop n payload) id m (IsBytes-drop n payload fits) next

  parts : front ≡ take n payload ++ (take m (drop n payload) ++ take j.used rest)
  parts = take-add n (m + j.used) payload ∙ ap (λ bs. take n payload ++ bs) (take-add m j.used (drop n payload))

  same_slots : (items : List Item) (level : Level) → SpellsSlots level slots (take j.used rest) items ↔ SpellsPayload level front (method class id items)
  same_slots items level = (
    λ h. record {
      slots = slots;
      class_bytes = take n payload;
      id_bytes = take m (drop n payload);
      slot_bytes = take j.used rest;
      known = some;
      bytes_are = parts;
      class_is = class_spelled.0;
      id_is = id_spelled.0;
      slots_are = h;
    },
    λ s.
        let first : length (take n payload) ≡ n = length-take-le n payload class_spelled.1 in
        let second : length (take m (drop n payload)) ≡ m = length-take-le m (drop n payload) id_spelled.1 in
        let same : s.slot_bytes ≡ take j.used rest =
        sym (behind_ids s.class_bytes s.id_bytes s.slot_bytes front n m s.bytes_are
        (ap length (s.class_is.bytes_are ∙ sym class_spelled.0.bytes_are) ∙ first) (ap length (s.id_is.bytes_are ∙ sym id_spelled.0.bytes_are) ∙ second))
        ∙ behind_ids (take n payload) (take m (drop n payload)) (take j.used rest) front n m parts first second in
        let one : s.slots ≡ slots = let known = s.known in cc in
        rw (← same, ← one) s.slots_are,
  )

  payload_is : (items : List Item) → judge_slots slots rest ≡ took items j.used → judge_payload payload ≡ took (method class id items) (n + (m + j.used))
  unfolding judge_payload judge_in_class judge_method
  payload_is items fields = let table = in_table class id slots some in rw (is, table.known, next, some, fields)

  -- A payload takes both ids and the fields of its method, and is canonical, or tidy, exactly where the fields are.
  pub payload_took : (let rest = drop m (drop n payload) in TakesTidily (AreCanonicalSlots slots) (SpellsSlots tidy slots) j rest (judge_slots slots rest))
      → TakesTidily IsCanonicalPayload (SpellsPayload tidy)
      (record { used = n + (m + j.used); canonical = j.canonical; tidy = j.tidy }) payload (judge_payload payload)
  payload_took h =
      let levels =
      levels_of_canonical (rows_lawful class id slots some) rest (Ok j) (IsBytes-drop m (drop n payload) (IsBytes-drop n payload fits)) h in
      let items = levels.thing in
      let up = same_slots items strict in
      let neat = same_slots items tidy in
      canonical_of_levels payloads_lawful payload (judgement (n + (m + j.used)) j.canonical j.tidy) fits (record {
        thing = method class id items;
        is = payload_is items levels.is;
        canonical = decided_as _ _ _ levels.canonical up.0 up.1;
        tidy = decided_as _ _ _ levels.tidy neat.0 neat.1;
      })
