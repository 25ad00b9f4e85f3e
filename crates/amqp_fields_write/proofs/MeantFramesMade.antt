-- What is made of heads and nodes is of frames that they mean, and frames that are meant are made, or the first is refused that is too long.
use Rattle.amqp_fields_write.proofs
use Rattle.amqp_fields_write.specs
use Rattle.amqp_types.specs as types
use proofs.Names.{◌≡◌, ℕ, suc, ◌+◌, ◌<◌, ◌≤◌, ◌^◌, ◌==◌, ◌&&◌, Bool, true, false, List, [], ◌∷◌, ◌++◌, length, map, take, drop, Option, Some, None, unwrap_or}
use proofs.Names.{Result, Ok, Err, refl, sym, ap, ap₂, subst, ◌∙◌, append_assoc, arith, inl, inr, nat_lt, nat_le, if◌then◌else◌, zero, is_some, cases_lt}
use proofs.Names.{numbers, length-map, Level, plain, IsBytes, bytes1, bytes2, bytes8, number_bytes, flag_at, is_too_long, protocol_byte, protocol_mark}
use proofs.Names.{slots_at, mask_of, IsFramed, IsWithin, Spells, SpellsFrames, framed, proto, Node, WriteError, next_place, version_slots, group_size, is_next}
use proofs.Names.{made_field, made_properties, made_set, made_slots, set_at, at_head, given_length, made_frames, AreNodes, IsSpan, byte_below}
use proofs.Names.given
use proofs.Names.failures
use types.Constants.{method_byte, header_byte, body_byte, heartbeat_byte}
use types.Slots.{Item, number_item, Slot}
use types.Methods.{Method, method}
use types.MethodSpelling.{SpellsPayload}
use types.Properties.{Property, later_properties, properties}
use types.PropertySpelling.{SpellsProperties, SpellsSet}
use types.ContentHeaders.{ContentHeader, SpellsContentHeader, header_of_parts, header_slots}
use types.SlotSpelling.{SpellsSlots}
use Rattle.amqp_laws.proofs.Masks.{IsMaskOf, flags_mask, flags_mask_is, mask_of-flags, set_flags}
use Rattle.amqp_laws.proofs.MethodLaws.{in_table}
use Rattle.amqp_laws.proofs.SlotLaws.{slots_lawful}
use Rattle.amqp_laws.proofs.SlotsHeld.{slots_held}
use types.SlotBytes.{form_bytes, slots_bytes}
use proofs.MadeOfParts.{mod_small, Parts, after_ok, either, fails, holds, ok_is}
use Rattle.amqp_wire.specs.Frames.{Frame, Proto, Meth, Head, Body, Beat, BadBeat}
use Rattle.amqp_wire.proofs.Sizes.{framed_length}
use specs.Made.{Made, after, misfit_head, span_in}
use specs.MadeFrames.{are_beyond, has_no_ids, header_front, is_held, made_around, made_beat, made_body, made_bytes, made_frame, made_header, made_known}
use specs.MadeFrames.{made_method, made_own, made_payload, made_typed, made_version, nodes_in}
use specs.Making.{RefusesFirst, RefusesHead, RefusesLong, SpellsPayloadOf, Suits, made_whole}
use Rattle.amqp_fields.specs.Meaning.{fields_from, fields_of, kinds_in, set_fields}
use specs.Meant.{HasNoIds, TellFrames, TellsField, TellsFields, TellsFrame, TellsTyped, TellsItem}
use proofs.Ordered.{lawful_at, beat_at, from_tidy, InOrder, each_with, order_taken}
use Rattle.amqp_fields.proofs.PayloadsFound.{few_fields, few_spare, fourteen}
use proofs.MeantValuesMade.{Fits, IsLongBy, after_fits, as_fits, behind_long, both_fits, both_spelled, fits_for, fits_into, ok_fits, Told}
use proofs.FramesMade.{header_parts, method_parts, version_parts}
use proofs.MeantFieldsMade.{told_group, IsOne, Means, field_fits, none_fits, slots_fit, field_told, none_given, none_left, slots_told}

-- ---- properties

-- none of these properties is flags
abbrev pub AreOne : List Property → Type 0
AreOne [] = Unit {0}
AreOne (p ∷ ps) = IsOne p.form × AreOne ps

-- none of all properties is
pub all_one : AreOne properties
unfolding properties later_properties
all_one = (tt, (tt, (tt, (tt, (tt, (tt, (tt, (tt, (tt, (tt, (tt, (tt, (tt, (tt, tt))))))))))))))

-- a class id, a weight of 0 and a body size encode the front of a content header at each level
front_spelled : (level : Level) (class size : ℕ) → class < 2 ^ 16 → size < 2 ^ 64
    → SpellsSlots level header_slots (number_bytes bytes2 class ++ (number_bytes bytes2 0 ++ number_bytes bytes8 size))
    (number_item class ∷ number_item size ∷ [])
unfolding header_slots slots_bytes form_bytes
front_spelled level class size class_fits size_fits =
    let items : List Item = number_item class ∷ number_item size ∷ [] in
    lawful_at (slots_lawful header_slots refl) level (slots_bytes header_slots items) items
    (slots_held header_slots items refl (class_fits, (size_fits, refl)) refl refl)

module _ (level : Level) (pool : List ℕ) (fits : IsBytes pool) where
  -- the nodes of properties from a place on are not at a place before it
  later_place : (before place : ℕ) (ps : List Property) (options : List (Option Item)) (nodes : List Node)
      → before < place → AreNodes (Means level pool) (set_fields place ps options) nodes → is_next before nodes ≡ false
  later_place before place (p ∷ ps) (None ∷ options) nodes less h = later_place before (place + 1) ps options nodes (omega arith) h
  later_place before place (p ∷ ps) (Some item ∷ options) nodes less h =
      let other : (h.node.place == before) ≡ false = grind numbers in
      ap (is_next before) h.nodes_are ∙ other
  later_place before place ps options nodes less h = ap (is_next before) h

  record SetFits (end place : ℕ) (ps : List Property) (options : List (Option Item)) (nodes : List Node) : Type 0 where
    chosen : map is_some (set_at place ps nodes) ≡ map is_some options
    made : (mask : ℕ) → set_flags mask ps ≡ map is_some options → Fits (IsLongBy level pool end nodes) (made_set pool end place ps nodes)
        (λ bytes. SpellsSet level mask ps bytes options)

  set_fit : (end place : ℕ) (ps : List Property) (options : List (Option Item)) (nodes : List Node) → place + length ps < 256 → AreOne ps
      → length options ≡ length ps → AreNodes (Means level pool) (set_fields place ps options) nodes → SetFits end place ps options nodes
  unfolding made_set set_at
  set_fit end place [] [] nodes room one number h = record { chosen = refl; made = λ mask flags. none_fits level pool fits end nodes h (refl, refl) }
  set_fit end place (p ∷ ps) (None ∷ options) nodes room one number h =
      let off = later_place place (place + 1) ps options nodes (omega arith) h in
      let next : next_place place 1 ≡ place + 1 = byte_below (place + 1) (omega arith) in
      let more = set_fit end (place + 1) ps options nodes (omega arith) one.1 (omega arith) h in
      record {
        chosen = rw (off, next) (ap (λ bs. false ∷ bs) more.chosen);
        made = λ mask flags.
            let bit : flag_at mask p.bit ≡ false = cc in
            rw (off, next) (fits_into
            (λ bytes spelled. both_spelled None options refl [] bytes (rw bit (refl, refl)) spelled)
            (more.made mask cc));
      }
  set_fit end place (p ∷ ps) (Some item ∷ options) nodes room one number h =
      let found =
      field_fits level pool fits end place p.form item nodes (λ others. AreNodes (Means level pool) (set_fields (place + 1) ps options) others) one.0 h in
      let first : (h.node.place == place) ≡ true = grind numbers in
      let on : is_next place nodes ≡ true = ap (is_next place) h.nodes_are ∙ first in
      let next : next_place place 1 ≡ place + 1 = byte_below (place + 1) (omega arith) in
      let more = set_fit end (place + 1) ps options h.others (omega arith) one.1 (omega arith) h.rest in
      record {
        chosen = rw (on, next, ← found.1) (ap (λ bs. true ∷ bs) more.chosen);
        made = λ mask flags.
            let bit : flag_at mask p.bit ≡ true = cc in
            rw (on, next, ← found.1) (both_fits (Some item) options refl
            (fits_into (λ bytes spelled. rw bit (record { thing = item ∷ []; spelled = spelled; made = refl })) found.0)
            (fits_for (λ bad. behind_long (h.node ∷ h.inside) h.nodes_are) (more.made mask cc)));
      }
  set_fit end place ps options nodes room one number h = absurd (omega arith)

  properties_fit : (end : ℕ) (options : List (Option Item)) (nodes : List Node)
      → length options ≡ length properties → AreNodes (Means level pool) (set_fields 0 properties options) nodes
      → Fits (IsLongBy level pool end nodes) (made_properties pool end nodes) (λ bytes. SpellsProperties level bytes options)
  unfolding made_properties
  properties_fit end options nodes number h =
      let set = set_fit end 0 properties options nodes (omega (arith, fourteen)) all_one number h in
      let mask = mask_of properties (set_at 0 properties nodes) in
      let count : length (map is_some options) ≡ 14 = length-map options is_some ∙ number ∙ fourteen in
      let is : IsMaskOf mask (map is_some options) =
      subst (λ m. IsMaskOf m (map is_some options)) (sym (mask_of-flags properties (set_at 0 properties nodes) ∙ ap (flags_mask properties) set.chosen))
      (flags_mask_is (map is_some options) count) in
      after_fits {P = λ bytes. bytes ≡ number_bytes bytes2 mask}
      (λ a b p q.
      record { mask = mask; behind = b; fits = is.fits; bytes_are = ap (λ bs. bs ++ b) p; set = q; unused = from_tidy level (is.second, is.lowest) })
      (ok_fits (number_bytes bytes2 mask) refl) (set.made mask is.set)

  -- ---- payloads

  module _ (nodes : List Node) (head : given.Head) (order : InOrder level pool nodes) where
    abbrev own : List Node
    own = take head.nodes (drop head.first nodes)

    abbrev end : ℕ
    end = head.first + head.nodes

    -- what is made of a head, or a content of one of its nodes is too long
    abbrev Own : Made → (List ℕ → Type 0) → Type 0
    Own = Fits (IsLongBy level pool end own)

    fields_mean : (frame : Frame) → TellsFields pool nodes head.first head.nodes frame → AreNodes (Means level pool) (fields_of frame) own
    fields_mean frame h = each_with level pool (TellsField pool) (fields_of frame) own (order_taken level pool nodes head.first head.nodes order) h.fields

    own_are : head.first + head.nodes ≤ length nodes → nodes_in nodes head ≡ Some own
    own_are within = let le : nat_le end (length nodes) ≡ true = grind numbers in rw le

    method_fits : (channel : ℕ) (m : Method) → TellsTyped pool nodes head (Meth channel m)
        → Own (made_method pool nodes head) (λ bytes. SpellsPayload level bytes m)
    unfolding fields_of
    method_fits channel m h =
        let is = h.5 in
        let slots = is.slots in
        let ids = number_bytes bytes2 head.class_id ++ number_bytes bytes2 head.method_id in
        let table = in_table m.class m.id slots is.known in
        let few = few_fields m.class m.id slots is.known in
        let kinds : kinds_in (unwrap_or (slots_at m.class m.id) []) ≡ kinds_in slots = ap (λ o. kinds_in (unwrap_or o [])) is.known in
        let means = subst (λ ks. AreNodes (Means level pool) (fields_from 0 ks m.items) own) kinds (fields_mean (Meth channel m) h.6) in
        as_fits (method_parts pool nodes own head end (own_are h.6.within) refl slots (ap₂ (λ a b. slots_at a b) h.2 h.3 ∙ is.known) h.4)
        (after_fits {P = λ bytes. bytes ≡ ids}
        (λ a b p q. record {
          slots = slots;
          class_bytes = number_bytes bytes2 m.class;
          id_bytes = number_bytes bytes2 m.id;
          slot_bytes = b;
          known = is.known;
          bytes_are =
              ap (λ bs. bs ++ b) (p ∙ ap₂ (λ x y. number_bytes bytes2 x ++ number_bytes bytes2 y) h.2 h.3)
              ∙ append_assoc (number_bytes bytes2 m.class) (number_bytes bytes2 m.id) b;
          class_is = record { fits = table.class_fits; bytes_are = refl };
          id_is = record { fits = table.id_fits; bytes_are = refl };
          slots_are = q;
        }) (ok_fits ids refl)
        (slots_fit level pool fits end 0 slots m.items own (omega arith) (few_spare m.class m.id slots is.known) table.least is.number means))

    header_fits : (channel : ℕ) (header : ContentHeader) → head.class_id < 2 ^ 16 → head.body_size < 2 ^ 64 → TellsTyped pool nodes head (Head channel header)
        → Own (made_header pool nodes head) (λ bytes. SpellsContentHeader level bytes header)
    unfolding fields_of
    header_fits channel header class_fits size_fits h =
        let items : List Item = number_item head.class_id ∷ number_item head.body_size ∷ [] in
        as_fits (header_parts pool nodes own head end (own_are h.6.within) refl h.3)
        (both_fits items header.options (sym (ap₂ (λ a b. header_of_parts (number_item a ∷ number_item b ∷ []) header.options) h.2 h.4))
        (ok_fits (header_front head) (front_spelled level head.class_id head.body_size class_fits size_fits))
        (properties_fit end header.options own h.5 (fields_mean (Head channel header) h.6)))

    -- neither ids nor nodes
    bare : HasNoIds head → head.nodes ≡ 0 → (has_no_ids head && (head.nodes == 0)) ≡ true
    bare free none = grind numbers

    -- ---- protocol headers

    version_fits : (major minor revision : ℕ) → TellsTyped pool nodes head (Proto major minor revision)
        → Own (made_version pool nodes head) (λ bytes. bytes ≡ proto major minor revision)
    unfolding fields_of slots_bytes form_bytes
    version_fits major minor revision h =
        let items : List Item = number_item major ∷ number_item minor ∷ number_item revision ∷ [] in
        let f = h.3.fields in
        let three : slots_bytes version_slots items ≡ major ∷ minor ∷ revision ∷ [] =
        rw (mod_small bytes1 major f.means.tells.0, mod_small bytes1 minor f.rest.means.tells.0, mod_small bytes1 revision f.rest.rest.means.tells.0) in
        as_fits (version_parts pool nodes own head end (own_are h.3.within) refl (grind numbers) h.1)
        (after_fits {P = λ bytes. bytes ≡ protocol_byte ∷ protocol_mark}
        (λ a b p q. ap₂ (λ x y. x ++ y) p ((slots_lawful version_slots refl).strict_is_canonical b items q ∙ three))
        (ok_fits (protocol_byte ∷ protocol_mark) refl)
        (slots_fit level pool fits end 0 version_slots items own (omega arith) (omega arith) refl refl (fields_mean (Proto major minor revision) h.3)))

    -- ---- frames

    module _ (m : ℕ) (few : m < 2 ^ 32) (held : is_held head ≡ true) where
      -- what is made of a head encodes its frame, or the head is refused as its frame has it
      abbrev Whole : Frame → Made → Type 0
      Whole frame made =
          Fits (λ bad. RefusesHead level pool nodes m head frame bad.node bad.why) made (λ bytes. Spells level bytes frame × IsWithin (Some m) bytes)

      -- a payload is framed where it and contents that are given as bytes are within the limit
      around : (frame : Frame) (made : Made) {P : List ℕ → Type 0} → (head.frame_type == protocol_byte) ≡ false → made_payload pool nodes head ≡ made
          → ((payload : List ℕ) → P payload → SpellsPayloadOf level payload frame
          × ((bytes : List ℕ) → IsFramed bytes head.frame_type head.channel payload → Spells level bytes frame))
          → Own made P → Whole frame (made_typed pool nodes m head)
      unfolding made_typed
      around frame made {P} other is into h = elim (cases_lt m (given_length own)) [
        | inl large ↦
            let beyond : are_beyond m nodes head ≡ true = grind numbers in
            rw (other, beyond) (record { suits = inr (inr (record { large = large; index_is = refl; because_is = refl })) })
        | inr small ↦
            let beyond : are_beyond m nodes head ≡ false = grind numbers in
            rw (other, beyond) (by made is h)
      ]
        where
          by : (made : Made) → made_payload pool nodes head ≡ made → Own made P → Whole frame (made_around m head (made_payload pool nodes head))
          by (Err bad) is h = rw is (record { suits = inl h.suits })
          by (Ok payload) is h =
              let one = into payload h.suits in
              elim (cases_lt m (length payload)) [
                | inl large ↦
                    let test : nat_lt m (length payload) ≡ true = grind numbers in
                    rw (is, test) (record {
                      suits =
                          inr (inl (record { index_is = refl; because_is = refl; payload = payload; made_is = is; spelled = one.0; large = large }));
                    })
                | inr small ↦
                    let test : nat_lt m (length payload) ≡ false = grind numbers in
                    rw (is, test) (ok_fits (framed head.frame_type head.channel payload) (
                      one.1 _ (record { channel_fits = grind numbers; length_fits = omega arith; bytes_are = refl }),
                      omega (arith, framed_length head.frame_type head.channel payload),
                    ))
              ]

      typed_fits : (frame : Frame) → TellsTyped pool nodes head frame → Whole frame (made_typed pool nodes m head)
      unfolding made_typed made_payload made_body made_beat
      typed_fits (Proto major minor revision) h =
          let is : made_typed pool nodes m head ≡ made_version pool nodes head = rw h.0 in
          as_fits is (fits_into (λ bytes is. (is, omega (arith, ap length is))) (fits_for (λ bad. inl) (version_fits major minor revision h)))
      typed_fits (Meth channel meth) h =
          around (Meth channel meth) (made_method pool nodes head) (rw h.0) (rw h.0)
          (λ payload spelled. (spelled, λ bytes is. record { payload = payload; is_framed = rw (h.0, h.1) at is; spelled = spelled }))
          (method_fits channel meth h)
      typed_fits (Head channel header) h =
          around (Head channel header) (made_header pool nodes head) (rw h.0) (rw h.0)
          (λ payload spelled. (spelled, λ bytes is. record { payload = payload; is_framed = rw (h.0, h.1) at is; spelled = spelled }))
          (header_fits channel header (grind numbers) (grind numbers) h)
      typed_fits (Body channel content) h =
          around (Body channel content) (made_body pool head) (rw h.0) (rw h.0)
          (λ payload same. (same, λ bytes is. rw (h.0, h.1, same) at is))
          (let within : nat_le (head.start + head.length) (length pool) ≡ true = grind numbers in
          rw (bare h.2 h.3, within) (ok_fits (take head.length (drop head.start pool)) h.4.bytes_are))
      typed_fits Beat h =
          around Beat (made_beat head) (rw h.0) (rw h.0)
          (λ payload none. (none, λ bytes is. record { payload = payload; is_framed = rw (h.0, h.1) at is; at_level = beat_at level payload none }))
          (rw (bare h.2 h.3) (ok_fits [] refl))
      typed_fits (BadBeat channel) h =
          around (BadBeat channel) (made_beat head) (rw h.0) (rw h.0)
          (λ payload none. (none, λ bytes is. (h.2, record { payload = payload; is_framed = rw (h.0, h.1) at is; at_level = beat_at level payload none })))
          (rw (bare h.3 h.4) (ok_fits [] refl))

  pub frame_fits : (nodes : List Node) (m : ℕ) (head : given.Head) (frame : Frame) → InOrder level pool nodes → m < 2 ^ 32
      → TellsFrame pool nodes head frame
      → Fits (λ bad. RefusesHead level pool nodes m head frame bad.node bad.why) (made_frame pool nodes m head)
      (λ bytes. Spells level bytes frame × IsWithin (Some m) bytes)
  unfolding made_frame
  frame_fits nodes m head frame order few h = rw h.0 (typed_fits nodes head order m few h.0 frame h.1)

  -- ---- sequences

  -- a refusal of a content alone
  pub at_suits : (nodes : List Node) (made : Made) (P : List ℕ → Type 0)
      → Fits (IsLongBy plain pool (length nodes) nodes) made P → Suits (RefusesLong P pool nodes) (at_head 0 (made_whole made)) P
  at_suits nodes (Ok bytes) P h = elim (cases_lt (length bytes) (2 ^ 32)) [
    | inl few ↦ let test : is_too_long bytes ≡ false = grind numbers in rw test h.suits
    | inr long ↦
        let test : is_too_long bytes ≡ true = grind numbers in
        rw test (refl, inr (record { content = bytes; spelled = h.suits; long = long; index_is = refl; because_is = refl }))
  ]
  at_suits nodes (Err bad) P h = (refl, inl h.suits)

  frames_by : (nodes : List Node) (m k : ℕ) (head : given.Head) (heads : List given.Head) (frame : Frame) (frames : List Frame)
      (made : Made) (others : Result (List ℕ) WriteError) → made_frame pool nodes m head ≡ made
      → Fits (λ bad. RefusesHead level pool nodes m head frame bad.node bad.why) made (λ bytes. Spells level bytes frame × IsWithin (Some m) bytes)
      → Suits (RefusesFirst level pool nodes m (k + 1) heads frames) others (λ bytes. SpellsFrames level (Some m) bytes frames)
      → Suits (RefusesFirst level pool nodes m k (head ∷ heads) (frame ∷ frames)) (after (at_head k made) others)
      (λ bytes. SpellsFrames level (Some m) bytes (frame ∷ frames))
  unfolding made_frames
  frames_by nodes m k head heads frame frames (Err bad) others is one rest = record {
    heads_before = [];
    head = head;
    heads_after = heads;
    heads_are = refl;
    frames_before = [];
    frame = frame;
    frames_after = frames;
    frames_are = refl;
    index_is = omega arith;
    bytes = [];
    made_is = refl;
    spelled = refl;
    why = one.suits;
  }
  frames_by nodes m k head heads frame frames (Ok x) (Ok y) is one rest = (x, y, refl, one.suits.0, one.suits.1, rest)
  frames_by nodes m k head heads frame frames (Ok x) (Err (failures.Refused index place why)) is one h = record {
    heads_before = head ∷ h.heads_before;
    head = h.head;
    heads_after = h.heads_after;
    heads_are = ap (λ hs. head ∷ hs) h.heads_are;
    frames_before = frame ∷ h.frames_before;
    frame = h.frame;
    frames_after = h.frames_after;
    frames_are = ap (λ fs. frame ∷ fs) h.frames_are;
    index_is = h.index_is ∙ omega arith;
    bytes = x ++ h.bytes;
    made_is = ap₂ (λ a b. after (at_head k a) b) is h.made_is;
    spelled = (x, h.bytes, refl, one.suits.0, one.suits.1, h.spelled);
    why = h.why;
  }
  frames_by nodes m k head heads frame frames (Ok x) (Err (failures.TooSmall needed)) is one rest = rest

  -- the frames that are meant, one after another, or the first that is refused
  pub frames_fit : (nodes : List Node) (m : ℕ) → InOrder level pool nodes → m < 2 ^ 32 → (k : ℕ) (heads : List given.Head) (frames : List Frame)
      → TellFrames pool nodes heads frames
      → Suits (RefusesFirst level pool nodes m k heads frames) (made_frames pool nodes m k heads) (λ bytes. SpellsFrames level (Some m) bytes frames)
  unfolding made_frames
  frames_fit nodes m order few k [] [] h = refl
  frames_fit nodes m order few k (head ∷ heads) (frame ∷ frames) h =
      frames_by nodes m k head heads frame frames (made_frame pool nodes m head) (made_frames pool nodes m (k + 1) heads) refl
      (frame_fits nodes m head frame order few h.0) (frames_fit nodes m order few (k + 1) heads frames h.1)
  frames_fit nodes m order few k heads frames h = absurd h

-- ---- what is made was meant

-- bytes that are given where a refusal names its head are those that were made
pub at_ok : (k : ℕ) (made : Made) (bytes : List ℕ) → at_head k made ≡ Ok bytes → made ≡ Ok bytes
at_ok k (Ok made) bytes h = let same : made ≡ bytes = cc in ap Ok same
at_ok k (Err bad) bytes h = absurd cc

-- what is made around a payload is such a frame
pub around_ok : (m : ℕ) (head : given.Head) (made : Made) {bytes : List ℕ} → made_around m head made ≡ Ok bytes
    → (payload : List ℕ) × (made ≡ Ok payload) × (length payload ≤ m) × (bytes ≡ framed head.frame_type head.channel payload)
around_ok m head (Ok payload) h =
    let found = fails (nat_lt m (length payload)) _ _ _ h in
    (payload, refl, grind (numbers, found.0), ok_is found.1)
around_ok m head (Err bad) h = absurd cc

module _ (pool : List ℕ) where
  -- ---- properties

  -- nodes mean the properties that are set
  abbrev TellSet : ℕ → List Property → List Node → List (Option Item) → Type 0
  TellSet place ps nodes options = (length options ≡ length ps) × AreNodes (TellsField pool) (set_fields place ps options) nodes

  set_told : (end place : ℕ) (ps : List Property) (nodes : List Node) (bytes : List ℕ) → place + length ps < 256
      → made_set pool end place ps nodes ≡ Ok bytes → Told (TellSet place ps nodes) nodes bytes
  unfolding made_set
  set_told end place [] nodes bytes room h =
      let none = none_left pool end nodes h in
      record { thing = []; means = (refl, none); few = none_given pool nodes (length bytes) none }
  set_told end place (p ∷ ps) nodes bytes room h =
      let next : next_place place 1 ≡ place + 1 = byte_below (place + 1) (omega arith) in
      let left = drop (group_size nodes) nodes in
      elim (either (is_next place nodes) _ _ h) [
        | inl on ↦
            let parts = after_ok (made_field pool end place p.form nodes) (made_set pool end (next_place place 1) ps left) on.1 in
            let one = field_told pool end place p.form nodes parts.front parts.first_is in
            let rest = set_told end (place + 1) ps left parts.behind (omega arith) (ap (λ k. made_set pool end k ps left) (sym next) ∙ parts.second_is) in
            record {
              thing = Some one.item ∷ rest.thing;
              means = (ap suc rest.means.0, told_group pool one rest.means.1);
              few = omega arith;
            }
        | inr off ↦
            let rest = set_told end (place + 1) ps nodes bytes (omega arith) (ap (λ k. made_set pool end k ps nodes) (sym next) ∙ off.1) in
            record { thing = None ∷ rest.thing; means = (ap suc rest.means.0, rest.means.1); few = rest.few }
      ]

  properties_told : (end : ℕ) (nodes : List Node) (bytes : List ℕ) → made_properties pool end nodes ≡ Ok bytes → Told (TellSet 0 properties nodes) nodes bytes
  unfolding made_properties
  properties_told end nodes bytes h =
      let parts = after_ok (Ok (number_bytes bytes2 (mask_of properties (set_at 0 properties nodes)))) (made_set pool end 0 properties nodes) h in
      let set = set_told end 0 properties nodes parts.behind (omega (arith, fourteen)) parts.second_is in
      record { thing = set.thing; means = set.means; few = omega arith }

  module _ (nodes : List Node) (head : given.Head) where
    abbrev mine : List Node
    mine = take head.nodes (drop head.first nodes)

    abbrev last : ℕ
    last = head.first + head.nodes

    -- what the head means, with its own nodes
    abbrev Typed : List ℕ → Type 0
    Typed bytes = Told (TellsTyped pool nodes head) mine bytes

    -- what is made of its nodes behind other bytes, where a test holds
    own_parts : (test : Bool) (first : List ℕ) (rest : List Node → Made) {bytes : List ℕ}
        → (if test then made_own (λ own. after (Ok first) (rest own)) (nodes_in nodes head) else misfit_head) ≡ Ok bytes
        → (test ≡ true) × (last ≤ length nodes) × Parts (Ok first) (rest mine) bytes
    own_parts test first rest {bytes} h =
        let make : List Node → Made = λ own. after (Ok first) (rest own) in
        let both = holds test (made_own make (nodes_in nodes head)) _ _ h in
        elim (cases_lt (length nodes) last) [
          | inl beyond ↦ let no : nat_le last (length nodes) ≡ false = grind numbers in absurd (let bad = rw no at both.1 in cc)
          | inr within ↦
              let le : nat_le last (length nodes) ≡ true = grind numbers in
              (both.0, within, after_ok (Ok first) (rest mine) (rw le at both.1))
        ]

    no_ids : has_no_ids head ≡ true → HasNoIds head
    no_ids h = (grind numbers, grind numbers, grind numbers)

    -- ---- payloads

    method_told : (bytes : List ℕ) → head.frame_type ≡ method_byte → made_method pool nodes head ≡ Ok bytes → Typed bytes
    unfolding made_method fields_of
    method_told bytes type h = by (slots_at head.class_id head.method_id) refl h
      where
        by : (found : Option (List Slot)) → slots_at head.class_id head.method_id ≡ found → made_known pool nodes head found ≡ Ok bytes → Typed bytes
        by None at h = absurd cc
        by (Some slots) at h =
            let class = head.class_id in
            let id = head.method_id in
            let made = own_parts (head.body_size == 0) (number_bytes bytes2 class ++ number_bytes bytes2 id) (λ ns. made_slots pool last 0 slots ns) h in
            let told = slots_told pool last 0 slots mine made.2.behind (omega (arith, few_fields class id slots at)) made.2.second_is in
            let kinds : kinds_in slots ≡ kinds_in (unwrap_or (slots_at class id) []) = ap (λ o. kinds_in (unwrap_or o [])) (sym at) in
            record {
              thing = Meth head.channel (method class id told.thing);
              means = (
                type,
                refl,
                refl,
                refl,
                grind (numbers, made.0),
                record { slots = slots; known = at; number = told.means.0 },
                record { within = made.1; fields = subst (λ ks. AreNodes (TellsField pool) (fields_from 0 ks told.thing) mine) kinds told.means.1 },
              );
              few = omega (arith, told.few, made.2.size);
            }

    header_told : (bytes : List ℕ) → head.frame_type ≡ header_byte → made_header pool nodes head ≡ Ok bytes → Typed bytes
    unfolding made_header fields_of
    header_told bytes type h =
        let made = own_parts (head.method_id == 0) (header_front head) (λ ns. made_properties pool last ns) h in
        let told = properties_told last mine made.2.behind made.2.second_is in
        record {
          thing = Head head.channel (header_of_parts (number_item head.class_id ∷ number_item head.body_size ∷ []) told.thing);
          means = (type, refl, refl, grind (numbers, made.0), refl, told.means.0, record { within = made.1; fields = told.means.1 });
          few = omega (arith, told.few, made.2.size);
        }

    no_given : head.nodes ≡ 0 → (bytes : List ℕ) → given_length mine ≤ length bytes
    no_given none bytes = none_given pool mine (length bytes) (ap (λ k. take k (drop head.first nodes)) none)

    body_told : (bytes : List ℕ) → head.frame_type ≡ body_byte → made_body pool head ≡ Ok bytes → Typed bytes
    unfolding made_body
    body_told bytes type h =
        let both = holds (has_no_ids head && (head.nodes == 0)) (made_bytes (span_in pool head.start head.length)) _ _ h in
        let none : head.nodes ≡ 0 = grind numbers in
        elim (cases_lt (length pool) (head.start + head.length)) [
          | inl beyond ↦ let no : nat_le (head.start + head.length) (length pool) ≡ false = grind numbers in absurd (let bad = rw no at both.1 in cc)
          | inr within ↦
              let le : nat_le (head.start + head.length) (length pool) ≡ true = grind numbers in
              let span : IsSpan pool head.start head.length bytes = record { within = within; bytes_are = sym (ok_is (rw le at both.1)) } in
              record { thing = Body head.channel bytes; means = (type, refl, no_ids (grind numbers), none, span); few = no_given none bytes }
        ]

    beat_told : (bytes : List ℕ) → head.frame_type ≡ heartbeat_byte → made_beat head ≡ Ok bytes → Typed bytes
    unfolding made_beat
    beat_told bytes type h =
        let both = holds (has_no_ids head && (head.nodes == 0)) (Ok []) _ _ h in
        let none : head.nodes ≡ 0 = grind numbers in
        by (no_ids (grind numbers)) none head.channel refl
      where
        by : HasNoIds head → head.nodes ≡ 0 → (channel : ℕ) → head.channel ≡ channel → Typed bytes
        by free none zero is = record { thing = Beat; means = (type, is, free, none); few = no_given none bytes }
        by free none (suc k) is = record { thing = BadBeat (suc k); means = (type, is, omega arith, free, none); few = no_given none bytes }

    -- where a payload is made of a head, it means a frame
    pub payload_told : (bytes : List ℕ) → made_payload pool nodes head ≡ Ok bytes → Typed bytes
    unfolding made_payload
    payload_told bytes h = elim (either (head.frame_type == method_byte) _ _ h) [
      | inl one ↦ method_told bytes (grind (numbers, one.0)) one.1
      | inr other ↦ elim (either (head.frame_type == header_byte) _ _ other.1) [
        | inl one ↦ header_told bytes (grind (numbers, one.0)) one.1
        | inr other ↦ elim (either (head.frame_type == body_byte) _ _ other.1) [
          | inl one ↦ body_told bytes (grind (numbers, one.0)) one.1
          | inr other ↦
              let one = holds (head.frame_type == heartbeat_byte) (made_beat head) _ _ other.1 in
              beat_told bytes (grind (numbers, one.0)) one.1
        ]
      ]
    ]

    -- ---- protocol headers

    octet : (node : Node) (inside : List Node) (item : Item) → TellsItem pool 1 node inside item → (n : ℕ) × (item ≡ number_item n)
    octet node inside (number_item n) h = (n, refl)
    octet node inside item h = absurd (omega arith)

    three_told : (items : List Item) (ns : List Node) → length items ≡ 3 → AreNodes (TellsField pool) (fields_from 0 (1 ∷ 1 ∷ 1 ∷ []) items) ns
        → (a : ℕ) × (b : ℕ) × (c : ℕ) × (items ≡ number_item a ∷ number_item b ∷ number_item c ∷ [])
    three_told (a ∷ b ∷ c ∷ []) ns number h =
        let one = octet _ _ a h.means.tells in
        let two = octet _ _ b h.rest.means.tells in
        let three = octet _ _ c h.rest.rest.means.tells in
        (one.0, two.0, three.0, cc (one.1, two.1, three.1))
    three_told items ns number h = absurd (omega arith)

    version_told : (bytes : List ℕ) → head.frame_type ≡ protocol_byte → made_version pool nodes head ≡ Ok bytes
        → (frame : Frame) × TellsTyped pool nodes head frame
    unfolding made_version fields_of
    version_told bytes type h =
        let made =
        own_parts (has_no_ids head && (head.channel == 0)) (protocol_byte ∷ protocol_mark) (λ ns. made_slots pool last 0 version_slots ns) h in
        let told = slots_told pool last 0 version_slots mine made.2.behind (omega arith) made.2.second_is in
        let three = three_told told.thing mine told.means.0 told.means.1 in (
          Proto three.0 three.1 three.2,
          (
            type,
            grind (numbers, made.0),
            no_ids (grind (numbers, made.0)),
            record { within = made.1; fields = subst (λ xs. AreNodes (TellsField pool) (fields_from 0 (kinds_in version_slots) xs) mine) three.3 told.means.1 },
          ),
        )

    -- ---- frames

    typed_told : (m : ℕ) (bytes : List ℕ) → made_typed pool nodes m head ≡ Ok bytes → (frame : Frame) × TellsTyped pool nodes head frame
    unfolding made_typed
    typed_told m bytes h = elim (either (head.frame_type == protocol_byte) _ _ h) [
      | inl version ↦ version_told bytes (grind (numbers, version.0)) version.1
      | inr other ↦
          let around = made_around m head (made_payload pool nodes head) in
          let made = around_ok m head (made_payload pool nodes head) (fails (are_beyond m nodes head) around _ _ other.1).1 in
          let told = payload_told made.0 made.1 in
          (told.thing, told.means)
    ]

    pub frame_told : (m : ℕ) (bytes : List ℕ) → made_frame pool nodes m head ≡ Ok bytes → (frame : Frame) × TellsFrame pool nodes head frame
    unfolding made_frame
    frame_told m bytes h =
        let both = holds (is_held head) (made_typed pool nodes m head) _ _ h in
        let told = typed_told m bytes both.1 in
        (told.0, (both.0, told.1))

  -- heads and nodes of which bytes are made mean frames
  pub frames_told : (nodes : List Node) (m k : ℕ) (heads : List given.Head) (bytes : List ℕ)
      → made_frames pool nodes m k heads ≡ Ok bytes → (frames : List Frame) × TellFrames pool nodes heads frames
  unfolding made_frames
  frames_told nodes m k [] bytes h = ([], tt)
  frames_told nodes m k (head ∷ heads) bytes h =
      let parts = after_ok (at_head k (made_frame pool nodes m head)) (made_frames pool nodes m (k + 1) heads) h in
      let first = frame_told nodes head m parts.front (at_ok k (made_frame pool nodes m head) parts.front parts.first_is) in
      let rest = frames_told nodes m (k + 1) heads parts.behind parts.second_is in
      (first.0 ∷ rest.0, (first.1, rest.1))

-- contents that the nodes of a head have in the pool as bytes are no longer than the payload that is made
pub given_within : (pool : List ℕ) (nodes : List Node) (head : given.Head) (bytes : List ℕ) → made_payload pool nodes head ≡ Ok bytes
    → given_length (take head.nodes (drop head.first nodes)) ≤ length bytes
given_within pool nodes head bytes h = (payload_told pool nodes head bytes h).few
