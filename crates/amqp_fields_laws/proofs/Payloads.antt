-- The payloads of frames that were read, and their properties, are made, and are read again as the same nodes.
use Rattle.amqp_fields_laws.proofs
use Rattle.amqp_types.specs as types
use Rattle.std.proofs.Common.{◌≡◌, ℕ, ◌+◌, ◌<◌, ◌≤◌, Bool, true, false, not, List, [], ◌∷◌, ◌++◌, length, map, drop, None, Ok, refl, sym, ap, ap₂, subst, ◌∙◌}
use Rattle.std.proofs.Common.{append_assoc, arith, ◌^◌, Some, append-nil}
use mathlib.Core.Path.{fun_ext}
use Rattle.std.specs.Prelude.{is_some, Option}
use Rattle.std.proofs.lemmas.Bool.Decides.{nat_tests}
use Rattle.std.proofs.lemmas.List.{drop_at, length-append, length-drop}
use types.Judging.{Judge, Judged, IsBytes, took, unknown_class, unknown_method}
use types.Sequences.{judge_both}
use types.Numbers.{bytes2, judge_number, number_bytes}
use types.Flags.{flag_at}
use types.Slots.{Item, number_item, Slot}
use types.SlotJudging.{judge_form, judge_slots}
use types.Properties.{Property, properties}
use types.PropertyBytes.{mask_of}
use types.PropertyJudging.{first_item, judge_optional, judge_properties, judge_set}
use Rattle.amqp_types.proofs.Numbers.{number_exact}
use Rattle.amqp_types.proofs.Took.{bind_took, count_took, value_took}
use Rattle.amqp_laws.proofs.Masks.{IsMaskOf, flags_mask, flags_mask_is, mask_of-flags, set_flags, set_flags-length}
use Rattle.amqp_fields.specs.declared.node.Node.{Node}
use Rattle.amqp_fields.specs.Listed.{listed_option, listed_properties, listed_set, next_place, listed_header, listed_known, listed_method, listed_payload}
use Rattle.amqp_fields.specs.Listed.{listed_slots, nodes_of, payload_nodes, version_slots}
use Rattle.amqp_fields_write.specs.Made.{after, Made}
use Rattle.amqp_fields_write.specs.MadeFields.{is_next, made_properties, made_set, set_at, made_slots}
use Rattle.amqp_fields_write.proofs.MeantFieldsMade.{IsOne}
use Rattle.amqp_fields_write.proofs.MeantFramesMade.{AreOne, all_one}
use Rattle.amqp_fields.proofs.PayloadsFound.{fourteen, few_spare, front_used, known_took}
use Rattle.amqp_fields.proofs.Spans.{Stands, byte_below, number_took, stands_drop}
use proofs.Fields.{form_round, slots_round}
use proofs.Twins.{IsMade, both_made, none_made, stands_behind, then_took, AreSame}
use types.Rows.{rows_of, slots_at}
use types.Methods.{Method, method, known, judge_in_class, judge_method, judge_payload}
use types.ContentHeaders.{ContentHeader, header_slots, judge_content_header}
use Rattle.amqp_laws.proofs.MethodLaws.{in_table}
use Rattle.amqp_wire.specs.declared.frame_type.AMQPFrameType.{AMQPFrameType}
use Rattle.amqp_wire.specs.declared.frame_type.AMQPFrameType.TheVariants as kinds

-- ---- those that are set in a mask

-- masks that set the same properties list the same
same_set : (deep : Bool) (twin mask : ℕ) (ps : List Property) → set_flags twin ps ≡ set_flags mask ps → (end place : ℕ) (bytes : List ℕ)
    → listed_set twin deep end place ps bytes ≡ listed_set mask deep end place ps bytes
unfolding listed_set
same_set deep twin mask [] flags end place bytes = refl
same_set deep twin mask (p ∷ ps) flags end place bytes =
    let first : flag_at twin p.bit ≡ flag_at mask p.bit = cc in
    let others : set_flags twin ps ≡ set_flags mask ps = cc in
    ap₂ (λ t (list : Judge (List Node)). judge_both (listed_option t deep end place p.form) list (λ x y. x ++ y) bytes) first
    (fun_ext (λ bs. same_set deep twin mask ps others end (next_place place 1) bs))

-- the nodes of properties are at no place before them, and make those that a mask sets
pub record MakesSet (pool : List ℕ) (mask place : ℕ) (ps : List Property) (nodes : List Node) (made : List ℕ) : Type 0 where
  pub later : (before : ℕ) → before < place → is_next before nodes ≡ false
  pub chosen : map is_some (set_at place ps nodes) ≡ set_flags mask ps
  pub is : (end : ℕ) → made_set pool end place ps nodes ≡ Ok made

module _ (pool : List ℕ) (deep : Bool) where
  -- properties are made, and read again
  abbrev pub AreSet : ℕ → ℕ → List Property → ℕ → List ℕ → ℕ → Type 0
  AreSet mask place ps end bytes used =
      IsMade (not deep) pool (MakesSet pool mask place ps) (λ e. listed_set mask deep e place ps) end bytes used

module _ {pool : List ℕ} (fits : IsBytes pool) (deep : Bool) where
  by_flag : (mask place : ℕ) (p : Property) (ps : List Property) (end : ℕ) (bytes : List ℕ) (option : Option Item) (a b : ℕ) → IsOne p.form → place + 1 < 256
      → Stands pool end bytes → (set : Bool) → flag_at mask p.bit ≡ set → judge_optional set p.form bytes ≡ took option a
      → (a ≤ length bytes → AreSet pool deep mask (next_place place 1) ps end (drop a bytes) b)
      → IsMade (not deep) pool (MakesSet pool mask place (p ∷ ps))
      (λ e bs. judge_both (listed_option set deep e place p.form) (listed_set mask deep e (next_place place 1) ps) (λ x y. x ++ y) bs) end bytes (a + b)
  unfolding judge_optional listed_option made_set set_at
  by_flag mask place p ps end bytes option a b one room stands false off h others =
      let none : 0 ≡ a = count_took None option 0 a h in
      let next : next_place place 1 ≡ place + 1 = byte_below (place + 1) room in
      both_made {M = λ ns x. (ns ≡ []) × (x ≡ [])}
      (λ ns ms x y empty rest.
      let not_next : is_next place ms ≡ false = rest.later place (omega arith) in
      rw (empty.0, empty.1)
      (record {
        later = λ before less. rest.later before (omega arith);
        chosen = rw (not_next, off, rest.chosen);
        is = λ e. rw not_next (rest.is e);
      }))
      (none_made none (refl, refl) (λ e bs. refl)) (others (omega arith))
  by_flag mask place p ps end bytes option a b one room stands true on h others =
      let given = bind_took (judge_form p.form bytes) _ option a h in
      let used : given.1 ≡ a = count_took (first_item given.0) option given.1 a given.3 in
      let field = form_round fits deep p.form one place stands (given.2 ∙ ap (took given.0) used) in
      both_made
      (λ ns ms x y one rest.
      let is_first : is_next place (ns ++ ms) ≡ true = one.next place ms ∙ grind (arith, nat_tests) in
      record {
        later = λ before less. one.next before ms ∙ grind (arith, nat_tests);
        chosen = rw (is_first, one.passed ms, on, rest.chosen);
        is = λ e. rw (is_first, one.passed ms, one.is e ms, rest.is e);
      })
      field (others field.bound)

  set_round : (mask : ℕ) (ps : List Property) → AreOne ps → (end place : ℕ) (bytes : List ℕ) (options : List (Option Item)) (n : ℕ) → place + length ps < 256
      → Stands pool end bytes → judge_set mask ps bytes ≡ took options n → AreSet pool deep mask place ps end bytes n
  unfolding judge_set listed_set made_set set_at
  set_round mask [] one end place bytes options n room stands h =
      none_made (count_took [] options 0 n h) (record { later = λ before less. refl; chosen = refl; is = λ e. refl }) (λ e bs. refl)
  set_round mask (p ∷ ps) one end place bytes options n room stands h =
      let set = flag_at mask p.bit in
      let first = bind_took (judge_optional set p.form bytes) _ options n h in
      let two = bind_took (judge_set mask ps (drop first.1 bytes)) _ options n first.3 in
      let used : first.1 + two.1 ≡ n = count_took (first.0 ∷ two.0) options (first.1 + two.1) n two.3 in
      let next : next_place place 1 ≡ place + 1 = byte_below (place + 1) (omega arith) in
      subst (AreSet pool deep mask place (p ∷ ps) end bytes) used
      (by_flag mask place p ps end bytes first.0 first.1 two.1 one.0 (omega arith) stands set refl first.2
      (λ within. set_round mask ps one.1 end (next_place place 1) (drop first.1 bytes) two.0 two.1 (omega arith)
      (stands_drop pool bytes end first.1 stands within) two.2))

  -- ---- the mask and those properties

  -- the properties of a content header that was read
  pub properties_round : (end : ℕ) (bytes : List ℕ) (options : List (Option Item)) (n : ℕ) → Stands pool end bytes → judge_properties bytes ≡ took options n
      → IsMade (not deep) pool (λ nodes made. (at : ℕ) → made_properties pool at nodes ≡ Ok made) (listed_properties deep) end bytes n
  unfolding judge_properties listed_properties made_properties
  properties_round end bytes options n stands h =
      let mask = bind_took (judge_number bytes2 bytes) _ options n h in
      let read = bind_took (judge_set mask.0 properties (drop mask.1 bytes)) _ options n mask.3 in
      let used : mask.1 + read.1 ≡ n = count_took read.0 options (mask.1 + read.1) n read.3 in
      let front = number_took bytes2 bytes mask.0 mask.1 mask.2 in
      let set =
      set_round mask.0 properties all_one end 0 (drop mask.1 bytes) read.0 read.1
      (omega (arith, fourteen)) (stands_drop pool bytes end mask.1 stands front.1) read.2 in
      let flags = set_flags mask.0 properties in
      let twin = mask_of properties (set_at 0 properties set.nodes) in
      let is : IsMaskOf twin flags =
      rw (mask_of-flags properties (set_at 0 properties set.nodes), set.makes.chosen)
      (flags_mask_is flags (set_flags-length mask.0 properties ∙ fourteen)) in
      let number = number_bytes bytes2 twin in
      let size = length-append number set.made in
      record {
        nodes = set.nodes;
        is = then_took _ _ mask.2 (then_took _ _ set.is (ap (took set.nodes) used));
        made = number ++ set.made;
        makes = λ e. ap (after (Ok number)) (set.makes.is e);
        made_size = omega arith;
        bound = omega (arith, length-drop mask.1 bytes);
        again = λ other rest e stands_there.
            let behind = set.made ++ rest in
            let got = (number_exact bytes2).taken number behind twin (record { fits = is.fits; bytes_are = refl }) in
            let again = set.again other rest e (stands_behind number (rw append_assoc at stands_there)) in
            record {
              nodes = again.nodes;
              is =
                  ap (listed_properties deep e) (append_assoc number set.made rest)
                  ∙ then_took _ _ got (then_took _ _ (ap (listed_set twin deep e 0 properties) (drop_at number behind (length number) refl)
                  ∙ same_set deep twin mask.0 properties is.set e 0 behind ∙ again.is) (ap (took again.nodes) (sym size)));
              same = again.same;
            };
      }

-- The nodes of a payload make one that is no longer, whose nodes wherever it stands say the same.
pub record IsPayload (pool : List ℕ) (deep : Bool) (kind : AMQPFrameType) (make : ℕ → List Node → Made) (end : ℕ) (payload : List ℕ) : Type 0 where
  pub made : List ℕ
  pub made_is : (at : ℕ) → make at (payload_nodes kind deep end payload) ≡ Ok made
  pub made_size : length made ≤ length payload
  pub again : (other : List ℕ) (at : ℕ) → Stands other at made
      → AreSame (not deep) pool other (payload_nodes kind deep end payload) (payload_nodes kind deep at made)

module _ {pool : List ℕ} (deep : Bool) {list : ℕ → Judge (List Node)} {make : ℕ → List Node → Made} {end used : ℕ} {bytes : List ℕ}
    (made : IsMade (not deep) pool (λ nodes made. (at : ℕ) → make at nodes ≡ Ok made) list end bytes used) where
  -- what was made says the same behind any bytes that are passed
  same_behind : (kind : AMQPFrameType) (payload front : List ℕ) → payload_nodes kind deep end payload ≡ made.nodes
      → ((at : ℕ) → payload_nodes kind deep at (front ++ made.made) ≡ nodes_of (list at made.made)) → (other : List ℕ) (at : ℕ)
      → Stands other at (front ++ made.made)
      → AreSame (not deep) pool other (payload_nodes kind deep end payload) (payload_nodes kind deep at (front ++ made.made))
  same_behind kind payload front was is other at stands =
      let again = made.again other [] at (rw append-nil (stands_behind front stands)) in
      rw (was, is at, rw append-nil at again.is) again.same

-- ---- methods

-- both ids
abbrev pub ids : ℕ → ℕ → List ℕ
ids class id = number_bytes bytes2 class ++ number_bytes bytes2 id

-- the fields of a method stand behind its ids
fields_listed : (deep : Bool) (class id : ℕ) (slots : List Slot) → slots_at class id ≡ Some slots → class < 2 ^ 16 → id < 2 ^ 16 → (end : ℕ) (fields : List ℕ)
    → listed_method deep end (ids class id ++ fields) ≡ listed_slots deep end 0 slots fields
unfolding listed_method
fields_listed deep class id slots is class_fits id_fits end fields =
    let a = number_bytes bytes2 class in
    let b = number_bytes bytes2 id in
    let first = (number_exact bytes2).taken a (b ++ fields) class (record { fits = class_fits; bytes_are = refl }) in
    let second = (number_exact bytes2).taken b fields id (record { fits = id_fits; bytes_are = refl }) in
    simp (append_assoc a b fields, first, drop_at a (b ++ fields) (length a) refl, second, drop_at b fields (length b) refl, is)

-- a method of the table
pub record IsKnown (pool : List ℕ) (deep : Bool) (m : Method) (end : ℕ) (payload : List ℕ) : Type 0 where
  pub slots : List Slot
  pub known : slots_at m.class m.id ≡ Some slots
  pub round : IsPayload pool deep kinds.Method (λ at nodes. after (Ok (ids m.class m.id)) (made_slots pool at 0 slots nodes)) end payload

three_read : (a b c : ℕ) → judge_slots version_slots (a ∷ b ∷ c ∷ []) ≡ took (number_item a ∷ number_item b ∷ number_item c ∷ []) 3
unfolding judge_slots judge_form
three_read a b c = refl

module _ {pool : List ℕ} (fits : IsBytes pool) (deep : Bool) where
  -- the payload of a method
  pub method_round : (end : ℕ) (payload : List ℕ) (n : ℕ) (m : Method) → Stands pool end payload
      → judge_payload payload ≡ took m n → IsKnown pool deep m end payload
  unfolding judge_payload judge_in_class judge_method listed_method listed_payload
  method_round end payload n m all h =
      let class = bind_took (judge_number bytes2 payload) _ m n h in
      let behind = drop class.1 payload in
      let inner = bind_took (judge_in_class class.0 behind) _ m n class.3 in
      let rows = bind_took (known unknown_class (rows_of class.0)) _ inner.0 inner.1 inner.2 in
      let id = bind_took (judge_number bytes2 behind) _ inner.0 inner.1 rows.3 in
      let fields = drop id.1 behind in
      let of_class = bind_took (judge_method class.0 id.0 fields) _ inner.0 inner.1 id.3 in
      let slots = bind_took (known unknown_method (slots_at class.0 id.0)) _ of_class.0 of_class.1 of_class.2 in
      let items = bind_took (judge_slots slots.0 fields) _ of_class.0 of_class.1 slots.3 in
      let at = (known_took unknown_method (slots_at class.0 id.0) slots.0 slots.1 slots.2).0 in
      let class_size = number_took bytes2 payload class.0 class.1 class.2 in
      let id_size = number_took bytes2 behind id.0 id.1 id.2 in
      let stands = stands_drop pool behind end id.1 (stands_drop pool payload end class.1 all class_size.1) id_size.1 in
      let table = in_table class.0 id.0 slots.0 at in
      let made = slots_round fits deep slots.0 (few_spare class.0 id.0 slots.0 at) table.least 0 stands items.2 in
      let is : method class.0 id.0 items.0 ≡ m =
      value_took (method class.0 id.0 items.0) of_class.0 items.1 of_class.1 items.3
      ∙ value_took of_class.0 inner.0 (id.1 + of_class.1) inner.1 of_class.3 ∙ value_took inner.0 m (class.1 + inner.1) n inner.3 in
      let front = ids class.0 id.0 in
      let sizes = length-append front made.made in
      let two = length-append (number_bytes bytes2 class.0) (number_bytes bytes2 id.0) in
      let was : payload_nodes kinds.Method deep end payload ≡ made.nodes =
      ap nodes_of (then_took _ _ class.2 (then_took _ _ id.2 (ap (λ o. listed_known deep end o fields) at ∙ made.is))) in
      let said : IsKnown pool deep (method class.0 id.0 items.0) end payload = record {
        slots = slots.0;
        known = at;
        round = record {
          made = front ++ made.made;
          made_is = λ e. ap (λ ns. after (Ok front) (made_slots pool e 0 slots.0 ns)) was ∙ ap (after (Ok front)) (made.makes e);
          made_size = omega (arith, made.made_size, made.bound, length-drop class.1 payload, length-drop id.1 behind);
          again = same_behind deep made kinds.Method payload front was
              (λ e. ap nodes_of (fields_listed deep class.0 id.0 slots.0 at table.class_fits table.id_fits e made.made));
        };
      } in
      rw is at said

  -- ---- content headers

  -- the payload of a content header, with any 12 bytes in front
  pub header_round : (front : List ℕ) → length front ≡ 12 → (end : ℕ) (payload : List ℕ) (n : ℕ) (header : ContentHeader) → Stands pool end payload
      → judge_content_header payload ≡ took header n
      → IsPayload pool deep kinds.Header (λ at nodes. after (Ok front) (made_properties pool at nodes)) end payload
  unfolding judge_content_header listed_header listed_payload
  header_round front twelve end payload n header stands h =
      let first = bind_took (judge_slots header_slots payload) _ header n h in
      let parts = front_used payload first.0 first.1 first.2 in
      let behind = drop first.1 payload in
      let set = bind_took (judge_properties behind) _ header n first.3 in
      let made = properties_round fits deep end behind set.0 set.1 (stands_drop pool payload end first.1 stands parts.1) set.2 in
      let size = length-append front made.made in
      let was : payload_nodes kinds.Header deep end payload ≡ made.nodes = rw (← parts.0, made.is) in
      record {
        made = front ++ made.made;
        made_is = λ e. rw (was, made.makes e);
        made_size = omega (arith, length-drop first.1 payload);
        again = same_behind deep made kinds.Header payload front was (λ e. rw (drop_at front made.made 12 twelve));
      }

  -- ---- protocol headers

  -- the three numbers of a protocol header
  pub version_round : (end a b c : ℕ) → Stands pool end (a ∷ b ∷ c ∷ [])
      → IsPayload pool deep kinds.ProtocolHeader (λ at nodes. made_slots pool at 0 version_slots nodes) end (a ∷ b ∷ c ∷ [])
  unfolding listed_payload
  version_round end a b c stands =
      let made = slots_round fits deep version_slots (omega arith) refl 0 stands (three_read a b c) in
      record {
        made = made.made;
        made_is = λ e. rw made.is (made.makes e);
        made_size = made.made_size;
        again = same_behind deep made kinds.ProtocolHeader (a ∷ b ∷ c ∷ []) [] (ap nodes_of made.is) (λ e. refl);
      }
