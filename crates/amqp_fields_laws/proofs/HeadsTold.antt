-- The heads that reading gives mean the frames that were read, and what is written of them encodes these frames.
use Rattle.amqp_types.specs as types
use Rattle.amqp_fields.specs as reading
use Rattle.std.proofs.Common.{◌≡◌, ℕ, suc, ◌+◌, ◌<◌, ◌≤◌, ◌^◌, Bool, List, [], ◌∷◌, ◌++◌, length, take, drop, append_assoc, append-nil, Option, Some, refl, sym}
use Rattle.std.proofs.Common.{ap, subst, ◌∙◌, arith}
use Rattle.std.proofs.lemmas.Bool.Decides.{nat_tests}
use Rattle.std.proofs.lemmas.List.{drop-drop, drop_at, length-append, take_at}
use types.Levels.{plain}
use types.Judging.{IsBytes, took}
use types.Properties.{Property, properties}
use types.PropertySpelling.{SpellsSet}
use types.Slots.{Item, Slot, kept_slot, reserved_slot}
use types.SlotSpelling.{SpellsSlots}
use Rattle.amqp_types.proofs.Bytes.{IsBytes-drop, IsBytes-take}
use Rattle.amqp_wire.specs.declared.frame_type.AMQPFrameType.TheVariants as kinds
use Rattle.amqp_wire.specs.Frames.{Frame, Proto, Meth, Head, Body, Beat, BadBeat, Raw, raw_as}
use Rattle.amqp_wire.specs.Fronts.{front, place}
use Rattle.amqp_wire.specs.Looks.{payload_place}
use Rattle.amqp_wire.specs.HeaderScan.{behind_type, judge_version, scan}
use Rattle.amqp_wire.specs.Outlines.{outline_of}
use Rattle.amqp_wire.specs.Spelling.{IsWithin, Spells, proto}
use Rattle.amqp_wire.proofs.Cuts.{front-got}
use Rattle.amqp_wire.proofs.Encoded.{verdict-spells}
use Rattle.amqp_wire.proofs.HeaderScan.{scan-exact}
use Rattle.amqp_wire.proofs.Outlined.{header_front}
use Rattle.amqp_wire.proofs.Spelled.{scan-beat, scan-body, scan-header, scan-method}
use reading.declared.head.Head as given
use reading.declared.node.Node.{Node}
use reading.Heads.{SayFrames, SaysFrame, head_of}
use reading.Meaning.{AreNodes, AreNodesOf, IsSpan, MeansField, fields_of, kinds_in, kinds_of}
use Rattle.amqp_fields_write.specs.Meant.{IsMethod, TellFrames, TellsField, TellsFields, TellsFrame}
use Rattle.amqp_fields.proofs.Answering.{listed_mean}
use Rattle.amqp_fields.proofs.FramesGiven.{verdict_whole}
use Rattle.amqp_fields_laws.proofs.SameNodes.{form_suits, read_meant}
use Rattle.amqp_wire.specs.Canonical.{canon_frames}
use Rattle.amqp_wire.proofs.Sequences.{sequence_front, sequence_place}
use Rattle.amqp_fields_laws.specs.WrittenAgain.{ReadIsWrittenAgain}
use Rattle.amqp_fields_write.proofs.Ordered.{plain_order}
use Rattle.amqp_fields_write.proofs.Encoding.{made_encodes}

-- ---- how many fields there are

slots_number : (slots : List Slot) (bytes : List ℕ) (given : List Item) → SpellsSlots plain slots bytes given → length given ≡ length (kinds_in slots)
slots_number [] bytes given h = ap length h.1
slots_number (kept_slot form ∷ slots) bytes given h =
    let first = (form_suits form 0 h.front h.one h.first_is).1 in
    let rest = slots_number slots h.behind h.two h.second_is in
    omega (arith, ap length h.joined, length-append h.one h.two, length-append (kinds_of form) (kinds_in slots))
slots_number (reserved_slot form constant ∷ slots) bytes given h =
    let none : given ≡ h.two = h.joined ∙ ap (λ xs. xs ++ h.two) h.first_is.none in
    ap length none ∙ slots_number slots h.behind h.two h.second_is

set_number : (mask : ℕ) (ps : List Property) (bytes : List ℕ) (options : List (Option Item))
    → SpellsSet plain mask ps bytes options → length options ≡ length ps
set_number mask [] bytes options h = ap length h.1
set_number mask (p ∷ ps) bytes options h = ap length h.joined ∙ ap suc (set_number mask ps h.behind h.two h.second_is)

-- ---- one frame

-- a protocol header is found by the header scan
pub scan_version : (m : Option ℕ) (major minor revision : ℕ)
    → scan m (proto major minor revision) ≡ took (raw_as kinds.ProtocolHeader 0 (major ∷ minor ∷ revision ∷ [])) 8
unfolding scan behind_type judge_version
scan_version m major minor revision = refl

module _ (pool : List ℕ) (nodes : List Node) (start first count m : ℕ) (bytes : List ℕ) (raw : Raw) (n : ℕ) (within : IsWithin (Some m) bytes)
    (found : scan (Some m) bytes ≡ took raw n) (span : IsSpan pool start (length raw.payload) raw.payload) where
  raw_is : (other : Raw) (k : ℕ) → scan (Some m) bytes ≡ took other k → raw ≡ other
  raw_is other k is = let same : took raw n ≡ took other k = sym found ∙ is in cc

  abbrev HeadOf : Raw → Frame → given.Head
  HeadOf raw frame = head_of raw (outline_of frame) start first count

  -- the head of a frame that is encoded so
  typed_told : (frame : Frame) → Spells plain bytes frame → (fields_of frame ≡ [] → count ≡ 0) → TellsFields pool nodes first count frame
      → TellsFrame pool nodes (HeadOf raw frame) frame
  unfolding fields_of
  typed_told (Proto major minor revision) s few fields =
      let own = raw_as kinds.ProtocolHeader 0 (major ∷ minor ∷ revision ∷ []) in
      rw (raw_is own 8 (ap (scan (Some m)) s ∙ scan_version (Some m) major minor revision))
      (grind (arith, nat_tests), (refl, refl, (refl, refl, refl), fields))
  typed_told (Meth channel meth) s few fields =
      let own = raw_as kinds.Method channel s.payload in
      let p = s.spelled in
      let method : IsMethod meth = record { slots = p.slots; known = p.known; number = slots_number p.slots p.slot_bytes meth.items p.slots_are } in
      rw (raw_is own _ (scan-method (Some m) bytes channel s.payload s.is_framed within))
      (grind (arith, nat_tests), (refl, refl, refl, refl, refl, method, fields))
  typed_told (Head channel header) s few fields =
      let own = raw_as kinds.Header channel s.payload in
      let parts = header_front s.spelled in
      let class : header.class_id < 2 ^ 16 = subst (λ x. x.class_id < 2 ^ 16) (sym parts.header_is) parts.class_fits in
      let size : header.body_size < 2 ^ 64 = subst (λ x. x.body_size < 2 ^ 64) (sym parts.header_is) parts.size_fits in
      let number : length header.options ≡ length properties =
      ap (λ x. length x.options) parts.header_is
      ∙ set_number s.spelled.second_is.mask properties s.spelled.second_is.behind s.spelled.two s.spelled.second_is.set in
      rw (raw_is own _ (scan-header (Some m) bytes channel s.payload s.is_framed within))
      (grind (arith, nat_tests), (refl, refl, refl, refl, refl, number, fields))
  typed_told (Body channel content) s few fields =
      let own = raw_as kinds.Body channel content in
      let is = raw_is own _ (scan-body (Some m) bytes channel content s within) in
      let stands : IsSpan pool start (length content) content = rw is at span in
      rw is
      (grind (arith, nat_tests), (refl, refl, (refl, refl, refl), few refl, stands))
  typed_told Beat s few fields =
      let own = raw_as kinds.Heartbeat 0 s.payload in
      rw (raw_is own _ (scan-beat (Some m) bytes 0 s.payload s.is_framed within))
      (grind (arith, nat_tests), (refl, refl, (refl, refl, refl), few refl))
  typed_told (BadBeat channel) s few fields =
      let own = raw_as kinds.Heartbeat channel s.1.payload in
      rw (raw_is own _ (scan-beat (Some m) bytes channel s.1.payload s.1.is_framed within))
      (grind (arith, nat_tests), (refl, refl, s.0, (refl, refl, refl), few refl))

-- ---- frames one after another

-- a frame that is encoded, and its nodes
pub record HasNodes (deep : Bool) (bytes : List ℕ) (frame : Frame) (own : List Node) : Type 0 where
  pub encoded : List ℕ
  pub fits : IsBytes encoded
  pub spelled : Spells plain encoded frame
  pub nodes_are : AreNodesOf deep bytes frame own

-- frames, and their nodes
abbrev pub HaveNodes : Bool → List ℕ → List Frame → List Node → Type 0
HaveNodes deep bytes [] own = own ≡ []
HaveNodes deep bytes (frame ∷ frames) own =
    (first : List Node) × (rest : List Node) × (own ≡ first ++ rest) × HasNodes deep bytes frame first × HaveNodes deep bytes frames rest

module _ (m : ℕ) (deep : Bool) (bytes : List ℕ) (fits : IsBytes bytes) where
  module _ (at first size : ℕ) (head : given.Head) (own : List Node) (says : SaysFrame m deep bytes at first head own size) where
    frame_spelled : Spells plain (take size (drop at bytes)) says.frame × IsWithin (Some m) (take size (drop at bytes))
    frame_spelled =
        verdict-spells plain (Some m) (drop at bytes) says.frame size (IsBytes-drop at bytes fits)
        (verdict_whole m (drop at bytes) says.raw size says.frame says.found says.is)

    own_span : IsSpan bytes (at + payload_place says.raw.kind) (length says.raw.payload) says.raw.payload
    own_span = subst (λ (h : given.Head). IsSpan bytes h.start h.length says.raw.payload) says.head_is says.payload_is

    -- the nodes of a head are those of its frame
    frame_nodes : HasNodes deep bytes says.frame own
    frame_nodes = record {
      encoded = take size (drop at bytes);
      fits = IsBytes-take size (drop at bytes) (IsBytes-drop at bytes fits);
      spelled = frame_spelled.0;
      nodes_are = subst (AreNodesOf deep bytes says.frame) (sym says.nodes_are)
          (listed_mean deep bytes says.raw.payload (at + payload_place says.raw.kind) says.raw.kind says.raw.channel says.frame own_span says.is);
    }

  -- a head and its nodes, which stand among others, mean the frame that they say
  pub frame_told : (at first size : ℕ) (head : given.Head) (nodes before own more : List Node) → nodes ≡ before ++ (own ++ more)
      → length before ≡ first → (says : SaysFrame m deep bytes at first head own size) → TellsFrame bytes nodes head says.frame
  frame_told at first size head nodes before own more parts place says =
      let frame = says.frame in
      let left = drop at bytes in
      let spelled = frame_spelled at first size head own says in
      let has = frame_nodes at first size head own says in
      let front_is : scan (Some m) (take size left) ≡ took says.raw size =
      ap (scan (Some m)) (sym (append-nil (take size left))) ∙ scan-exact (Some m) left [] says.raw size says.found in
      let behind : drop first nodes ≡ own ++ more = ap (drop first) parts ∙ drop_at before (own ++ more) first place in
      let taken : take (length own) (drop first nodes) ≡ own = ap (take (length own)) behind ∙ take_at own more (length own) refl in
      let within : first + length own ≤ length nodes = omega (arith, ap length parts, length-append before (own ++ more), length-append own more, place) in
      let means = read_meant deep bytes has.encoded frame own fits has.fits has.spelled has.nodes_are in
      let fields : TellsFields bytes nodes first (length own) frame =
      record { within = within; fields = subst (λ ns. AreNodes (TellsField bytes) (fields_of frame) ns) (sym taken) means } in
      let few : fields_of frame ≡ [] → length own ≡ 0 = λ none. ap length (subst (λ fs. AreNodes (MeansField deep bytes) fs own) none has.nodes_are) in
      subst (λ h. TellsFrame bytes nodes h frame) (sym says.head_is)
      (typed_told bytes nodes (at + payload_place says.raw.kind) first (length own) m (take size left) says.raw size spelled.1 front_is
      (own_span at first size head own says) frame spelled.0 few fields)

  -- the frames from a place on, which are in front of what is left there, and which the heads mean
  pub record ToldFrom (nodes : List Node) (at used : ℕ) (heads : List given.Head) (own : List Node) : Type 0 where
    pub frames : List Frame
    pub count_is : length frames ≡ length heads
    pub sequence : front plain (Some m) (drop at bytes) ≡ frames ++ front plain (Some m) (drop used bytes)
    pub after : place plain (Some m) (drop at bytes) ≡ place plain (Some m) (drop used bytes)
    pub told : TellFrames bytes nodes heads frames
    pub nodes_are : HaveNodes deep bytes frames own

  -- heads that say the frames from a place on mean these frames
  pub heads_told : (nodes : List Node) (at first used : ℕ) (heads : List given.Head) (before own more : List Node)
      → nodes ≡ before ++ (own ++ more) → length before ≡ first → SayFrames m deep bytes at first heads own used → ToldFrom nodes at used heads own
  heads_told nodes at first used [] before own more parts there says =
      record {
        frames = [];
        count_is = refl;
        sequence = ap (λ a. front plain (Some m) (drop a bytes)) says.1;
        after = ap (λ a. place plain (Some m) (drop a bytes)) says.1;
        told = tt;
        nodes_are = says.0;
      }
  heads_told nodes at first used (head ∷ heads) before own more parts there says =
      let one = says.says in
      let next = ap (λ ns. before ++ (ns ++ more)) says.nodes_are in
      let each : nodes ≡ before ++ (says.own ++ (says.others ++ more)) = parts ∙ next ∙ ap (λ ns. before ++ ns) (append_assoc says.own says.others more) in
      let rest =
      heads_told nodes (at + says.size) (first + length says.own) used heads (before ++ says.own) says.others more
      (each ∙ sym (append_assoc before says.own (says.others ++ more))) (length-append before says.own ∙ ap (λ k. k + length says.own) there) says.rest in
      let goes = front-got plain (Some m) (drop at bytes) one.frame says.size (verdict_whole m (drop at bytes) one.raw says.size one.frame one.found one.is) in
      let onward : drop says.size (drop at bytes) ≡ drop (at + says.size) bytes = drop-drop says.size at bytes in
      record {
        frames = one.frame ∷ rest.frames;
        count_is = ap suc rest.count_is;
        sequence = goes.sequence ∙ ap (λ (xs : List ℕ). one.frame ∷ front plain (Some m) xs) onward ∙ ap (λ (fs : List Frame). one.frame ∷ fs) rest.sequence;
        after = goes.after ∙ ap (λ (xs : List ℕ). place plain (Some m) xs) onward ∙ rest.after;
        told = (frame_told at first says.size head nodes before says.own (says.others ++ more) each there one, rest.told);
        nodes_are = (says.own, says.others, says.nodes_are, frame_nodes at first says.size head says.own one, rest.nodes_are);
      }

-- what was read and is written again encodes the frames that were read
pub written_again : ReadIsWrittenAgain
written_again m k deep bytes heads nodes others used made fits few says is =
    let told = heads_told m deep bytes fits (nodes ++ others) 0 0 used heads [] nodes others refl refl says in
    let spelled = made_encodes plain bytes (nodes ++ others) heads k made told.frames fits plain_order few is told.told in
    record {
      read = record { frames = told.frames; count_is = told.count_is; sequence = told.sequence; after = told.after };
      encodes = spelled;
      whole = sequence_place plain (Some k) made told.frames spelled;
      canonical = ap canon_frames (sequence_front plain (Some k) made told.frames spelled);
    }
