-- Heads and nodes that were read make frames, one after another, which are read again as the same.
use Rattle.amqp_fields_laws.proofs
use Rattle.amqp_fields_write.specs as writing
use Rattle.amqp_fields.specs as reading
use Rattle.std.proofs.Common.{◌≡◌, ℕ, suc, ◌+◌, ◌-◌, ◌≤◌, ◌<◌, ◌^◌, nat_le, Bool, true, not, List, [], ◌∷◌, ◌++◌, length, take, drop, Some, None, Result, Ok}
use Rattle.std.proofs.Common.{refl, sym, ap, ap₂, subst, ◌∙◌, append_assoc, arith, if◌then◌else◌}
use Rattle.std.proofs.lemmas.Bool.Decides.{nat_tests}
use Rattle.std.proofs.lemmas.List.{drop-drop, drop_at, length-append, length-take-le, take_all, take_at}
use Rattle.amqp_types.specs.Judging.{IsBytes, took}
use Rattle.amqp_types.specs.Levels.{plain}
use Rattle.amqp_types.proofs.Bytes.{IsBytes-drop}
use Rattle.amqp_wire.specs.declared.frame_type.AMQPFrameType.{AMQPFrameType}
use Rattle.amqp_wire.specs.declared.frame_type.AMQPFrameType.TheVariants as kinds
use Rattle.amqp_wire.specs.Frames.{Frame, length_around, raw_as}
use Rattle.amqp_wire.specs.Looks.{payload_place}
use Rattle.amqp_wire.specs.HeaderScan.{scan}
use Rattle.amqp_wire.specs.Outlines.{outline_of}
use Rattle.amqp_wire.specs.Spelling.{IsWithin, Spells, byte_of, bytes_as}
use Rattle.amqp_wire.proofs.Encoded.{scan-beside, verdict-spells}
use Rattle.amqp_wire.proofs.HeaderScan.{scan-exact, scan-in_bounds}
use Rattle.amqp_wire.proofs.Spelled.{verdict-spelled}
use reading.declared.head.Head as given
use reading.declared.node.Node.{Node}
use writing.declared.refusals.WriteError.{WriteError}
use reading.Heads.{SayFrames, SaysFrame, head_of, nodes_at}
use reading.Listed.{payload_nodes}
use writing.Made.{after, misfit_head}
use writing.MadeFrames.{at_head, made_frame, made_frames, made_typed, nodes_in}
use reading.Meaning.{IsSpan}
use writing.Meant.{TellsFrame}
use Rattle.amqp_fields.proofs.FramesGiven.{verdict_whole}
use proofs.HeadsTold.{frame_told}
use proofs.SameNodes.{each_length}
use Rattle.amqp_fields_write.proofs.MeantFramesMade.{frame_fits}
use Rattle.amqp_fields_write.proofs.Ordered.{plain_order}
use Rattle.amqp_fields.proofs.Spans.{Stands}
use Rattle.amqp_fields.proofs.Answering.{span_stands}
use Rattle.amqp_fields_laws.specs.RoundTrips.{IsReadAgain, IsSameHead, SameHeads, ReadAgainHasSameNodes, ReadIsAccepted}
use proofs.Frames.{head_as, frame_round, around_fits, body_kind, made_as, made_frame_is, scan_made, spelled_few, version_size, version_told, whole_is}
use proofs.Twins.{AreSame, both_same, none_same}

-- ---- one frame

module _ (m : ℕ) (deep : Bool) (pool : List ℕ) (fits : IsBytes pool) (nodes : List Node) where
  -- bytes that were made are read as a frame, behind other bytes and in front of others, with the same nodes
  pub record IsAgain (k : ℕ) (head : given.Head) (own : List Node) (made before rest : List ℕ) (place : ℕ) : Type 0 where
    pub twin : given.Head
    pub others : List Node
    pub says : SaysFrame k deep (before ++ (made ++ rest)) (length before) place twin others (length made)
    pub head_same : IsSameHead pool (before ++ (made ++ rest)) head twin
    pub same : AreSame (not deep) pool (before ++ (made ++ rest)) own others

  -- A head makes a frame at each limit from that of reading on, of no more bytes than were read, and it is read again.
  pub record IsRead (head : given.Head) (own : List Node) (size : ℕ) : Type 0 where
    pub made : List ℕ
    pub made_is : (k : ℕ) → m ≤ k → made_frame pool nodes k head ≡ Ok made
    pub made_size : length made ≤ size
    pub again : (k : ℕ) → m ≤ k → (before rest : List ℕ) (place : ℕ) → IsAgain k head own made before rest place

  -- a frame that was made is read again, wherever it stands
  frame_again : (k : ℕ) (kind : AMQPFrameType) (channel : ℕ) (payload : List ℕ) (frame : Frame) (own : List Node)
      → (read : List ℕ) (begin first : ℕ) → IsSpan pool begin (length read) read → (kind ≡ kinds.Body → payload ≡ read) → channel < 2 ^ 16
      → Spells plain (bytes_as kind channel payload) frame → IsWithin (Some k) (bytes_as kind channel payload)
      → length (bytes_as kind channel payload) < 2 ^ 32 + 8
      → (kind ≡ kinds.ProtocolHeader → (channel ≡ 0) × (length payload ≡ 3))
      → ((other : List ℕ) (end : ℕ) → Stands other end payload → AreSame (not deep) pool other own (payload_nodes kind deep end payload))
      → (before rest : List ℕ) (place : ℕ)
      → IsAgain k (head_of (raw_as kind channel read) (outline_of frame) begin first (length own)) own (bytes_as kind channel payload) before rest place
  frame_again k kind channel payload frame own read begin first read_span body on spelled within few version again before rest place =
      let made = bytes_as kind channel payload in
      let whole_bytes = before ++ (made ++ rest) in
      let at = length before in
      let raw = raw_as kind channel payload in
      let start = at + payload_place kind in
      let frame_is = made_frame_is kind channel payload rest in
      let found = scan_made k kind channel payload on (frame_is.few few (λ is. (version is).1)) within version in
      let behind : drop at whole_bytes ≡ made ++ rest = drop_at before (made ++ rest) at refl in
      let front_is : scan (Some k) (made ++ rest) ≡ took raw (length made) =
      ap (λ bs. scan (Some k) (bs ++ rest)) (sym (take_all (length made) made (omega arith))) ∙ scan-exact (Some k) made rest raw (length made) found in
      let span : IsSpan whole_bytes start (length payload) payload = record {
        within = omega (arith, length-append before (made ++ rest), length-append made rest);
        bytes_are =
            ap (take (length payload)) (sym (drop-drop (payload_place kind) at whole_bytes))
            ∙ ap (λ bs. take (length payload) (drop (payload_place kind) bs)) behind ∙ frame_is.there;
      } in
      let others = nodes_at raw deep start in
      let same = again whole_bytes (start + length payload) (span_stands whole_bytes payload start span) in
      record {
        twin = head_of raw (outline_of frame) start place (length others);
        others = others;
        says = record {
          raw = raw;
          frame = frame;
          found = ap (scan (Some k)) behind ∙ front_is;
          is = whole_is k made raw (length made) frame found (verdict-spelled plain (Some k) made frame spelled within);
          payload_is = span;
          head_is = refl;
          nodes_are = refl;
        };
        head_same = record {
          type_is = refl;
          channel_is = refl;
          class_is = refl;
          method_is = refl;
          body_size_is = refl;
          nodes_are = each_length _ own others same.same;
          body_is = λ is.
              let content : payload ≡ read = body (body_kind kind is) in
              (sym (ap length content), read_span.bytes_are ∙ sym content ∙ sym span.bytes_are);
        };
        same = same;
      }

  read_frame : (at first size : ℕ) (head : given.Head) (before own more : List Node) → nodes ≡ before ++ (own ++ more)
      → length before ≡ first → (says : SaysFrame m deep pool at first head own size) → IsRead head own size
  unfolding made_frame
  read_frame at first size head before own more parts there says =
      let raw = says.raw in
      let frame = says.frame in
      let kind = raw.kind in
      let channel = raw.channel in
      let payload = raw.payload in
      let left = drop at pool in
      let start = at + payload_place kind in
      let bounds = scan-in_bounds (Some m) left raw size says.found in
      let limit : size ≤ m + 8 = bounds.limit m refl in
      let around : length_around kind (length payload) ≤ size =
      around_fits kind (length payload) size bounds.least (λ other. scan-beside (Some m) left raw size says.found other) in
      let spelled = verdict-spells plain (Some m) left frame size (IsBytes-drop at pool fits) (verdict_whole m left raw size frame says.found says.is) in
      let few : size < 2 ^ 32 + 8 =
      omega (arith, spelled_few frame (take size left) spelled.0, length-take-le size left bounds.within) in
      let own_head = head_as start first channel own kind payload frame in
      let told = frame_told m deep pool fits at first size head nodes before own more parts there says in
      let told_own : TellsFrame pool nodes own_head frame = subst (λ h. TellsFrame pool nodes h frame) says.head_is told in
      let span : IsSpan pool start (length payload) payload = subst (λ (h : given.Head). IsSpan pool h.start h.length payload) says.head_is says.payload_is in
      let within : first + length own ≤ length nodes =
      omega (arith, ap length parts, length-append before (own ++ more), length-append own more) in
      let le : nat_le (first + length own) (length nodes) ≡ true = grind (arith, nat_tests) in
      let behind : drop first nodes ≡ own ++ more = ap (drop first) parts ∙ drop_at before (own ++ more) first there in
      let own_nodes : nodes_in nodes own_head ≡ Some own =
      ap (λ test. if test then Some (take (length own) (drop first nodes)) else None) le
      ∙ ap Some (ap (take (length own)) behind ∙ take_at own more (length own) refl) in
      let is_version = λ (version : kind ≡ kinds.ProtocolHeader). version_told pool nodes own_head frame (ap byte_of version) told_own.1 in
      let free : kind ≡ kinds.ProtocolHeader → channel ≡ 0 = λ version. (is_version version).0 in
      let round = frame_round fits deep nodes start first channel own kind payload frame free span says.is says.nodes_are own_nodes in
      let made = bytes_as kind channel round.made in
      let own_made : (k : ℕ) → size ≤ k + 8 → made_frame pool nodes k own_head ≡ Ok made =
      λ k enough. ap (λ test. if test then made_typed pool nodes k own_head else misfit_head) told_own.0 ∙ round.typed_is k (omega arith) in
      let enough : size ≤ size - 8 + 8 = omega arith in
      let encoded =
      made_as (made_frame pool nodes (size - 8) own_head) made (own_made (size - 8) enough)
      (frame_fits plain pool fits nodes (size - 8) own_head frame plain_order (omega arith) told_own) in
      let on : channel < 2 ^ 16 = let held = told_own.0 in grind (arith, nat_tests) in
      let made_size : length made ≤ size = omega arith in
      let own_read : IsRead own_head own size = record {
        made = made;
        made_is = λ k le. own_made k (omega arith);
        made_size = made_size;
        again = λ k le front rest place.
            frame_again k kind channel round.made frame own payload start first span round.body on encoded.0
            (omega (arith, made_size)) (omega (arith, made_size))
            (λ version. (free version, version_size kind channel round.made version ((is_version version).1 made encoded.0))) round.again
            front rest place;
      } in
      subst (λ h. IsRead h own size) (sym says.head_is) own_read

  -- ---- frames one after another

  -- heads and nodes that were read again
  pub record AreAgain (k : ℕ) (heads : List given.Head) (own : List Node) (made before : List ℕ) (place : ℕ) : Type 0 where
    pub twins : List given.Head
    pub others : List Node
    pub says : SayFrames k deep (before ++ made) (length before) place twins others (length before + length made)
    pub count_is : length twins ≡ length heads
    pub heads_same : SameHeads pool (before ++ made) heads twins
    pub same : AreSame (not deep) pool (before ++ made) own others

  -- heads make frames that are read again
  pub record AreRead (heads : List given.Head) (own : List Node) (at used : ℕ) : Type 0 where
    pub made : List ℕ
    pub made_is : (k index : ℕ) → m ≤ k → made_frames pool nodes k index heads ≡ Ok made
    pub made_size : at + length made ≤ used
    pub again : (k : ℕ) → m ≤ k → (before : List ℕ) (place : ℕ) → AreAgain k heads own made before place

  one_more : (head : given.Head) (heads : List given.Head) (own others : List Node) (at size used : ℕ) → IsRead head own size
      → AreRead heads others (at + size) used → AreRead (head ∷ heads) (own ++ others) at used
  unfolding made_frames
  one_more head heads own others at size used one rest =
      let made = one.made ++ rest.made in
      let sizes = length-append one.made rest.made in
      record {
        made = made;
        made_is = λ k index le. ap₂ (λ a b. after (at_head index a) b) (one.made_is k le) (rest.made_is k (index + 1) le);
        made_size = omega arith;
        again = λ k le before place.
            let first = one.again k le before rest.made place in
            let next = rest.again k le (before ++ one.made) (place + length first.others) in
            let parts : (before ++ one.made) ++ rest.made ≡ before ++ made = append_assoc before one.made rest.made in
            let there : length (before ++ one.made) ≡ length before + length one.made = length-append before one.made in
            let end : length (before ++ one.made) + length rest.made ≡ length before + length made = omega arith in
            record {
              twins = first.twin ∷ next.twins;
              others = first.others ++ next.others;
              says = record {
                own = first.others;
                others = next.others;
                size = length one.made;
                nodes_are = refl;
                says = first.says;
                rest = rw (parts, end, there) at next.says;
              };
              count_is = ap suc next.count_is;
              heads_same = (first.head_same, rw parts at next.heads_same);
              same = both_same first.same (rw parts at next.same);
            };
      }

  heads_read : (at first used : ℕ) (heads : List given.Head) (before own more : List Node) → nodes ≡ before ++ (own ++ more)
      → length before ≡ first → SayFrames m deep pool at first heads own used → AreRead heads own at used
  unfolding made_frames
  heads_read at first used [] before own more parts there says =
      let none : AreRead [] [] at used = record {
        made = [];
        made_is = λ k index le. refl;
        made_size = omega (arith, says.1);
        again = λ k le front place.
            record { twins = []; others = []; says = (refl, omega arith); count_is = refl; heads_same = tt; same = none_same };
      } in
      subst (λ ns. AreRead [] ns at used) (sym says.0) none
  heads_read at first used (head ∷ heads) before own more parts there says =
      let each : nodes ≡ before ++ (says.own ++ (says.others ++ more)) =
      parts ∙ ap (λ ns. before ++ (ns ++ more)) says.nodes_are ∙ ap (λ ns. before ++ ns) (append_assoc says.own says.others more) in
      let one = read_frame at first says.size head before says.own (says.others ++ more) each there says.says in
      let rest =
      heads_read (at + says.size) (first + length says.own) used heads (before ++ says.own) says.others more
      (each ∙ sym (append_assoc before says.own (says.others ++ more))) (length-append before says.own ∙ ap (λ n. n + length says.own) there) says.rest in
      subst (λ ns. AreRead (head ∷ heads) ns at used) (sym says.nodes_are) (one_more head heads says.own says.others at says.size used one rest)

-- ---- the laws

-- what was read is accepted
pub accepted : ReadIsAccepted
accepted m k deep bytes heads nodes others used fits le says =
    let read = heads_read m deep bytes fits (nodes ++ others) 0 0 used heads [] nodes others refl refl says in
    record { made = read.made; is = read.made_is k 0 le; few = omega arith }

same_made : (a b : List ℕ) (r : Result (List ℕ) WriteError) → r ≡ Ok a → r ≡ Ok b → a ≡ b
same_made a b r one two = let same : ◌≡◌ {A = Result (List ℕ) WriteError} (Ok a) (Ok b) = sym one ∙ two in cc

-- and is read again as the same nodes
pub read_again : ReadAgainHasSameNodes
read_again m k deep bytes heads nodes others used made fits le says is =
    let read = heads_read m deep bytes fits (nodes ++ others) 0 0 used heads [] nodes others refl refl says in
    let same = same_made read.made made (made_frames bytes (nodes ++ others) k 0 heads) (read.made_is k 0 le) is in
    let again = read.again k le [] 0 in
    let all : SayFrames k deep read.made 0 0 again.twins again.others (length read.made) =
    subst (λ e. SayFrames k deep read.made 0 0 again.twins again.others e) {x = 0 + length read.made} {y = length read.made} (omega arith) again.says in
    subst (λ bs. IsReadAgain k deep bytes bs heads nodes) same
    (record {
      again = again.twins;
      more = again.others;
      says = all;
      count_is = again.count_is;
      heads_same = again.heads_same;
      same = again.same.same;
      spans = λ alone. again.same.spans (ap not alone);
    })
