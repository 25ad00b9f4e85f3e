-- The frames that are read, one after another, with their heads and nodes.
use Rattle.std.proofs.Common.{drop-drop, length-append, length-drop, length-set, length-take, length-take-le, ◌≡◌, ℕ, suc, ◌+◌, ◌*◌, ◌-◌, ◌<◌, ◌≤◌, ◌^◌, Bool}
use Rattle.std.proofs.Common.{List, [], ◌∷◌, ◌++◌, length, take, drop, set, append_assoc, append-nil, Some, Ok, refl, sym, ap, ap₂, subst, subst₂, ◌∙◌, arith}
use Rattle.amqp_fields.proofs.Names.{take_more_set, Judged, took, ParserError, Frame, Raw, outline_of, Node, FramesRead, listing, pushed_all, IsSpan, nodes_of}
use Rattle.amqp_fields.proofs.Names.{payload_nodes}
use Rattle.amqp_types.specs.Answers.{RefusesWhole}
use Rattle.amqp_types.specs.Levels.{plain}
use Rattle.amqp_types.specs.declared.errors.ParserError.TheVariants as errors
use Rattle.amqp_wire.specs.declared.looking.FrameLayout.{FrameLayout}
use Rattle.amqp_wire.specs.Judgements.{IsPayloadFault}
use Rattle.amqp_wire.specs.Looks.{laid_out, payload_place}
use Rattle.amqp_wire.specs.HeaderScan.{scan}
use Rattle.amqp_wire.specs.Verdicts.{is_at, judge_scanned, judge_decoded, judge_frame, decode_raw}
use Rattle.amqp_wire.specs.Fronts.{front, place}
use Rattle.amqp_wire.proofs.Cuts.{front-got}
use Rattle.amqp_wire.proofs.HeaderScan.{scan-in_bounds}
use Rattle.amqp_fields.specs.declared.head.Head.{Head}
use Rattle.amqp_fields.specs.Frames.{HasNoRoom, ReadsFrames, SaysFault, in_reach}
use Rattle.amqp_fields.specs.Framing.{IsFound, IsNextFrame, IsRead}
use Rattle.amqp_fields.specs.Heads.{SayFrames, SaysFrame, head_of, nodes_at}
use Rattle.amqp_fields.specs.Laws.{AreInFront}
use Rattle.amqp_fields.proofs.Answering.{pushed_front, pushed_keeps, pushed_length, put_all, whole_found}
use Rattle.amqp_fields.proofs.Spans.{Stands, itself, stands_part}

-- ---- the next frame

-- a whole frame around a payload that encodes one is taken by the verdict
pub verdict_whole : (m : ℕ) (left : List ℕ) (raw : Raw) (size : ℕ) (frame : Frame)
    → scan (Some m) left ≡ took raw size → decode_raw raw ≡ Ok frame → judge_frame plain (Some m) left ≡ took frame size
unfolding judge_frame
verdict_whole m left raw size frame found is = ap (judge_scanned plain) found ∙ ap (λ r. judge_decoded (is_at plain raw) r size) is

next_laid : (m : ℕ) (deep : Bool) (bytes : List ℕ) (used : ℕ) (old new : List Node) (first : ℕ) (layout : FrameLayout) (head : Head)
    → length bytes < 2 ^ 32 → used ≤ length bytes → first ≤ used → IsFound m (drop used bytes) layout
    → IsRead (laid_out layout (drop used bytes)) (used + layout.payload_start) deep old first new head
    → IsNextFrame m deep bytes used old first new layout.frame_len head
next_laid m deep bytes used old new first layout head few within counted found read =
    let raw = laid_out layout (drop used bytes) in
    let payload = raw.payload in
    let start = used + layout.payload_start in
    let left = length-drop used bytes in
    let inside : start + layout.payload_len ≤ length bytes = omega (arith, within) in
    let size : length payload ≡ layout.payload_len =
    length-take-le layout.payload_len (drop layout.payload_start (drop used bytes))
    (omega (arith, within, length-drop layout.payload_start (drop used bytes))) in
    let end : length bytes - length (drop (start + layout.payload_len) bytes) ≡ start + length payload =
    omega (arith, inside, length-drop (start + layout.payload_len) bytes) in
    let P : ℕ → List ℕ → Type 0 = λ e xs. Stands bytes e (take layout.payload_len xs) in
    let stands : Stands bytes (start + length payload) payload =
    subst₂ P end (sym (drop-drop layout.payload_start used bytes)) (stands_part bytes bytes (length bytes) start layout.payload_len (itself bytes) inside) in
    let span : IsSpan bytes start (length payload) payload = record {
      within = stands.within;
      bytes_are = ap (λ s. take (length payload) (drop s bytes)) {x = start} {y = start + length payload - length payload} (omega arith) ∙ stands.is;
    } in
    let all = whole_found deep bytes (start + length payload) raw.kind payload raw.channel read.frame stands read.is in
    let put =
    put_all raw.kind bytes (start + length payload) payload deep read.frame old new first read.count all (omega (arith, few)) read.counts in
    let begins : start ≡ used + payload_place raw.kind = ap (λ k. used + k) found.placed.0 in
    let bounds = scan-in_bounds (Some m) (drop used bytes) raw layout.frame_len found.found in
    let own = payload_nodes raw.kind deep (start + length payload) payload in
    let many : read.count - first ≡ length own = omega arith in
    let own_few : length own ≤ length payload = subst (λ (ns : List Node). length ns ≤ length payload) (sym (ap nodes_of all.2)) all.3.nodes_are.few in
    record {
      own = own;
      says = record {
        raw = raw;
        frame = read.frame;
        found = found.found;
        is = read.is;
        payload_is = subst (λ (h : Head). IsSpan bytes h.start h.length payload) (sym read.head_is) span;
        head_is = read.head_is ∙ ap₂ (λ s n. head_of raw (outline_of read.frame) s first n) begins many;
        nodes_are = ap (nodes_at raw deep) begins;
      };
      list_is = put.list_is;
      few = omega arith;
      within = omega (arith, within);
      some = bounds.least;
    }

-- what was read of the frame at a place is its head and its nodes
pub next_frame : (m : ℕ) (deep : Bool) (bytes : List ℕ) (used start : ℕ) (old new : List Node) (first : ℕ) (layout : FrameLayout) (raw : Raw) (head : Head)
    → length bytes < 2 ^ 32 → used ≤ length bytes → first ≤ used → IsFound m (drop used bytes) layout → raw ≡ laid_out layout (drop used bytes)
    → start ≡ used + layout.payload_start → IsRead raw start deep old first new head → IsNextFrame m deep bytes used old first new layout.frame_len head
next_frame m deep bytes used start old new first layout raw head few within counted found is place read =
    next_laid m deep bytes used old new first layout head few within counted found (rw (is, place) at read)

faulty : (error : ParserError) (j : Judged Raw) (raw : Raw) (size : ℕ) → j ≡ took raw size
    → IsPayloadFault error → RefusesWhole error (decode_raw raw) → SaysFault error (judge_scanned plain j)
faulty errors.Incomplete j raw size e may h = absurd h
faulty errors.NoMemory j raw size e may h = absurd (may.1 refl)
faulty error j raw size e may h = ap (judge_scanned plain) e ∙ ap (λ r. judge_decoded (is_at plain raw) r size) h

-- a fault of a payload is that of its frame
pub payload_fault : (m : ℕ) (left : List ℕ) (layout : FrameLayout) (raw : Raw) (error : ParserError) → IsFound m left layout
    → raw ≡ laid_out layout left → IsPayloadFault error → RefusesWhole error (decode_raw raw) → SaysFault error (judge_frame plain (Some m) left)
unfolding judge_frame
payload_fault m left layout raw error found is may h =
    faulty error (scan (Some m) left) raw layout.frame_len (found.found ∙ ap (λ (r : Raw). took r layout.frame_len) (sym is)) may h

-- ---- frames one after another

one_more : (m : ℕ) (deep : Bool) (bytes : List ℕ) (at first end size : ℕ) (heads : List Head) (nodes own : List Node) (head : Head)
    → SayFrames m deep bytes at first heads nodes end → SaysFrame m deep bytes end (first + length nodes) head own size
    → SayFrames m deep bytes at first (heads ++ head ∷ []) (nodes ++ own) (end + size)
one_more m deep bytes at first end size [] nodes own head h says =
    let place : first + length nodes ≡ first = omega (arith, ap length h.0) in
    record {
      own = own;
      others = [];
      size = size;
      nodes_are = ap (λ (ns : List Node). ns ++ own) h.0 ∙ sym (append-nil own);
      says = rw (place, ← h.1) at says;
      rest = (refl, ap (λ a. a + size) h.1);
    }
one_more m deep bytes at first end size (one ∷ heads) nodes own head h says =
    let place : first + length nodes ≡ first + length h.own + length h.others = omega (arith, ap length h.nodes_are, length-append h.own h.others) in
    record {
      own = h.own;
      others = h.others ++ own;
      size = h.size;
      nodes_are = ap (λ (ns : List Node). ns ++ own) h.nodes_are ∙ append_assoc h.own h.others own;
      says = h.says;
      rest = one_more m deep bytes (at + h.size) (first + length h.own) end size heads h.others own head h.rest (rw place at says);
    }

-- so many heads and nodes in front of their lists say the frames in front
pub record Going (m : ℕ) (deep : Bool) (bytes : List ℕ) (heads : List Head) (nodes : List Node) (used count total : ℕ) : Type 0 where
  pub heads_fit : count ≤ length heads
  pub nodes_fit : total ≤ length nodes
  pub within : used ≤ length bytes
  pub few : total ≤ used
  pub few_heads : 8 * count ≤ used
  pub frames : SayFrames m deep bytes 0 0 (take count heads) (take total nodes) used

module _ {m : ℕ} {deep : Bool} {bytes : List ℕ} {heads : List Head} {nodes new : List Node} {used count total size : ℕ} {head : Head}
    (g : Going m deep bytes heads nodes used count total) (next : IsNextFrame m deep bytes used nodes total new size head) where
  pub next_length : length new ≡ length nodes
  next_length = ap length next.list_is ∙ pushed_length (listing nodes total) next.own

  pub next_nodes : head.nodes ≡ length next.own
  next_nodes = ap (λ (h : Head). h.nodes) next.says.head_is

  -- the sums fit their numbers
  pub next_few : total + head.nodes ≤ used + size
  next_few = omega (arith, next_nodes)

  -- a head and its nodes are added, where both lists have room
  pub going_on : count < length heads → total + head.nodes ≤ length new
      → Going m deep bytes (set heads count head) new (used + size) (count + 1) (total + head.nodes)
  going_on room fits =
      let front : take (total + length next.own) (pushed_all (listing nodes total) next.own).nodes ≡ take total nodes ++ next.own =
      pushed_front nodes total next.own (omega (arith, next_length, next_nodes)) in
      let own : take total nodes ++ next.own ≡ take (total + head.nodes) new =
      sym front
      ∙ ap (λ n. take n (pushed_all (listing nodes total) next.own).nodes) {x = total + length next.own} {y = total + head.nodes} (omega (arith, next_nodes))
      ∙ ap (take (total + head.nodes)) (sym next.list_is) in
      let before : length (take total nodes) ≡ total = length-take-le total nodes g.nodes_fit in
      let Q : ℕ → Type 0 = λ f. SaysFrame m deep bytes used f head next.own size in
      let says : SaysFrame m deep bytes used (0 + length (take total nodes)) head next.own size =
      subst Q {x = total} {y = 0 + length (take total nodes)} (omega arith) next.says in
      let more = one_more m deep bytes 0 0 used size (take count heads) (take total nodes) next.own head g.frames says in
      record {
        heads_fit = omega (arith, length-set heads count head);
        nodes_fit = fits;
        within = next.within;
        few = next_few;
        few_heads = omega arith;
        frames = rw (take_more_set heads count head room, ← own) more;
      }

  -- what was put behind the nodes that are given changes none of them
  pub going_stays : Going m deep bytes heads new used count total
  going_stays =
      let same : take total nodes ≡ take total new =
      sym (pushed_keeps (listing nodes total) total next.own (omega arith)) ∙ ap (take total) (sym next.list_is) in
      record {
        heads_fit = g.heads_fit;
        nodes_fit = omega (arith, next_length);
        within = g.within;
        few = g.few;
        few_heads = g.few_heads;
        frames = subst (λ (ns : List Node). SayFrames m deep bytes 0 0 (take count heads) ns used) same g.frames;
      }

  -- where a list has no room, the nodes of the next frame are as many as is said
  pub going_full : (read : FramesRead) (head_room node_room needed : ℕ) → read.used ≡ used → needed ≡ head.nodes
      → (read.heads < head_room → node_room < read.nodes + needed) → HasNoRoom m deep bytes read head_room node_room needed
  going_full read head_room node_room needed at is no_room =
      let says = next.says in
      record {
        raw = says.raw;
        frame = says.frame;
        size = size;
        found = ap (λ u. scan (Some m) (drop u bytes)) at ∙ says.found;
        is = says.is;
        needed_is =
            is ∙ next_nodes ∙ ap length says.nodes_are
            ∙ ap (λ u. length (nodes_at says.raw deep (u + payload_place says.raw.kind))) (sym at);
        few = omega (arith, next_nodes);
        no_room = no_room;
      }

-- ---- what is returned

-- what was gone through is what is given
pub going_given : (m : ℕ) (deep : Bool) (bytes : List ℕ) (heads : List Head) (nodes : List Node) (read : FramesRead)
    → Going m deep (in_reach bytes) heads nodes read.used read.heads read.nodes → ReadsFrames m deep bytes heads nodes read
going_given m deep bytes heads nodes read g =
    record { heads_fit = g.heads_fit; nodes_fit = g.nodes_fit; frames = g.frames; within = g.within; few_heads = g.few_heads; few_nodes = g.few }

-- where no bytes are left, all were read
pub all_read : (bytes : List ℕ) (used : ℕ) → length bytes ≤ used → used ≤ length (in_reach bytes) → used ≡ length bytes
all_read bytes used all within = omega (arith, within, length-take 4294967295 bytes)

-- ---- the front of the bytes

module _ (m : ℕ) (deep : Bool) (bytes : List ℕ) where
  front_from : (at first used : ℕ) (heads : List Head) (nodes : List Node) → SayFrames m deep bytes at first heads nodes used
      → (frames : List Frame) × (length frames ≡ length heads) × (front plain (Some m) (drop at bytes) ≡ frames ++ front plain (Some m) (drop used bytes))
      × (place plain (Some m) (drop at bytes) ≡ place plain (Some m) (drop used bytes))
  front_from at first used [] nodes h = ([], refl, ap (λ a. front plain (Some m) (drop a bytes)) h.1, ap (λ a. place plain (Some m) (drop a bytes)) h.1)
  front_from at first used (head ∷ heads) nodes h =
      let says = h.says in
      let others = front_from (at + h.size) (first + length h.own) used heads h.others h.rest in
      let goes = front-got plain (Some m) (drop at bytes) says.frame h.size (verdict_whole m (drop at bytes) says.raw h.size says.frame says.found says.is) in
      let next : drop h.size (drop at bytes) ≡ drop (at + h.size) bytes = drop-drop h.size at bytes in (
        says.frame ∷ others.0,
        ap suc others.1,
        goes.sequence ∙ ap (λ (xs : List ℕ). says.frame ∷ front plain (Some m) xs) next ∙ ap (λ (fs : List Frame). says.frame ∷ fs) others.2,
        goes.after ∙ ap (place plain (Some m)) next ∙ others.3,
      )

  -- the frames that heads say are those in front of the bytes
  pub heads_front : (used : ℕ) (heads : List Head) (nodes : List Node) → SayFrames m deep bytes 0 0 heads nodes used → AreInFront m bytes used (length heads)
  heads_front used heads nodes h =
      let found = front_from 0 0 used heads nodes h in
      record { frames = found.0; count_is = found.1; sequence = found.2; after = found.3 }
