-- What is returned and written by all the bytes of a source, however they are cut.
use Rattle.amqp_lines.proofs
use proofs.Names.{◌≡◌, ℕ, List, [], ◌∷◌, ◌++◌, ◌⊎◌, inr, Some, Ok, Err, refl, ap, ◌∙◌, append_assoc, append-nil, Frame, canon_frames, ◌⇒◌, Call, call_of}
use proofs.Names.{as_reported, Supply, Store, IsEmpty, taken_of, lines, Decides, HoldsNewline, IsLongestText, HasCauseUndumped, Undumps, UndumpsExactly}
use proofs.Names.{UndumpRun, AreStrict, LinePlace, Answer}
use proofs.Names.errors
use Rattle.amqp_stream.specs.Writing.{IsPrefix}
use Rattle.amqp_lines.specs.Undumping.{HasWrittenUndumped, IsAnswerToText}
use proofs.TextFronts.{all_strict, is_longest}
use proofs.Deciding.{fronts_of, Fronts}
use proofs.Gathering.{canon_both, at_none, longest_after, longest_is}
use proofs.Undumps.{never_began}
use proofs.Completing.{complete, at_none_more, Left, left_of, empty_left}

-- a newline after the longest text ends it, whatever comes
pub longest_more : {m : ℕ} {bytes : List ℕ} (more : List ℕ) {frames : List Frame} {rest : List ℕ} → HoldsNewline rest
    → IsLongestText m bytes frames rest → IsLongestText m (bytes ++ more) frames (rest ++ more)
longest_more {m = m} more {frames = frames} {rest = rest} holds h =
    is_longest (all_strict m frames h.are_strict)
    (ap (λ xs. xs ++ more) h.parts ∙ append_assoc _ rest more) (at_none_more m rest more holds (at_none h))

holds_more : (rest more : List ℕ) → HoldsNewline rest → HoldsNewline (rest ++ more)
holds_more rest more h =
    record { front = h.front; back = h.back ++ more; parts = cc (h.parts, append_assoc h.front (10 ∷ h.back) more) }

-- a part of the canonical bytes is one of those with others after them
prefix_more : (written : List ℕ) (fs gs : List Frame) → IsPrefix written (canon_frames fs) → IsPrefix written (canon_frames (fs ++ gs))
prefix_more written fs gs h =
    (h.0 ++ canon_frames gs, cc (append_assoc written h.0 (canon_frames gs), h.1, canon_both fs gs))

whole_part : {written all : List ℕ} → written ≡ all → IsPrefix written all
whole_part {written = written} e = ([], append-nil written ∙ e)

-- ---- the longest text in what was taken

-- what a call undumps that decided so, where these frames are the longest text in what it took
undumps_by : {m budget : ℕ} {a b : Supply} {k l : Store} {now : LinePlace}
    {r : Answer} (d : Decides (call_of m budget (a ⇒ b) (k ⇒ l)) now r) {frames : List Frame} {rest : List ℕ}
    → IsLongestText m d.taken frames rest → HasWrittenUndumped (canon_frames frames) d.written r
    → HasCauseUndumped (call_of m budget (a ⇒ b) (k ⇒ l)) d.taken rest r → Undumps (call_of m budget (a ⇒ b) (k ⇒ l)) r
undumps_by d {frames = frames} {rest = rest} text writes cause = record {
  taken = d.taken;
  are_bytes = d.are_bytes;
  reads = d.reads;
  takes = d.takes;
  at_most = d.at_most;
  all_spent = d.all_spent;
  frames = frames;
  rest = rest;
  text = text;
  written = d.written;
  gains = d.gains;
  writes = writes;
  cause = cause;
  behind = d.behind;
}

-- where a write or memory failed, lines of more frames may follow those that were decided
longest_of : {m : ℕ} (frames : List Frame) {taken rest : List ℕ} → AreStrict m frames → taken ≡ lines frames ++ rest
    → (more : Fronts m rest) → IsLongestText m taken (frames ++ more.frames) more.rest
longest_of {m = m} frames strict parts more =
    rw parts (longest_after frames (all_strict m frames strict) (longest_is more))

undumps_of : {m budget : ℕ} {a b : Supply} {k l : Store} {now : LinePlace} (r : Answer)
    → Decides (call_of m budget (a ⇒ b) (k ⇒ l)) now r → Undumps (call_of m budget (a ⇒ b) (k ⇒ l)) r
undumps_of {m = m} (Err errors.WriteFault) d =
    let more = fronts_of in
    undumps_by d (longest_of d.frames d.are_strict d.parts more)
    (prefix_more d.written d.frames more.frames d.writes) d.cause
undumps_of {m = m} (Err errors.NoMemory) d =
    let more = fronts_of in
    undumps_by d (longest_of d.frames d.are_strict d.parts more)
    (prefix_more d.written d.frames more.frames (whole_part d.writes)) tt
undumps_of r d = undumps_by d d.decided d.writes d.cause

module _ {m budget : ℕ} {a b : Supply} {k l : Store} (bytes : List ℕ) where
  -- these frames are the longest text in all bytes
  by_text : {r : Answer} (u : Undumps (call_of m budget (a ⇒ b) (k ⇒ l)) r) {frames : List Frame} {rest : List ℕ}
      → IsLongestText m bytes frames rest → IsAnswerToText (canon_frames frames) rest u.written r → UndumpsExactly (call_of m budget (a ⇒ b) (k ⇒ l)) bytes r
  by_text u {frames = frames} {rest = rest} text answer =
      record { frames = frames; rest = rest; text = text; written = u.written; gains = u.gains; answer = answer }

  -- all bytes were taken
  to_end : (r : Answer) (u : Undumps (call_of m budget (a ⇒ b) (k ⇒ l)) r) → (is : Left bytes u.taken b.left)
      → IsEmpty b.left → IsAnswerToText (canon_frames u.frames) u.rest u.written r → UndumpsExactly (call_of m budget (a ⇒ b) (k ⇒ l)) bytes r
  to_end r u is empty answer =
      let all : bytes ≡ u.taken = cc (is.parts, empty_left is.is empty, append-nil u.taken) in
      by_text u (rw all u.text) answer

  -- the call was stopped, and more of the bytes may be a text
  stopped_at : (r : Answer) (u : Undumps (call_of m budget (a ⇒ b) (k ⇒ l)) r) → (is : Left bytes u.taken b.left)
      → ((all rest : List ℕ) → IsPrefix u.written all → IsAnswerToText all rest u.written r)
      → IsPrefix u.written (canon_frames u.frames) → UndumpsExactly (call_of m budget (a ⇒ b) (k ⇒ l)) bytes r
  stopped_at r u is answer part =
      let h = fronts_of in
      let whole : bytes ≡ lines u.frames ++ (u.rest ++ is.more) =
      cc (is.parts, u.text.parts, append_assoc (lines u.frames) u.rest is.more) in
      by_text u (longest_of u.frames u.text.are_strict whole h)
      (answer (canon_frames (u.frames ++ h.frames)) h.rest (prefix_more u.written u.frames h.frames part))

  -- Over a source that reports its bytes, what is returned and written is determined by all of them.
  pub exactly : (r : Answer) → Undumps (call_of m budget (a ⇒ b) (k ⇒ l)) r
      → a.left ≡ Some bytes → UndumpsExactly (call_of m budget (a ⇒ b) (k ⇒ l)) bytes r
  exactly r u left = by_answer r u (left_of (taken_of left u.takes))
    where
      by_answer : (r : Answer) (u : Undumps (call_of m budget (a ⇒ b) (k ⇒ l)) r)
          → Left bytes u.taken b.left → UndumpsExactly (call_of m budget (a ⇒ b) (k ⇒ l)) bytes r
      by_answer (Ok done) u is = to_end (Ok done) u is u.cause.1 (u.cause.0, u.writes)
      by_answer (Err errors.BadText) u is =
          by_text u (rw is.parts (longest_more is.more u.cause u.text))
          (holds_more u.rest is.more u.cause, u.writes)
      by_answer (Err errors.CutShort) u is = to_end (Err errors.CutShort) u is u.cause.2 (u.cause.0, u.cause.1, u.writes)
      by_answer (Err errors.WriteFault) u is = stopped_at (Err errors.WriteFault) u is (λ all rest part. part) u.writes
      by_answer (Err errors.NoMemory) u is = stopped_at (Err errors.NoMemory) u is (λ all rest part. part) u.writes
      by_answer r u is = stopped_at r u is (λ all rest part. part) (whole_part u.writes)

-- ---- a whole call

-- what a call keeps that decided so
pub undump_run : {S K : Type 0} {supply : S → Supply} {store : K → Store} {call : Call S K} {now : LinePlace} {r : Answer}
    → Decides (as_reported supply store call) now r
    → (call.budget ≡ 0 → call.source.new ≡ call.source.old) → (call.budget ≡ 0 → call.sink.new ≡ call.sink.old)
    → (call.budget ≡ 0 → (r ≡ Err errors.TurnsSpent) ⊎ (r ≡ Err errors.NoMemory)) → UndumpRun supply store call r
undump_run {r = r} d unread unwritten spent =
    let undumps = undumps_of r d in
    record {
      stream = undumps;
      unread = unread;
      unwritten = unwritten;
      spent = spent;
      exact = λ bytes left. exactly bytes r undumps left;
      complete = λ bytes left valid faultless. complete bytes undumps left valid faultless;
    }

-- memory ran out before the first read
pub never_ran : {S K : Type 0} {supply : S → Supply} {store : K → Store} {m budget : ℕ} {source : S} {sink : K}
    → UndumpRun supply store (call_of m budget (source ⇒ source) (sink ⇒ sink)) (Err errors.NoMemory)
never_ran {supply = supply} {store = store} {m = m} {budget = budget} {source = source} {sink = sink} =
    undump_run (never_began (supply source) (store sink)) (λ none. refl) (λ none. refl) (λ none. inr refl)
