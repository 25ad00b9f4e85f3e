-- Laws of texts: the longest is one, what was dumped is read back, and strict bytes and texts correspond.
use Rattle.amqp_lines.proofs
use proofs.Names.{◌≡◌, ◌≢◌, ◌↔◌, ℕ, false, List, [], ◌∷◌, ◌++◌, length, Some, None, Ok, refl, sym, ap, subst, ◌∙◌, append_assoc, append-nil, arith, Err}
use proofs.Names.{AllByRecursion, take_all, ne_eqb, plain, strict, IsBytes, Frame, BadBeat, front, Spells, SpellsFrames, canon, canon_frames, verdict-spells}
use proofs.Names.{one_strict, Supply, Store, Gains, Call, IsStrict, line, lines, AreStrict, IsLongestText, UndumpsExactly, Answer}
use proofs.Names.errors
use Rattle.amqp_wire.specs.Fronts.{place}
use Rattle.amqp_wire.specs.Canonical.{is_deep, is_long, size_of, read_back}
use Rattle.amqp_wire.specs.Laws.{IsFrameHeld}
use Rattle.amqp_wire.proofs.ReadingBack.{reads_back}
use Rattle.amqp_wire.proofs.Sequences.{front-is_sequence, one_sequence}
use Rattle.amqp_wire.proofs.Strictness.{sequence_shortest}
use Rattle.amqp_lines.specs.Dumping.{dumped}
use Rattle.amqp_lines.specs.UndumpLaws.{IsSameText, Undoes, AreBytesAndText, IsUsual}
use proofs.CanonBytes.{canonical_bytes}
use proofs.ReadWords.{bytes_front}
use proofs.LinesApart.{same_frame, split, same_sequence}
use proofs.TextFronts.{AllStrict, all_strict, at_clean, holds_none, is_longest}

-- ---- the longest text is one

same_text : (m : ℕ) (fs gs : List Frame) (rest more : List ℕ) → AllStrict m fs → AllStrict m gs
    → length fs ≡ length gs → lines fs ++ rest ≡ lines gs ++ more → IsSameText fs gs rest more
unfolding lines
same_text m [] [] rest more p q n e = record { frames = refl; rests = e }
same_text m (f ∷ fs) (g ∷ gs) rest more p q n e =
    let s =
    split f g _ _
    (sym (append_assoc (line f) _ rest) ∙ e ∙ append_assoc (line g) _ more) in
    let others = same_text m fs gs rest more p.1 q.1 (omega arith) s.others in
    record { frames = cc (same_frame f g p.0.is_strict q.0.is_strict s.first, others.frames); rests = others.rests }
same_text m fs gs rest more p q n e = absurd (omega arith)

-- Within a limit, some bytes begin with one longest text only.
pub one_longest : (m : ℕ) (bytes : List ℕ) (fs gs : List Frame) (rest more : List ℕ)
    → IsLongestText m bytes fs rest → IsLongestText m bytes gs more → IsSameText fs gs rest more
one_longest m bytes fs gs rest more h k =
    let up = h.longest gs k.are_strict (more, sym k.parts) in
    let down = k.longest fs h.are_strict (rest, sym h.parts) in
    same_text m fs gs rest more (all_strict m fs h.are_strict) (all_strict m gs k.are_strict) (omega (arith, up, down)) (sym h.parts ∙ k.parts)

-- ---- what was dumped

-- What is dumped of some bytes is, to its end, the text of the frames at the front of these bytes.
pub dumped_back : (m : ℕ) (bytes : List ℕ) → IsBytes bytes → IsLongestText m (dumped m bytes) (front plain (Some m) bytes) []
dumped_back m bytes fits =
    let frames = front plain (Some m) bytes in
    let cut = front-is_sequence plain (Some m) bytes fits in
    let used = bytes_front cut.used (place plain (Some m) bytes) cut.parts fits in
    let good : AreStrict m frames =
    ((one_strict plain (Some m) cut.used frames cut.sequence).canonical, canonical_bytes (Some m) cut.used frames used cut.sequence) in
    is_longest (all_strict m frames good) (sym (append-nil (lines frames))) (at_clean m [] tt)

-- what stands after the text, and is none of it
undoes : (call : Call Supply Store) {bytes : List ℕ} (r : Answer) (u : UndumpsExactly call (dumped call.limit bytes) r)
    → u.frames ≡ front plain (Some call.limit) bytes → u.rest ≡ [] → Undoes call.limit bytes call.sink r
undoes call (Ok done) u frames none = record {
  never_bad = λ e. absurd cc;
  never_short = λ e. absurd cc;
  written = λ e. subst (λ xs. Gains call.sink.old call.sink.new xs) (u.answer.1 ∙ ap canon_frames frames) u.gains;
}
undoes call (Err errors.BadText) u frames none = absurd (holds_none u.rest (rw none tt) u.answer.0)
undoes call (Err errors.CutShort) u frames none = absurd (u.answer.0 none)
undoes call (Err error) u frames none = record { never_bad = λ e. absurd cc; never_short = λ e. absurd cc; written = λ e. absurd cc }

-- Reading back what was dumped finds no bad line, and writes the canonical bytes of the frames at the front of the bytes.
pub undump_undoes : (call : Call Supply Store) (bytes : List ℕ) (r : Answer)
    → IsBytes bytes → UndumpsExactly call (dumped call.limit bytes) r → Undoes call.limit bytes call.sink r
undump_undoes call bytes r fits u =
    let m = call.limit in
    let same = one_longest m (dumped m bytes) u.frames (front plain _ bytes) u.rest [] u.text (dumped_back m bytes fits) in
    undoes call r u same.frames same.rests

-- ---- strict bytes and texts

each_strict : (m : ℕ) (fs : List Frame) → AllStrict m fs → AllByRecursion IsStrict fs
each_strict m [] h = tt
each_strict m (f ∷ fs) h = (h.0.is_strict, each_strict m fs h.1)

only_strict : {m : ℕ} {bytes text : List ℕ} (h : AreBytesAndText m bytes text) → bytes ≡ canon_frames h.frames
only_strict {m = m} {bytes = bytes} h = (one_strict strict (Some m) bytes h.frames h.is_sequence).only bytes h.is_sequence

are_strict_frames : {m : ℕ} {bytes text : List ℕ} (h : AreBytesAndText m bytes text) → AllByRecursion IsStrict h.frames
are_strict_frames {m = m} h =
    let is = only_strict h in
    each_strict m h.frames (all_strict m h.frames (rw is at h.is_sequence, rw is at h.are_bytes))

-- Bytes that encode a sequence of frames strictly have one text only.
pub one_text : (m : ℕ) (bytes t u : List ℕ) → AreBytesAndText m bytes t → AreBytesAndText m bytes u → t ≡ u
one_text m bytes t u h k = cc (h.is_text, one_sequence strict (Some m) bytes h.frames k.frames h.is_sequence k.is_sequence, k.is_text)

-- One text is that of one sequence of canonical bytes only.
pub one_text_bytes : (m : ℕ) (b c text : List ℕ) → AreBytesAndText m b text → AreBytesAndText m c text → b ≡ c
one_text_bytes m b c text h k =
    let same = same_sequence h.frames k.frames (are_strict_frames h) (are_strict_frames k) (sym h.is_text ∙ k.is_text) in
    cc (only_strict h, same, only_strict k)

-- ---- which frames are encoded strictly

not_bad_beat : (f : Frame) → Spells strict (canon f) f → f ≢ BadBeat 0
not_bad_beat f h e = absurd (let x = rw e at h in omega (arith, x.0))

strict_usual : (f : Frame) → IsStrict f → IsUsual f
strict_usual f h =
    let sequence : SpellsFrames strict None (canon f) (f ∷ []) = (canon f, [], sym (append-nil _), h.encodes, tt, refl) in
    let sized = sequence_shortest strict None _ (f ∷ []) sequence in
    record { belongs = not_bad_beat f h.encodes; not_deep = sized.none_is_deep.0; not_long = sized.none_is_long.0 }

back_same : (f : Frame) → f ≢ BadBeat 0 → read_back f ≡ f
back_same (BadBeat channel) h = rw (ne_eqb channel 0 (λ e. h (ap BadBeat e))) refl
back_same f h = refl

has_size : (f : Frame) → is_deep f ≡ false → is_long f ≡ false → size_of f ≡ Ok (length (canon f))
unfolding size_of
has_size f deep long = rw (deep, long) refl

usual_strict : (f : Frame) → IsFrameHeld f → IsBytes (canon f) → IsUsual f → IsStrict f
usual_strict f held fits h =
    let n = length _ in
    let back = (reads_back strict f held (has_size f h.not_deep h.not_long)).whole [] in
    let found = verdict-spells strict None _ _ n fits (rw (append-nil (canon f)) at back) in
    record { are_bytes = fits; encodes = rw (back_same f h.belongs, take_all n (canon f) (omega arith)) at found.0 }

-- A frame that programs hold is encoded strictly by its canonical bytes exactly where it is usual.
pub strict_is_usual : (f : Frame) → IsFrameHeld f → IsBytes (canon f) → IsStrict f ↔ IsUsual f
strict_is_usual f held fits = (strict_usual f, usual_strict f held fits)
