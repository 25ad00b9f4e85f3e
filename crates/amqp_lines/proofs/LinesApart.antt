-- Equal lines are those of equal frames, and equal texts those of equal sequences.
use Rattle.amqp_lines.proofs
use proofs.Names.{◌≡◌, ◌≢◌, ℕ, List, [], ◌∷◌, ◌++◌, length, take, refl, sym, ap, subst, ◌∙◌, append_assoc, None, AllByRecursion, take_at, strict, IsBytes}
use proofs.Names.{SpellsContentHeader, SpellsPayload, value_took, payloads_lawful, content_headers_lawful, Frame, Proto, Meth, Head, Body, Beat, BadBeat}
use proofs.Names.{channel_id_of, Spells, raw_bytes, canon, payload_of, judge_frame, verdict-spelled, words, line, lines, IsPayload, IsStrict, read_words}
use proofs.Names.{IsBytes-drop, lengths}
use proofs.ReadWords.{bytes_front}
use proofs.ReadLines.{IsNumbered, kind_of, words_back}
use proofs.Newlines.{one_newline}

-- ---- what a frame is that its canonical bytes encode strictly

payload_fits : (f : Frame) → IsBytes (canon f) → IsBytes (payload_of f)
unfolding canon
payload_fits (Proto a b c) fits = IsBytes-drop 5 (canon (Proto a b c)) fits
payload_fits f fits = bytes_front (payload_of f) (206 ∷ []) refl (IsBytes-drop 7 (canon f) fits)

-- The canonical payload of a frame that its canonical bytes encode strictly encodes it strictly.
pub payload_is : (f : Frame) → Spells strict (canon f) f → IsPayload (payload_of f) f
payload_is (Proto a b c) h = refl
payload_is (Meth channel m) h =
    let P : List ℕ → Type 0 = λ bs. SpellsPayload strict bs m in
    subst P (payloads_lawful.strict_is_canonical h.payload m h.spelled) h.spelled
payload_is (Head channel header) h =
    let P : List ℕ → Type 0 = λ bs. SpellsContentHeader strict bs header in
    subst P (content_headers_lawful.strict_is_canonical h.payload header h.spelled) h.spelled
payload_is f h = refl

numbers_fit : (f : Frame) → IsBytes (canon f) → Spells strict (canon f) f → IsNumbered f
unfolding canon
numbers_fit (Proto a b c) fits h = (fits 5, fits 6, fits 7)
numbers_fit (Meth channel m) fits h = h.is_framed.channel_fits
numbers_fit (Head channel header) fits h = h.is_framed.channel_fits
numbers_fit (Body channel content) fits h = h.channel_fits
numbers_fit Beat fits h = tt
numbers_fit (BadBeat channel) fits h = (h.0, h.1.is_framed.channel_fits)

-- The bytes of a frame's kind, channel and canonical payload are its canonical bytes.
pub raw_canon : (f : Frame) → raw_bytes (record { kind = kind_of f; channel = channel_id_of f; payload = payload_of f }) ≡ canon f
unfolding canon
raw_canon (Proto a b c) = refl
raw_canon f = refl

-- what is read of its words
pub strict_back : (f : Frame) → IsStrict f → read_words (words f) ≡ record { kind = kind_of f; channel = channel_id_of f; payload = payload_of f }
strict_back f h = words_back f (payload_fits f h.are_bytes) (payload_is f h.encodes) (numbers_fit f h.are_bytes h.encodes)

-- ---- one frame

same_words : (f g : Frame) → IsStrict f → IsStrict g → words f ≡ words g → f ≡ g
same_words f g p q h =
    let bytes : canon f ≡ canon g = cc (raw_canon f, strict_back f p, h, strict_back g q, raw_canon g) in
    value_took f g _ _
    (sym (verdict-spelled strict None _ f p.encodes tt) ∙ ap (judge_frame strict None) bytes ∙ verdict-spelled strict None _ g q.encodes tt)

same_front : (a b end : List ℕ) → a ++ end ≡ b ++ end → a ≡ b
same_front a b end h =
    let count : length a ≡ length b = omega (lengths, ap length h) in
    sym (take_at a end _ count) ∙ ap (take _) h ∙ take_at b end _ refl

-- Strict frames with equal lines are equal.
pub same_frame : (f g : Frame) → IsStrict f → IsStrict g → line f ≡ line g → f ≡ g
unfolding line
same_frame f g p q h = same_words f g p q (same_front (words f) (words g) _ h)

-- ---- sequences

-- where newlines end the fronts, these are the same
pub newline_once : (a b x y : List ℕ) → AllByRecursion (λ c. c ≢ 10) a → AllByRecursion (λ c. c ≢ 10) b → a ++ (10 ∷ x) ≡ b ++ (10 ∷ y) → (a ≡ b) × (x ≡ y)
newline_once [] [] x y p q h = (refl, cc)
newline_once [] (c ∷ cs) x y p q h = absurd (q.0 cc)
newline_once (c ∷ cs) [] x y p q h = absurd (p.0 cc)
newline_once (c ∷ cs) (d ∷ ds) x y p q h = let same = newline_once cs ds x y p.1 q.1 cc in (cc (same.0, h), same.1)

-- a line and the text after it
pub record Split (f g : Frame) (x y : List ℕ) : Type 0 where
  pub first : line f ≡ line g
  pub others : x ≡ y

-- Where a line and a text after it are another line and a text after it, the lines are equal, and so are the texts.
pub split : (f g : Frame) (x y : List ℕ) → line f ++ x ≡ line g ++ y → Split f g x y
split f g x y h =
    let a = one_newline f in
    let b = one_newline g in
    let same =
    newline_once a.front b.front x y a.none_before b.none_before
    (cc (a.parts, append_assoc a.front (10 ∷ []) x, h, b.parts, append_assoc b.front (10 ∷ []) y)) in
    record { first = cc (a.parts, same.0, b.parts); others = same.1 }

-- No line is empty.
pub line_some : (f : Frame) (x : List ℕ) → [] ≡ line f ++ x → ⊥
line_some f x h = let a = one_newline f in omega (lengths, ap length h, ap length a.parts)

-- Strict frames with equal texts are equal, one by one.
pub same_sequence : (fs gs : List Frame) → AllByRecursion IsStrict fs → AllByRecursion IsStrict gs → lines fs ≡ lines gs → fs ≡ gs
unfolding lines
same_sequence [] [] p q h = refl
same_sequence [] (g ∷ gs) p q h = absurd (line_some g _ h)
same_sequence (f ∷ fs) [] p q h = absurd (line_some f _ (sym h))
same_sequence (f ∷ fs) (g ∷ gs) p q h =
    let s = split f g _ _ h in
    cc (same_frame f g p.0 q.0 s.first, same_sequence fs gs p.1 q.1 s.others)
