-- Sequences are what is cut from the front, and the longest of them.
use Rattle.std.proofs.Common.{◌≡◌, ℕ, zero, suc, ◌≤◌, List, [], ◌∷◌, ◌++◌, length, take, drop, append_assoc, append-nil, Option, None, refl, sym, ap, subst}
use Rattle.std.proofs.Common.{◌∙◌, arith}
use Rattle.std.proofs.lemmas.List.{length-drop, length-append, take-append-drop, drop_at, length-take-le, nil_from_length}
use Rattle.amqp_types.specs.Levels.{Level}
use Rattle.amqp_types.specs.Judging.{Fault, Judged, fault, took, IsBytes, IsExact}
use Rattle.amqp_types.proofs.Bytes.{IsBytes-drop}
use Rattle.amqp_types.proofs.Exact.{none_begins}
use Rattle.amqp_wire.specs.Frames.{Frame}
use Rattle.amqp_wire.specs.Verdicts.{judge_frame}
use Rattle.amqp_wire.specs.Spelling.{Spells, SpellsFrames}
use Rattle.amqp_wire.specs.Fronts.{front, place, ComesBefore}
use Rattle.amqp_wire.specs.Laws.{SpellsWithin, IsLongestSequence}
use Rattle.amqp_wire.proofs.Cuts.{IsStop, GoesOn, front-got, front-stop, front-none, place-none, stop-none, ComesBefore-none, verdict-append, verdict-exact}
use Rattle.amqp_wire.proofs.Cuts.{verdict-got_within}
use Rattle.amqp_wire.proofs.Spelled.{verdict-spelled_before}
use Rattle.amqp_wire.proofs.Encoded.{verdict-spells}

-- the front of some bytes and its place: the bytes that encode the frames in front, and why no frame follows
pub record Splits (level : Level) (m : Option ℕ) (bytes : List ℕ) : Type 0 where
  pub used : List ℕ
  pub parts : bytes ≡ used ++ place level m bytes
  pub sequence : ComesBefore level m used (front level m bytes)
  pub spelled : IsBytes bytes → SpellsFrames level m used (front level m bytes)
  pub stop : IsStop (judge_frame level m (place level m bytes))

pub record FrontIsSequence (level : Level) (m : Option ℕ) (bytes : List ℕ) : Type 0 where
  pub used : List ℕ
  pub parts : bytes ≡ used ++ place level m bytes
  pub sequence : SpellsFrames level m used (front level m bytes)

module _ (level : Level) (m : Option ℕ) where
  -- Decoding a frame takes exactly what encodes it within the limit.
  pub verdict_exact : IsExact (judge_frame level m) (SpellsWithin level m)
  verdict_exact = record {
    spelled = λ bytes f n fits e. (verdict-spells level m bytes f n fits e, (verdict-got_within level m bytes f n e).1);
    taken = λ bytes rest f s. verdict-spelled_before level m bytes rest f s.0 s.1;
  }

  -- ---- a sequence is what is cut from the front, whatever follows it

  ComesBefore-first : (first rest : List ℕ) (f : Frame) (frames : List Frame)
      → ((more : List ℕ) → judge_frame level m (first ++ more) ≡ took f (length first)) → ComesBefore level m rest frames
      → ComesBefore level m (first ++ rest) (f ∷ frames)
  ComesBefore-first first rest f frames found p =
      let goes : (more : List ℕ) → GoesOn level m (first ++ more) f more = λ more.
      subst (λ (xs : List ℕ). GoesOn level m (first ++ more) f xs) (drop_at first more (length first) refl)
      (front-got level m (first ++ more) f (length first) (found more)) in
      record {
        sequence = λ more. rw (append_assoc first rest more) ((goes (rest ++ more)).sequence ∙ ap (λ (fs : List Frame). f ∷ fs) (p.sequence more));
        after = λ more. rw (append_assoc first rest more) ((goes (rest ++ more)).after ∙ p.after more);
      }

  -- Where bytes encode frames, these come first, whatever follows.
  pub SpellsFrames-precedes : (bytes : List ℕ) (frames : List Frame) → SpellsFrames level m bytes frames → ComesBefore level m bytes frames
  SpellsFrames-precedes bytes [] r = rw r (ComesBefore-none level m)
  SpellsFrames-precedes bytes (f ∷ fs) r =
      rw r.2 (ComesBefore-first r.0 r.1 f fs (λ more. verdict-spelled_before level m r.0 more f r.3 r.4) (SpellsFrames-precedes r.1 fs r.5))

  -- the front of a sequence is the sequence, and nothing follows it
  pub sequence_front : (bytes : List ℕ) (frames : List Frame) → SpellsFrames level m bytes frames → front level m bytes ≡ frames
  sequence_front bytes frames r =
      ap (front level m) (sym (append-nil bytes)) ∙ (SpellsFrames-precedes bytes frames r).sequence []
      ∙ ap (λ (fs : List Frame). frames ++ fs) (front-none level m) ∙ append-nil frames

  -- Nothing comes after the frames that all of the bytes encode.
  pub sequence_place : (bytes : List ℕ) (frames : List Frame) → SpellsFrames level m bytes frames → place level m bytes ≡ []
  sequence_place bytes frames r =
      ap (place level m) (sym (append-nil bytes)) ∙ (SpellsFrames-precedes bytes frames r).after [] ∙ place-none level m

  -- Bytes encode at most one sequence of frames.
  pub one_sequence : (bytes : List ℕ) (fs gs : List Frame) → SpellsFrames level m bytes fs → SpellsFrames level m bytes gs → fs ≡ gs
  one_sequence bytes fs gs r s = sym (sequence_front bytes fs r) ∙ sequence_front bytes gs s

  -- ---- the bytes are what was cut, and the place

  splits_stop : (bytes : List ℕ) → IsStop (judge_frame level m bytes) → Splits level m bytes
  splits_stop bytes s =
      let none = front-stop level m bytes s in
      record {
        used = [];
        parts = sym none.1;
        sequence = rw none.0 (ComesBefore-none level m);
        spelled = λ fits. rw none.0 refl;
        stop = rw none.1 s;
      }

  splits_step : (n : ℕ) (bytes : List ℕ) → length bytes ≤ suc n
      → ((rest : List ℕ) → length rest ≤ n → Splits level m rest) → (j : Judged Frame) → judge_frame level m bytes ≡ j → Splits level m bytes
  splits_step n bytes few ih (took f k) e =
      let at = verdict-got_within level m bytes f k e in
      let rest = ih (drop k bytes) (omega (arith, length-drop k bytes)) in
      let goes = front-got level m bytes f k e in
      let found : (more : List ℕ) → judge_frame level m (take k bytes ++ more) ≡ took f (length (take k bytes)) = λ more.
      verdict-exact level m bytes more f k e ∙ ap (λ i. took f i) (sym (length-take-le k bytes at.1)) in
      record {
        used = take k bytes ++ rest.used;
        parts =
            rw (goes.after, append_assoc (take k bytes) rest.used (place level m (drop k bytes)), ← rest.parts) (sym (take-append-drop k bytes));
        sequence = rw goes.sequence (ComesBefore-first (take k bytes) rest.used f (front level m (drop k bytes)) found rest.sequence);
        spelled = λ fits.
            let first = verdict-spells level m bytes f k fits e in
            rw goes.sequence (take k bytes, rest.used, refl, first.0, first.1, rest.spelled (IsBytes-drop k bytes fits));
        stop = rw goes.after rest.stop;
      }
  splits_step n bytes few ih j e = splits_stop bytes (rw e tt)

  splits_by : (n : ℕ) (bytes : List ℕ) → length bytes ≤ n → Splits level m bytes
  splits_by zero bytes few = rw (nil_from_length bytes (omega arith)) (splits_stop [] (stop-none level m))
  splits_by (suc n) bytes few = splits_step n bytes few (splits_by n) (judge_frame level m bytes) refl

  -- Bytes are those of the frames at their front and what comes after them, which is no whole frame.
  pub splits_of : (bytes : List ℕ) → Splits level m bytes
  splits_of bytes = splits_by (length bytes) bytes (omega arith)

  -- ---- the front is a sequence, and the longest

  -- Bytes begin with an encoding of the frames at their front.
  pub front-is_sequence : (bytes : List ℕ) → IsBytes bytes → FrontIsSequence level m bytes
  front-is_sequence bytes fits = let s = splits_of bytes in record { used = s.used; parts = s.parts; sequence = s.spelled fits }

  -- where nothing follows the front, the bytes are it
  pub sequence_of_all : (bytes : List ℕ) → IsBytes bytes → place level m bytes ≡ [] → SpellsFrames level m bytes (front level m bytes)
  sequence_of_all bytes fits none =
      let cut = splits_of bytes in
      let same : cut.used ≡ bytes = sym (cut.parts ∙ ap (λ (xs : List ℕ). cut.used ++ xs) none ∙ append-nil cut.used) in
      subst (λ (xs : List ℕ). SpellsFrames level m xs (front level m bytes)) same (cut.spelled fits)

  -- The frames at the front of bytes are the longest sequence that these begin with.
  pub longest_sequence : (bytes : List ℕ) → IsBytes bytes → IsLongestSequence level m bytes (front level m bytes) (place level m bytes)
  longest_sequence bytes fits =
      let cut = splits_of bytes in
      record {
        spelled = cut.used;
        parts = cut.parts;
        sequence = cut.spelled fits;
        longest = λ other more fs e r.
            let rest : place level m bytes ≡ place level m more = ap (place level m) e ∙ (SpellsFrames-precedes other fs r).after more in
            let behind = splits_of more in
            omega (
              arith,
              ap length cut.parts,
              ap length e,
              ap length rest,
              ap length behind.parts,
              length-append cut.used (place level m bytes),
              length-append other more,
              length-append behind.used (place level m more),
            );
      }

  -- ---- a fault at the place stays there, whatever follows, and no more frames are in front of it

  module _ (bytes rest : List ℕ) (bad : Fault) (e : judge_frame level m (place level m bytes) ≡ fault bad) where
    stops_before : judge_frame level m (place level m bytes ++ rest) ≡ fault bad
    stops_before = verdict-append level m (place level m bytes) rest (λ h. absurd cc) ∙ e

    stops_at : (front level m (place level m bytes ++ rest) ≡ []) × (place level m (place level m bytes ++ rest) ≡ place level m bytes ++ rest)
    stops_at = front-stop level m (place level m bytes ++ rest) (rw stops_before tt)

    parted : bytes ++ rest ≡ (splits_of bytes).used ++ (place level m bytes ++ rest)
    parted = ap (λ (xs : List ℕ). xs ++ rest) (splits_of bytes).parts ∙ append_assoc (splits_of bytes).used (place level m bytes) rest

    -- A fault after the frames at the front stays where more bytes come.
    pub place_fault : judge_frame level m (place level m (bytes ++ rest)) ≡ fault bad
    place_fault =
        ap (judge_frame level m) (ap (place level m) parted ∙ (splits_of bytes).sequence.after (place level m bytes ++ rest) ∙ stops_at.1) ∙ stops_before

    -- Where a fault comes after the frames at the front, more bytes change nothing of these frames.
    pub front_fault : front level m (bytes ++ rest) ≡ front level m bytes
    front_fault =
        ap (front level m) parted ∙ (splits_of bytes).sequence.sequence (place level m bytes ++ rest)
        ∙ ap (λ (fs : List Frame). front level m bytes ++ fs) stops_at.0 ∙ append-nil (front level m bytes)

-- No encoding of a frame begins a longer encoding of a frame.
pub no_frame_begins : (level : Level) (bytes rest : List ℕ) (f g : Frame) → Spells level bytes f → Spells level (bytes ++ rest) g → rest ≡ []
no_frame_begins level bytes rest f g s t =
    none_begins (judge_frame level None) (SpellsWithin level None) (verdict_exact level None) bytes rest f g (s, tt) (t, tt)
