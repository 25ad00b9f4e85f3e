-- How the front of some bytes goes on after its first frame.
use Rattle.std.proofs.Common.{◌≡◌, ◌≢◌, ℕ, zero, suc, ◌≤◌, true, List, [], ◌∷◌, ◌++◌, length, take, drop, append_assoc, Option, Ok, refl, sym, ap, subst, ◌∙◌}
use Rattle.std.proofs.Common.{arith}
use Rattle.std.proofs.lemmas.List.{length-drop, drop_at, length-take-le, nil_from_length}
use Rattle.amqp_types.specs.Levels.{Level}
use Rattle.amqp_types.specs.Judging.{Fault, Judged, past, fault, took}
use Rattle.amqp_wire.specs.Frames.{Frame, Raw}
use Rattle.amqp_wire.specs.HeaderScan.{scan}
use Rattle.amqp_wire.specs.Verdicts.{judge_frame, judge_scanned, judge_decoded, is_at, decode_raw}
use Rattle.amqp_wire.specs.Fronts.{cut, front, place, ComesBefore}
use Rattle.amqp_wire.proofs.HeaderScan.{scan-append, scan-exact, scan-in_bounds, scan-none}
use Rattle.amqp_wire.proofs.Encoded.{judged-is}

-- it is no frame
abbrev pub IsStop : Judged Frame → Type 0
IsStop (took f n) = ⊥
IsStop j = Unit {0}

judged-more : (level : Level) (j : Judged Raw) → judge_scanned level j ≢ past → j ≢ past
judged-more level past h e = h refl
judged-more level j h e = absurd cc

-- after a frame at the front
pub record GoesOn (level : Level) (m : Option ℕ) (bytes : List ℕ) (f : Frame) (rest : List ℕ) : Type 0 where
  pub sequence : front level m bytes ≡ f ∷ front level m rest
  pub after : place level m bytes ≡ place level m rest

module _ (level : Level) (m : Option ℕ) where
  -- ---- what the parts of a decoding say of the whole of it

  pub verdict-more : (bytes : List ℕ) → scan m bytes ≡ past → judge_frame level m bytes ≡ past
  unfolding judge_frame
  verdict-more bytes e = ap (judge_scanned level) e

  -- A fault of the header scan is the fault of decoding.
  pub verdict-bad : (bytes : List ℕ) (bad : Fault) → scan m bytes ≡ fault bad → judge_frame level m bytes ≡ fault bad
  unfolding judge_frame
  verdict-bad bytes bad e = ap (judge_scanned level) e

  -- Where the header scan takes a frame whose payload is decoded and which has the level, the frame is decoded.
  pub verdict-whole : (bytes : List ℕ) (raw : Raw) (n : ℕ) (f : Frame)
      → scan m bytes ≡ took raw n → is_at level raw ≡ true → decode_raw raw ≡ Ok f → judge_frame level m bytes ≡ took f n
  unfolding judge_frame
  verdict-whole bytes raw n f e at_level is_whole =
      ap (judge_scanned level) e ∙ ap (λ t. judge_decoded t (decode_raw raw) n) at_level ∙ ap (λ r. judge_decoded true r n) is_whole

  -- In an empty input a frame is incomplete.
  pub verdict-none : judge_frame level m [] ≡ past
  verdict-none = verdict-more [] (scan-none m)

  -- a frame stands in at least a byte that is there
  pub verdict-got_within : (bytes : List ℕ) (f : Frame) (n : ℕ) → judge_frame level m bytes ≡ took f n → (8 ≤ n) × (n ≤ length bytes)
  unfolding judge_frame
  verdict-got_within bytes f n e =
      let found = judged-is level (scan m bytes) f n e in
      let fits = scan-in_bounds m bytes found.raw n found.found in
      (fits.least, fits.within)

  -- what is decided stays so
  pub verdict-append : (bytes more : List ℕ) → judge_frame level m bytes ≢ past → judge_frame level m (bytes ++ more) ≡ judge_frame level m bytes
  unfolding judge_frame
  verdict-append bytes more h = ap (judge_scanned level) (scan-append m bytes more (judged-more level (scan m bytes) h))

  -- a frame that is there in full is there whatever follows it
  pub verdict-exact : (bytes rest : List ℕ) (f : Frame) (n : ℕ) → judge_frame level m bytes ≡ took f n → judge_frame level m (take n bytes ++ rest) ≡ took f n
  unfolding judge_frame
  verdict-exact bytes rest f n e =
      let found = judged-is level (scan m bytes) f n e in
      ap (judge_scanned level) (scan-exact m bytes rest found.raw n found.found ∙ sym found.found) ∙ e

  -- ---- cutting more often than there are bytes changes nothing

  cut-stop : (n : ℕ) (bytes : List ℕ) (j : Judged Frame) → judge_frame level m bytes ≡ j → IsStop j → cut level m n bytes ≡ ([], bytes)
  unfolding cut
  cut-stop zero bytes j e s = refl
  cut-stop (suc n) bytes past e s = rw e refl
  cut-stop (suc n) bytes (fault bad) e s = rw e refl
  cut-stop (suc n) bytes (took f k) e s = absurd s

  cut-step : (n k : ℕ) (bytes : List ℕ) → length bytes ≤ suc n → length bytes ≤ suc k
      → ((rest : List ℕ) → length rest ≤ n → length rest ≤ k → cut level m n rest ≡ cut level m k rest)
      → (j : Judged Frame) → judge_frame level m bytes ≡ j → cut level m (suc n) bytes ≡ cut level m (suc k) bytes
  unfolding cut
  cut-step n k bytes h g ih (took f used) e =
      let at = verdict-got_within bytes f used e in
      let fewer = length-drop used bytes in
      rw e (ap (λ (p : List Frame × List ℕ). (f ∷ p.0, p.1)) (ih (drop used bytes) (omega arith) (omega arith)))
  cut-step n k bytes h g ih j e = rw e refl

  cut-none : (n : ℕ) (bytes : List ℕ) → length bytes ≤ 0 → cut level m n bytes ≡ ([], bytes)
  cut-none n bytes h = rw (nil_from_length bytes (omega arith)) (cut-stop n [] past verdict-none tt)

  cut-enough : (n k : ℕ) (bytes : List ℕ) → length bytes ≤ n → length bytes ≤ k → cut level m n bytes ≡ cut level m k bytes
  cut-enough zero k bytes h g = cut-none zero bytes h ∙ sym (cut-none k bytes h)
  cut-enough (suc n) zero bytes h g = cut-none (suc n) bytes g ∙ sym (cut-none zero bytes g)
  cut-enough (suc n) (suc k) bytes h g = cut-step n k bytes h g (cut-enough n k) (judge_frame level m bytes) refl

  -- Where a frame is decoded, the frames at the front are that frame and those at the front of what comes after it.
  pub front-got : (bytes : List ℕ) (f : Frame) (n : ℕ) → judge_frame level m bytes ≡ took f n → GoesOn level m bytes f (drop n bytes)
  unfolding front place cut
  front-got bytes f n e =
      let at = verdict-got_within bytes f n e in
      let rest = drop n bytes in
      let fewer = length-drop n bytes in
      let same = cut-enough (length bytes) (length rest) rest (omega arith) (omega arith) in
      let step : cut level m (suc (length bytes)) bytes ≡ (f ∷ (cut level m (length bytes) rest).0, (cut level m (length bytes) rest).1) = rw e refl in
      let all = cut-enough (length bytes) (suc (length bytes)) bytes (omega arith) (omega arith) ∙ step in
      record {
        sequence = ap (λ (p : List Frame × List ℕ). p.0) all ∙ ap (λ (p : List Frame × List ℕ). f ∷ p.0) same;
        after = ap (λ (p : List Frame × List ℕ). p.1) all ∙ ap (λ (p : List Frame × List ℕ). p.1) same;
      }

  -- where no frame is at the front
  pub front-stop : (bytes : List ℕ) → IsStop (judge_frame level m bytes) → (front level m bytes ≡ []) × (place level m bytes ≡ bytes)
  unfolding front place
  front-stop bytes h =
      let all = cut-stop (length bytes) bytes (judge_frame level m bytes) refl h in
      (ap (λ (p : List Frame × List ℕ). p.0) all, ap (λ (p : List Frame × List ℕ). p.1) all)

  -- no bytes are the empty sequence
  pub stop-none : IsStop (judge_frame level m [])
  stop-none = rw verdict-none tt

  -- At the front of an empty input there are no frames.
  pub front-none : front level m [] ≡ []
  front-none = (front-stop [] stop-none).0

  -- After the frames of an empty input nothing comes.
  pub place-none : place level m [] ≡ []
  place-none = (front-stop [] stop-none).1

  -- An empty input has no frames, whatever follows.
  pub ComesBefore-none : ComesBefore level m [] []
  ComesBefore-none = record { sequence = λ rest. refl; after = λ rest. refl }

  -- one more frame
  pub ComesBefore-more : (used held : List ℕ) (frames : List Frame) (f : Frame) (n : ℕ)
      → ComesBefore level m used frames → judge_frame level m held ≡ took f n → ComesBefore level m (used ++ take n held) (frames ++ f ∷ [])
  ComesBefore-more used held frames f n p e =
      let at = verdict-got_within held f n e in
      let goes : (rest : List ℕ) → GoesOn level m (take n held ++ rest) f rest = λ rest.
      subst (λ (xs : List ℕ). GoesOn level m (take n held ++ rest) f xs) (drop_at (take n held) rest n (length-take-le n held at.1))
      (front-got (take n held ++ rest) f n (verdict-exact held rest f n e)) in
      record {
        sequence = λ rest.
            rw (append_assoc used (take n held) rest, append_assoc frames (f ∷ []) (front level m rest))
            (p.sequence (take n held ++ rest) ∙ ap (λ (fs : List Frame). frames ++ fs) (goes rest).sequence);
        after = λ rest. rw (append_assoc used (take n held) rest) (p.after (take n held ++ rest) ∙ (goes rest).after);
      }
