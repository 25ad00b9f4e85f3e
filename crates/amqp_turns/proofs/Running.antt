-- Frames one after another: what the steps give is the one reading of them by their longest prefix in turn.
use Rattle.std.proofs.Common.{◌≡◌, ℕ, ◌+◌, ◌<◌, ◌≤◌, true, false, eqb, leb, List, [], ◌∷◌, ◌++◌, length, map, append_assoc, refl, sym, ap, subst, ◌∙◌, arith}
use Rattle.std.proofs.Common.{inl, inr, ◌⊎◌}
use Rattle.std.proofs.lemmas.List.{append-nil, length-append, length_push}
use Rattle.std.proofs.lemmas.List.Concat.{flat_map-append}
use Rattle.std.specs.List.{AllByRecursion, flat_map}
use Rattle.std.proofs.lemmas.Bool.{eq-eqb, ne_eqb}
use Rattle.std.proofs.lemmas.Bool.Decides.{nat_tests}
use Rattle.amqp_wire.specs.declared.outline.FrameOutline.{FrameOutline}
use Rattle.amqp_wire.specs.declared.outline.FrameOutline.TheVariants as outlines
use Rattle.amqp_turns.specs.declared.fault.ContentFault.TheVariants as faults
use Rattle.amqp_turns.specs.Units.{IsOpening, IsOtherMethod, IsBasicHeader, IsBody, size_in, count_in, bytes_in, Finished, Lone, Empty, Full, Begun, Nothing}
use Rattle.amqp_turns.specs.Units.{Opened, Headed, begun_frames, finished_frames, frames_in, IsBegun, IsFinished, IsInTurn, Reading}
use Rattle.amqp_turns.specs.Answers.{Answer, Alone, Within, Ends, Wrong, bodies_within, begun_answers, finished_answers, answers_in, rest_answers, answers_of}
use Rattle.amqp_turns.specs.Answers.{Answers, IsLastAnswer}
use Rattle.amqp_turns.specs.Stands.{State, At, Lost, state_after, Stands}
use Rattle.amqp_turns.specs.Steps.{step, run_answers, run_state}
use Rattle.amqp_turns.proofs.Moving.{all-append, bytes_in-push, Moved, closes, grows, refused, moved}

module _ {X : Type 0} (outline : X → FrameOutline) (max : ℕ) where
  -- steps over frames give these outcomes and this state
  pub record Runs (state : State X) (xs : List X) (answers : List (Answer X)) (after : State X) : Type 0 where
    pub answers_are : run_answers outline max state xs ≡ answers
    pub state_is : run_state outline max state xs ≡ after

  pub runs_nothing : (state : State X) → Runs state [] [] state
  runs_nothing state = record { answers_are = refl; state_is = refl }

  -- The outcomes of frames one after the other are those of the first, and those of the others from the state after them.
  pub run_answers-append : (state : State X) (xs ys : List X)
      → run_answers outline max state (xs ++ ys) ≡ run_answers outline max state xs ++ run_answers outline max (run_state outline max state xs) ys
  run_answers-append state [] ys = refl
  run_answers-append state (x ∷ xs) ys = rw (run_answers-append (step outline max state x).1 xs ys) refl

  -- The state after frames one after the other is that of the others from the state after the first.
  pub run_state-append : (state : State X) (xs ys : List X) → run_state outline max state (xs ++ ys) ≡ run_state outline max (run_state outline max state xs) ys
  run_state-append state [] ys = refl
  run_state-append state (x ∷ xs) ys = run_state-append (step outline max state x).1 xs ys

  pub runs_append : {a b c : State X} {xs ys : List X} {rs ts : List (Answer X)} → Runs a xs rs b → Runs b ys ts c → Runs a (xs ++ ys) (rs ++ ts) c
  runs_append {a = a} {xs = xs} {ys = ys} h g = record {
    answers_are = rw (run_answers-append a xs ys, h.answers_are, h.state_is, g.answers_are) refl;
    state_is = rw (run_state-append a xs ys, h.state_is) g.state_is;
  }

  runs_step : (a : State X) (x : X) {b : State X} {r : Answer X} → step outline max a x ≡ (r, b) → Runs a (x ∷ []) (r ∷ []) b
  runs_step a x e = record { answers_are = rw e refl; state_is = ap (λ (p : Answer X × State X). p.1) e }

  -- ---- a faulted channel

  runs_lost : (xs : List X) → Runs Lost xs (map (λ _. Wrong faults.Faulted) xs) Lost
  runs_lost [] = runs_nothing Lost
  runs_lost (x ∷ xs) = let rest = runs_lost xs in record { answers_are = rw rest.answers_are refl; state_is = rest.state_is }

  -- ---- frames in turn

  -- Between units an opening is part of a message, and leaves it begun.
  pub opening_step : (x : X) (o : FrameOutline) → outline x ≡ o → IsOpening o → step outline max (At Nothing) x ≡ (Within Nothing x, At (Opened x))
  opening_step x (outlines.Method channel class id) e h = rw (e, h) refl
  opening_step x o e h = absurd h

  lone_step : (x : X) (o : FrameOutline) → outline x ≡ o → IsOtherMethod o → step outline max (At Nothing) x ≡ (Alone x, At Nothing)
  lone_step x (outlines.Method channel class id) e h = rw (e, h) refl
  lone_step x o e h = absurd h

  -- After an opening, a basic content header of an allowed size above zero is part of the message, which then awaits its body.
  pub header_step : (opening x : X) (o : FrameOutline) → outline x ≡ o → IsBasicHeader o → size_in o ≤ max
      → 0 < size_in o → step outline max (At (Opened opening)) x ≡ (Within (Opened opening) x, At (Headed opening x []))
  header_step opening x (outlines.Header channel class size) e h fits some =
      let basic : eqb class 60 ≡ true = eq-eqb class 60 h in
      let fit : leb size max ≡ true = grind (arith, nat_tests) in
      let more : eqb 0 size ≡ false = ne_eqb 0 size (omega arith) in
      rw (e, basic, fit, e, more) refl
  header_step opening x o e h fits some = absurd h

  -- After an opening, a basic content header of size zero ends the message.
  pub empty_step : (opening x : X) (o : FrameOutline) → outline x ≡ o → IsBasicHeader o → size_in o ≡ 0
      → step outline max (At (Opened opening)) x ≡ (Ends (Opened opening) x, At Nothing)
  empty_step opening x (outlines.Header channel class size) e h none =
      let basic : eqb class 60 ≡ true = eq-eqb class 60 h in
      let fit : leb size max ≡ true = grind (arith, nat_tests) in
      let all : eqb 0 size ≡ true = eq-eqb 0 size (sym none) in
      rw (e, basic, fit, e, all) refl
  empty_step opening x o e h none = absurd h

  -- A body with which a message is not at its size yet is part of it, and is added to it.
  pub body_step : (opening header : X) (before : List X) (x : X) (o : FrameOutline)
      → outline x ≡ o → IsBody o → bytes_in outline before + count_in o < size_in (outline header)
      → step outline max (At (Headed opening header before)) x ≡ (Within (Headed opening header before) x, At (Headed opening header (before ++ x ∷ [])))
  body_step opening header before x (outlines.Body channel count) e h more =
      let fit : leb (bytes_in outline before + count) (size_in (outline header)) ≡ true = grind (arith, nat_tests) in
      let some : eqb (bytes_in outline before + count) (size_in (outline header)) ≡ false = ne_eqb _ _ (omega arith) in
      rw (e, fit, some) refl
  body_step opening header before x o e h more = absurd h

  -- A body with which a message is at its size ends it.
  pub last_step : (opening header : X) (before : List X) (x : X) (o : FrameOutline)
      → outline x ≡ o → IsBody o → bytes_in outline before + count_in o ≡ size_in (outline header)
      → step outline max (At (Headed opening header before)) x ≡ (Ends (Headed opening header before) x, At Nothing)
  last_step opening header before x (outlines.Body channel count) e h done =
      let fit : leb (bytes_in outline before + count) (size_in (outline header)) ≡ true = grind (arith, nat_tests) in
      let all : eqb (bytes_in outline before + count) (size_in (outline header)) ≡ true = eq-eqb _ _ done in
      rw (e, fit, all) refl
  last_step opening header before x o e h done = absurd h

  bodies_run : (opening header : X) (before xs : List X) → AllByRecursion (λ y. IsBody (outline y)) xs
      → bytes_in outline before + bytes_in outline xs < size_in (outline header)
      → Runs (At (Headed opening header before)) xs (bodies_within opening header before xs) (At (Headed opening header (before ++ xs)))
  bodies_run opening header before [] h less = record { answers_are = refl; state_is = rw append-nil refl }
  bodies_run opening header before (x ∷ xs) h less =
      let one = body_step opening header before x (outline x) refl h.0 (omega arith) in
      let rest = bodies_run opening header (before ++ x ∷ []) xs h.1 (omega (arith, bytes_in-push outline before x)) in
      let joined = runs_append (runs_step (At (Headed opening header before)) x one) rest in
      record { answers_are = joined.answers_are; state_is = rw append_assoc at joined.state_is }

  pub begun_runs : (begun : Begun X) → IsBegun outline max begun → Runs (At Nothing) (begun_frames begun) (begun_answers begun) (At begun)
  begun_runs Nothing h = runs_nothing (At Nothing)
  begun_runs (Opened opening) h = runs_step (At Nothing) opening (opening_step opening (outline opening) refl h)
  begun_runs (Headed opening header bodies) h =
      let one = runs_step (At Nothing) opening (opening_step opening (outline opening) refl h.0) in
      let two = runs_step (At (Opened opening)) header (header_step opening header (outline header) refl h.1 h.2 (omega (arith, h.4))) in
      let more = bodies_run opening header [] bodies h.3 (omega (arith, h.4)) in
      runs_append one (runs_append two more)

  -- The frames of a finished unit, between units, give its outcomes, and leave nothing begun.
  pub finished_runs : (unit : Finished X) → IsFinished outline max unit → Runs (At Nothing) (finished_frames unit) (finished_answers unit) (At Nothing)
  finished_runs (Lone method) h = runs_step (At Nothing) method (lone_step method (outline method) refl h)
  finished_runs (Empty opening header) h =
      let one = runs_step (At Nothing) opening (opening_step opening (outline opening) refl h.0) in
      let two = runs_step (At (Opened opening)) header (empty_step opening header (outline header) refl h.1 h.2) in
      runs_append one two
  finished_runs (Full opening header bodies last) h =
      let front = begun_runs (Headed opening header bodies) h.0 in
      let end = runs_step (At (Headed opening header bodies)) last (last_step opening header bodies last (outline last) refl h.1 h.2) in
      runs_append front end

  pub units_run : (units : List (Finished X)) → AllByRecursion (IsFinished outline max) units
      → Runs (At Nothing) (flat_map finished_frames units) (flat_map finished_answers units) (At Nothing)
  units_run [] h = runs_nothing (At Nothing)
  units_run (unit ∷ units) h = runs_append (finished_runs unit h.0) (units_run units h.1)

  -- The frames of finished units and a begun unit give their outcomes, and leave the begun unit.
  pub turn_runs : (units : List (Finished X)) (begun : Begun X) → AllByRecursion (IsFinished outline max) units
      → IsBegun outline max begun → Runs (At Nothing) (frames_in units begun) (answers_in units begun) (At begun)
  turn_runs units begun finished h = runs_append (units_run units finished) (begun_runs begun h)

  -- frames in turn are not refused
  in_turn_at : (xs : List X) → IsInTurn outline max xs → (begun : Begun X) × (run_state outline max (At Nothing) xs ≡ At begun)
  in_turn_at xs h = (h.begun, ap (run_state outline max (At Nothing)) h.are ∙ (turn_runs h.units h.begun h.finished h.is_begun).state_is)

  -- ---- one frame more in turn

  -- where one frame more finishes a unit, or is added to what has begun, the frames are in turn
  closed : (units : List (Finished X)) (begun : Begun X) (x : X) (unit : Finished X) → AllByRecursion (IsFinished outline max) units
      → IsFinished outline max unit → finished_frames unit ≡ begun_frames begun ++ x ∷ [] → IsInTurn outline max (frames_in units begun ++ x ∷ [])
  closed units begun x unit finished h frames = record {
    units = units ++ unit ∷ [];
    begun = Nothing;
    finished = all-append (IsFinished outline max) units (unit ∷ []) finished (h, tt);
    is_begun = tt;
    are =
        append_assoc (flat_map finished_frames units) (begun_frames begun) (x ∷ [])
        ∙ ap (λ fs. flat_map finished_frames units ++ fs) (sym (append-nil (finished_frames unit) ∙ frames))
        ∙ sym (append-nil (flat_map finished_frames (units ++ unit ∷ [])) ∙ flat_map-append finished_frames units (unit ∷ []));
  }

  grown : (units : List (Finished X)) (begun : Begun X) (x : X) (more : Begun X) → AllByRecursion (IsFinished outline max) units
      → IsBegun outline max more → begun_frames more ≡ begun_frames begun ++ x ∷ [] → IsInTurn outline max (frames_in units begun ++ x ∷ [])
  grown units begun x more finished h frames = record {
    units = units;
    begun = more;
    finished = finished;
    is_begun = h;
    are = append_assoc (flat_map finished_frames units) (begun_frames begun) (x ∷ []) ∙ ap (λ fs. flat_map finished_frames units ++ fs) (sym frames);
  }

  -- a prefix of a list with one more item is a prefix of the list, or all
  prefix_push : (xs : List X) (x : X) (front back : List X) → xs ++ x ∷ [] ≡ front ++ back → ((more : List X) × (xs ≡ front ++ more)) ⊎ (front ≡ xs ++ x ∷ [])
  prefix_push xs x [] back e = inl (xs, refl)
  prefix_push [] x (f ∷ []) back e = inr cc
  prefix_push [] x (f ∷ g ∷ gs) back e = absurd cc
  prefix_push (y ∷ ys) x (f ∷ fs) back e =
      let tails : ys ++ x ∷ [] ≡ fs ++ back = cc in
      let heads : y ≡ f = cc in
      elim (prefix_push ys x fs back tails) [
        | inl found ↦ inl (found.0, let rest : ys ≡ fs ++ found.0 = found.1 in cc)
        | inr all ↦ inr cc
      ]

  -- what is refused ends the longest prefix
  refused_longest : (xs : List X) (x : X) (bound : ℕ) → ((front back : List X) → xs ≡ front ++ back → IsInTurn outline max front → length front ≤ bound)
      → run_state outline max (At Nothing) (xs ++ x ∷ []) ≡ Lost → (front back : List X)
      → xs ++ x ∷ [] ≡ front ++ back → IsInTurn outline max front → length front ≤ bound
  refused_longest xs x bound longest lost front back parts turn = elim (prefix_push xs x front back parts) [
    | inl found ↦ longest front found.0 found.1 turn
    | inr all ↦
        let at = in_turn_at front turn in
        let same : At at.0 ≡ Lost = sym at.1 ∙ ap (run_state outline max (At Nothing)) all ∙ lost in
        absurd cc
  ]

  -- ---- readings

  -- the first frame that is not in turn is refused
  rest_runs : (xs : List X) (reading : Reading outline max xs) → (rest : List X) → reading.rest ≡ rest
      → Runs (At reading.begun) rest (rest_answers outline reading.begun rest) (state_after reading.begun rest)
  rest_runs xs reading [] e = runs_nothing (At reading.begun)
  rest_runs xs reading (x ∷ rest) e = by_move (moved outline max reading.begun x reading.is_begun)
    where
      longer : IsInTurn outline max (frames_in reading.units reading.begun ++ x ∷ []) → ⊥
      longer turn =
          let parts : xs ≡ (frames_in reading.units reading.begun ++ x ∷ []) ++ rest =
          reading.are ∙ ap (λ r. frames_in reading.units reading.begun ++ r) e ∙ sym (append_assoc (frames_in reading.units reading.begun) (x ∷ []) rest) in
          let bound = reading.longest (frames_in reading.units reading.begun ++ x ∷ []) rest parts turn in
          omega (arith, bound, length_push (frames_in reading.units reading.begun) x)

      by_move : Moved outline max reading.begun x (step outline max (At reading.begun) x)
          → Runs (At reading.begun) (x ∷ rest) (rest_answers outline reading.begun (x ∷ rest)) Lost
      by_move (closes unit h frames answers state) = absurd (longer (closed reading.units reading.begun x unit reading.finished h frames))
      by_move (grows more h frames answers state) = absurd (longer (grown reading.units reading.begun x more reading.finished h frames))
      by_move (refused answer state) =
          let lost = runs_lost rest in
          record {
            answers_are = rw (answer, state, lost.answers_are) refl;
            state_is = rw (state, lost.state_is) refl;
          }

  -- each reading gives what the steps give
  pub reading_runs : (xs : List X) (reading : Reading outline max xs)
      → Runs (At Nothing) xs (answers_of outline max xs reading) (state_after reading.begun reading.rest)
  reading_runs xs reading =
      let front = turn_runs reading.units reading.begun reading.finished reading.is_begun in
      let back = rest_runs xs reading reading.rest refl in
      let all = runs_append front back in
      record {
        answers_are = ap (run_answers outline max (At Nothing)) reading.are ∙ all.answers_are;
        state_is = ap (run_state outline max (At Nothing)) reading.are ∙ all.state_is;
      }

  reading_none : Reading outline max []
  reading_none = record {
    units = [];
    begun = Nothing;
    rest = [];
    finished = tt;
    is_begun = tt;
    are = refl;
    longest = λ front back parts turn. omega (arith, ap length parts, length-append front back);
  }

  -- where the next frame is refused, it is added to the rest
  read_rest : (xs : List X) (reading : Reading outline max xs) (x : X)
      → run_state outline max (At Nothing) (xs ++ x ∷ []) ≡ Lost → Reading outline max (xs ++ x ∷ [])
  read_rest xs reading x lost = record {
    units = reading.units;
    begun = reading.begun;
    rest = reading.rest ++ x ∷ [];
    finished = reading.finished;
    is_begun = reading.is_begun;
    are = ap (λ ys. ys ++ x ∷ []) reading.are ∙ append_assoc (frames_in reading.units reading.begun) reading.rest (x ∷ []);
    longest = refused_longest xs x (length (frames_in reading.units reading.begun)) reading.longest lost;
  }

  -- where all frames are in turn, nothing is left over
  read_turn : (xs : List X) → IsInTurn outline max xs → Reading outline max xs
  read_turn xs turn = record {
    units = turn.units;
    begun = turn.begun;
    rest = [];
    finished = turn.finished;
    is_begun = turn.is_begun;
    are = turn.are ∙ sym (append-nil (frames_in turn.units turn.begun));
    longest = λ front back parts other. omega (arith, ap length turn.are, ap length parts, length-append front back);
  }

  -- a reading of frames goes on to one more
  read_more : (xs : List X) (reading : Reading outline max xs) (x : X) (rest : List X) → reading.rest ≡ rest → Reading outline max (xs ++ x ∷ [])
  read_more xs reading x (y ∷ rest) e =
      let gone : run_state outline max (At Nothing) xs ≡ Lost = (reading_runs xs reading).state_is ∙ ap (state_after reading.begun) e in
      read_rest xs reading x (rw (run_state-append (At Nothing) xs (x ∷ []), gone) refl)
  read_more xs reading x [] e = by_move (moved outline max reading.begun x reading.is_begun)
    where
      ends : IsInTurn outline max (frames_in reading.units reading.begun ++ x ∷ []) → Reading outline max (xs ++ x ∷ [])
      ends turn =
          let whole : xs ≡ frames_in reading.units reading.begun =
          reading.are ∙ ap (λ r. frames_in reading.units reading.begun ++ r) e ∙ append-nil (frames_in reading.units reading.begun) in
          read_turn (xs ++ x ∷ []) (subst (λ ys. IsInTurn outline max (ys ++ x ∷ [])) (sym whole) turn)

      by_move : Moved outline max reading.begun x (step outline max (At reading.begun) x) → Reading outline max (xs ++ x ∷ [])
      by_move (closes unit h frames answers state) = ends (closed reading.units reading.begun x unit reading.finished h frames)
      by_move (grows more h frames answers state) = ends (grown reading.units reading.begun x more reading.finished h frames)
      by_move (refused answer state) =
          let was : run_state outline max (At Nothing) xs ≡ At reading.begun = (reading_runs xs reading).state_is ∙ ap (state_after reading.begun) e in
          read_rest xs reading x (rw (run_state-append (At Nothing) xs (x ∷ []), was) state)

  read_on : (xs ys : List X) → Reading outline max xs → Reading outline max (xs ++ ys)
  read_on xs [] reading = rw append-nil reading
  read_on xs (y ∷ ys) reading = rw (← append_assoc xs (y ∷ []) ys) (read_on (xs ++ y ∷ []) ys (read_more xs reading y reading.rest refl))

  -- all frames have a reading
  pub reading_of : (xs : List X) → Reading outline max xs
  reading_of xs = read_on [] xs reading_none

  -- ---- what contracts cite

  -- the outcomes are those of the steps
  pub answers_run : (xs : List X) (answers : List (Answer X)) → Answers outline max xs answers → answers ≡ run_answers outline max (At Nothing) xs
  answers_run xs answers h = h.are ∙ sym (reading_runs xs h.reading).answers_are

  -- The outcomes of one step after another are those by the longest prefix in turn.
  pub run_is_answers : (xs : List X) → Answers outline max xs (run_answers outline max (At Nothing) xs)
  run_is_answers xs = record { reading = reading_of xs; are = (reading_runs xs (reading_of xs)).answers_are }

  -- A state that stands for frames is the one after their steps.
  pub stands_run : (xs : List X) (state : State X) → Stands outline max xs state → state ≡ run_state outline max (At Nothing) xs
  stands_run xs state h = h.is ∙ sym (reading_runs xs h.reading).state_is

  -- The state after the steps of frames stands for them.
  pub run_stands : (xs : List X) → Stands outline max xs (run_state outline max (At Nothing) xs)
  run_stands xs = record { reading = reading_of xs; is = (reading_runs xs (reading_of xs)).state_is }

  -- a step from the state that stands for frames gives the last of the outcomes, that of one frame more, and the state that stands then
  pub record Advances (xs : List X) (state : State X) (x : X) : Type 0 where
    pub last : IsLastAnswer outline max (xs ++ x ∷ []) (step outline max state x).0
    pub stands : Stands outline max (xs ++ x ∷ []) (step outline max state x).1

  -- From the state that stands for frames, a step gives the outcome of one frame more, and the state that stands then.
  pub advance : (xs : List X) (state : State X) (x : X) → Stands outline max xs state → Advances xs state x
  advance xs state x h =
      let was = sym (stands_run xs state h) in
      let answers = rw was at (run_answers-append (At Nothing) xs (x ∷ [])) in
      let after = rw was at (run_state-append (At Nothing) xs (x ∷ [])) in
      record {
        last =
            record {
              before = run_answers outline max (At Nothing) xs;
              answers = subst (Answers outline max (xs ++ x ∷ [])) answers (run_is_answers (xs ++ x ∷ []));
            };
        stands = subst (Stands outline max (xs ++ x ∷ [])) after (run_stands (xs ++ x ∷ []));
      }

  -- no frames leave nothing begun
  pub stands_nothing : Stands outline max [] (At Nothing)
  unfolding reading_none
  stands_nothing = record { reading = reading_none; is = refl }
