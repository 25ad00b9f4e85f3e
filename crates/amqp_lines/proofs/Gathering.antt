-- Canonical bytes of lines, gathered one after another.
use Rattle.amqp_lines.proofs
use proofs.Names.{subst, ◌≡◌, ℕ, ◌-◌, List, [], ◌∷◌, ◌++◌, length, take, drop, Ok, Err, refl, sym, ap, ◌∙◌, append_assoc, append-nil, arith, Result}
use proofs.Names.{length-append, take-append-drop, drop_at, Frame, canon, canon_frames, Store, Gathered, Gains-none, Gains-then, Rises-later, line, lines}
use proofs.Names.{HasNoNewline, IsFirstLine, GathersLines, GathersAll, PassesLines, IsLineOf, IsStrictWithin, IsLongestText, LinePlace, UndumpError, lengths}
use proofs.Names.errors
use Rattle.std.proofs.lemmas.Grind.{flat_map-append}
use Rattle.amqp_stream.specs.Writing.{Keeps}
use Rattle.amqp_lines.specs.LineReading.{GathersLine, IsNextPlace, PassesLine}
use proofs.TextFronts.{AllStrict, all_strict, are_strict, first_line, IsAtNone, at_other, is_longest}
use proofs.Deciding.{Fronts}
use Rattle.amqp_stream.proofs.Transcribing.{gathered_then}
use proofs.Newlines.{each_both}

-- ---- sequences one after another

-- The text of frames one after the other is the text of the first, and then that of the others.
pub lines_both : (fs gs : List Frame) → lines (fs ++ gs) ≡ lines fs ++ lines gs
unfolding lines
lines_both fs gs = flat_map-append line fs gs

-- The canonical bytes of frames one after the other are those of the first, and then those of the others.
pub canon_both : (fs gs : List Frame) → canon_frames (fs ++ gs) ≡ canon_frames fs ++ canon_frames gs
canon_both fs gs = flat_map-append canon fs gs

line_alone : (f : Frame) → lines (f ∷ []) ≡ line f
unfolding lines
line_alone f = append-nil (line f)

-- ---- lines that are passed

-- no line is passed by none
pub passes_none : (at : LinePlace) → PassesLines [] at at
unfolding lines
passes_none at = record { line = λ h. omega arith; place = λ h. omega arith }

-- lines of frames are passed, and then those of more frames
pub passes_both : (fs gs : List Frame) (at beyond now : LinePlace) → PassesLines fs at beyond → PassesLines gs beyond now → PassesLines (fs ++ gs) at now
passes_both fs gs at beyond now h k =
    let few = length-append fs gs in
    let all = ap length (lines_both fs gs) ∙ length-append _ (lines gs) in
    record { line = λ fits. omega (arith, few, fits, h.line, k.line); place = λ fits. omega (arith, all, fits, h.place, k.place) }

passes_one : (f : Frame) {text : List ℕ} (at now : LinePlace) → text ≡ line f → IsNextPlace (length text) at now → PassesLines (f ∷ []) at now
passes_one f at now is h =
    let size = ap length (line_alone f ∙ sym is) in
    record { line = λ fits. omega (arith, h.line, fits); place = λ fits. omega (arith, size, h.place, fits) }

-- ---- after some lines

-- the canonical bytes of some lines in front of a text were gathered, and this text is left
pub record Along (m : ℕ) (text rest : List ℕ) (at now : LinePlace) (a b : Store) (before after : List ℕ) : Type 0 where
  pub frames : List Frame
  pub good : AllStrict m frames
  pub parts : text ≡ lines frames ++ rest
  pub passes : PassesLines frames at now
  pub gathered : Gathered a b before after (canon_frames frames)

-- At the start no line was read and nothing was gathered.
pub along_begins : (m : ℕ) (text : List ℕ) (at : LinePlace) (a : Store) (before : List ℕ) → Along m text text at at a a before before
unfolding lines
along_begins m text at a before = record {
  frames = [];
  good = tt;
  parts = refl;
  passes = passes_none at;
  gathered = record { written = []; gains = Gains-none a; parts = sym (append-nil before) };
}

-- the lines in front, and one more
record OneMore (m : ℕ) (text others : List ℕ) (at now : LinePlace) (fs : List Frame) (f : Frame) : Type 0 where
  good : AllStrict m (fs ++ f ∷ [])
  parts : text ≡ lines (fs ++ f ∷ []) ++ others
  passes : PassesLines (fs ++ f ∷ []) at now
  canonical : canon_frames (fs ++ f ∷ []) ≡ canon_frames fs ++ canon f

still : {a b c : Store} {x y z p : List ℕ} → Gathered a b x y p → Keeps b c y z → Gathered a c x z p
still g k = rw append-nil at (gathered_then g k)

module _ {m : ℕ} {text rest before after : List ℕ} {at now : LinePlace} {a b : Store} (h : Along m text rest at now a b before after) where
  one_more : {canonical : List ℕ} {beyond : LinePlace} (end : ℕ) (part others : List ℕ) → part ≡ take end rest → others ≡ drop end rest
      → (is : IsLineOf m part canonical) → IsNextPlace (length part) now beyond → OneMore m text others at beyond h.frames is.frame
  one_more {beyond = beyond} end part others part_is others_is is next =
      let one = is.frame ∷ [] in
      let here : rest ≡ lines one ++ others = cc (take-append-drop end rest, part_is, others_is, is.is_line, line_alone is.frame) in
      record {
        good = each_both (IsStrictWithin m) h.frames one h.good (is.strict_within, tt);
        parts = cc (h.parts, here, append_assoc (lines h.frames) (lines one) others, lines_both h.frames one);
        passes = passes_both h.frames one at now beyond h.passes (passes_one is.frame now beyond is.is_line next);
        canonical = cc (canon_both h.frames one, append-nil (canon is.frame));
      }

  -- With one line more, the canonical bytes of its frame are gathered too, and the text after it is left.
  pub along_line : {later : List ℕ} {beyond : LinePlace} {c : Store} (end : ℕ) (part others : List ℕ) → part ≡ take end rest → others ≡ drop end rest
      → GathersLine m part b c after later (Ok tt) → IsNextPlace (length part) now beyond → Along m text others at beyond a c before later
  along_line end part others part_is others_is g next =
      let more = one_more end part others part_is others_is g.1 next in
      record {
        frames = h.frames ++ g.1.frame ∷ [];
        good = more.good;
        parts = more.parts;
        passes = more.passes;
        gathered = rw (more.canonical, ← g.1.is_canonical) (gathered_then h.gathered g.2);
      }

  -- what is gathered where no line more is read
  lines_by : {later : List ℕ} {c : Store} (r : Result ℕ UndumpError) → GathersAll m text h.frames rest a c before later r
      → GathersLines m text at now a c before later r
  lines_by r gathers =
      record { frames = h.frames; are_strict = are_strict m h.frames h.good; rest = rest; parts = h.parts; passes = h.passes; gathers = gathers }

  -- Where no newline is left, the canonical bytes of all lines in front are gathered, and the count of bytes left is returned.
  pub lines_done : (left : ℕ) → left ≡ length rest → HasNoNewline rest → GathersLines m text at now a b before after (Ok left)
  lines_done left is none = lines_by _ (is, none, h.gathered)

  -- the line of that error is passed only where it is that of a frame
  error_at : {end : ℕ} {later : List ℕ} {beyond : LinePlace} {c : Store} (error : UndumpError) → IsFirstLine rest end
      → GathersLine m (take end rest) b c after later (Err error) → PassesLine (take end rest) now beyond (Err error)
      → GathersLines m text at beyond a c before later (Err error)
  error_at {end = end} errors.BadText first g same =
      rw same (lines_by _ (
        is_longest h.good h.parts (at_other m rest end first g.0),
        record { front = first.front; back = drop end rest; parts = first_line rest end first },
        still h.gathered g.1,
      ))
  error_at errors.NoMemory first g same = rw same (lines_by _ (still h.gathered g))
  error_at {end = end} {c = c} errors.WriteFault first g next =
      let is = g.1 in
      let f = g.2 in
      let more = one_more end _ _ refl refl is next in
      let w = h.gathered in
      let whole : (w.written ++ f.piece) ++ f.prefix.0 ≡ before ++ canon_frames (h.frames ++ is.frame ∷ []) =
      cc (
        append_assoc w.written f.piece f.prefix.0,
        f.prefix.1,
        append_assoc w.written after g.0,
        w.parts,
        append_assoc before (canon_frames h.frames) g.0,
        is.is_canonical,
        more.canonical,
      ) in
      record {
        frames = h.frames ++ is.frame ∷ [];
        are_strict = are_strict m _ more.good;
        rest = drop end rest;
        parts = more.parts;
        passes = more.passes;
        gathers = record {
          piece = w.written ++ f.piece;
          gains = Gains-then _ _ _ _ _ w.gains f.gains;
          prefix = (f.prefix.0, whole);
          rises = Rises-later a.faults b.faults c.faults w.gains.faults f.gains.faults f.rises;
          none = f.none;
        };
      }
  error_at error first g next = absurd g

  -- Where the next line ends with an error, gathering the lines ends with it, after the lines before.
  pub lines_error : {end : ℕ} {later : List ℕ} {beyond : LinePlace} {c : Store} (part : List ℕ) (error : UndumpError) → part ≡ take end rest
      → IsFirstLine rest end → GathersLine m part b c after later (Err error) → PassesLine part now beyond (Err error)
      → GathersLines m text at beyond a c before later (Err error)
  lines_error {later = later} {beyond = beyond} {c = c} part error is first g next =
      error_at error first (subst (λ xs. GathersLine m xs b c after later (Err error)) is g)
      (subst (λ xs. PassesLine xs now beyond (Err error)) is next)

-- ---- the longest text, in parts

-- After the longest text in front of some bytes no line is in front.
pub at_none : {m : ℕ} {text : List ℕ} {frames : List Frame} {rest : List ℕ} → IsLongestText m text frames rest → IsAtNone m rest
unfolding IsAtNone
at_none {m = m} {text = text} {frames = frames} h f x good e =
    let one = f ∷ [] in
    let begins : lines (frames ++ one) ++ x ≡ text =
    cc (lines_both frames one, append_assoc (lines frames) (lines one) x, line_alone f, e, h.parts) in
    omega (
      arith,
      h.longest (frames ++ one)
          (are_strict m (frames ++ one) (each_both (IsStrictWithin m) frames one (all_strict m frames h.are_strict) (good, tt))) (x, begins),
      length-append frames one,
    )

-- Lines in front of a longest text are a longest text together with it.
pub longest_after : {m : ℕ} (fs : List Frame) {text : List ℕ} {gs : List Frame} {rest : List ℕ}
    → AllStrict m fs → IsLongestText m text gs rest → IsLongestText m (lines fs ++ text) (fs ++ gs) rest
longest_after {m = m} fs {gs = gs} {rest = rest} good h =
    is_longest (each_both _ fs gs good (all_strict m gs h.are_strict))
    (cc (h.parts, append_assoc (lines fs) (lines gs) rest, lines_both fs gs)) (at_none h)

-- The lines in front of a text that are followed by no line are the longest text in front.
pub longest_is : {m : ℕ} {text : List ℕ} (h : Fronts m text) → IsLongestText m text h.frames h.rest
longest_is h = is_longest h.good h.parts h.none

-- ---- how it ends

-- No newline is among no characters.
pub none_yet : (text : List ℕ) → HasNoNewline (take 0 text)
none_yet [] = tt
none_yet (x ∷ xs) = tt

-- what is kept is what comes after the lines
pub kept_rest : {m place : ℕ} {text before after : List ℕ} {at now : LinePlace} {a b : Store}
    (h : GathersLines m text at now a b before after (Ok place)) → drop (length text - place) text ≡ h.rest
kept_rest {place = place} {text = text} h =
    ap (drop _) h.parts
    ∙ drop_at _ h.rest (length text - place) (omega (lengths, h.gathers.0, ap length h.parts))
