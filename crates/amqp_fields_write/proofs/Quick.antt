-- What the quick walk makes, by its parts.
use Rattle.amqp_fields_write.proofs
use Rattle.amqp_fields_write.specs
use proofs.Names.{◌≡◌, subst, ℕ, ◌+◌, ◌-◌, ◌^◌, ◌<◌, ◌≤◌, Bool, true, false, List, [], ◌∷◌, ◌++◌, length, Result, Ok, Err, refl, sym, ap, ◌∙◌, arith}
use proofs.Names.{if◌then◌else◌, numbers, IsAscii, is_utf8, length-append, bytes4, number_bytes, is_too_long, Puts, written, cut_long}
use proofs.Names.errors
use Rattle.std.proofs.lemmas.Str.{IsUtf8-from_ascii, is_utf8-from_IsUtf8}
use Rattle.amqp_types.specs.Strings.{short_string_bytes, with_length}
use Rattle.amqp_types.proofs.WrittenParts.{written-written, written-length, written-nil}
use Rattle.amqp_canonical.proofs.PutParts.{written_before}
use specs.Made.{Made, after, closed, faulty, made_long, made_text}
use specs.Quick.{AreLaid, BytesFit, Fronts, HaveRoom, IsFronted, IsLaid, Lays, LaysBytes, LaysUntil, nowhere}
use proofs.Combined.{not_lt}
use proofs.MadeOfParts.{after_ok, closed_ok, holds}

-- ---- what is laid

-- results that are equal have equal bytes
one_result : {E : Type 0} {made : Result (List ℕ) E} {a b : List ℕ} → made ≡ Ok a → made ≡ Ok b → a ≡ b
one_result {E} {made} {a} {b} h k = same (sym h ∙ k)
  where
    same : (◌≡◌ {A = Result (List ℕ) E} (Ok a) (Ok b)) → a ≡ b
    same h = cc

-- bytes are laid
pub bytes_laid : {E : Type 0} {puts : Bool} {bytes old new : List ℕ} {at end : ℕ} → IsLaid {E = E} puts (Ok bytes) old new at end
    → AreLaid puts bytes old new at end
bytes_laid {puts = puts} {old = old} {new} {at} {end} h = subst (λ bs. AreLaid puts bs old new at end) (one_result h.is refl) h.laid

-- a part of bytes that have room has it
pub part_fits : {puts : Bool} {limit : ℕ} {bytes part old mid : List ℕ} {at place : ℕ} → HaveRoom puts limit bytes old at
    → length mid ≡ length old → place + length part ≤ at + length bytes → HaveRoom puts limit part mid place
part_fits room same le =
    record { few = omega (arith, room.few, le); until = omega (arith, room.until, le); within = λ some. omega (arith, room.within some, le, same) }

-- bytes that have room up to a limit have it without one
pub no_limit : {puts : Bool} {limit : ℕ} {bytes old : List ℕ} {at : ℕ} → HaveRoom puts limit bytes old at → BytesFit puts bytes old at
no_limit room = record { few = room.few; until = omega (arith, room.few); within = room.within }

module _ {E : Type 0} {tests puts : Bool} {limit : ℕ} {made : Result (List ℕ) E} {old new : List ℕ} {at end : ℕ} where
  -- bytes that are made and laid, whether it is tested or not
  pub laid : {bytes : List ℕ} → made ≡ Ok bytes → AreLaid puts bytes old new at end → LaysUntil tests puts limit made old new at end
  laid {bytes} is one = record {
    sound = λ t few. record { bytes = bytes; is = is; laid = one };
    complete = λ others h room. subst (λ bs. AreLaid puts bs old new at end) (one_result is h) one;
  }

  -- what has no room has no place
  lost : ((bytes : List ℕ) → made ≡ Ok bytes → HaveRoom puts limit bytes old at → ⊥) → nowhere ≤ end → LaysUntil tests puts limit made old new at end
  lost never none = record { sound = λ t few. absurd (omega (arith, none, few)); complete = λ bytes is room. absurd (never bytes is room) }

  -- what has no place has no room
  no_place : LaysUntil tests puts limit made old new at end → nowhere ≤ end → {bytes : List ℕ} → made ≡ Ok bytes → HaveRoom puts limit bytes old at → ⊥
  no_place h none {bytes} is room = let one = h.complete bytes is room in absurd (omega (arith, one.end_is, room.few, none))

  -- where nothing is made, there is no place
  pub never_laid : ((bytes : List ℕ) → made ≡ Ok bytes → ⊥) → nowhere ≤ end → LaysUntil tests puts limit made old new at end
  never_laid never none = lost (λ bytes is room. never bytes is) none

  -- where something is refused, neither
  pub refused_laid : (bad : E) → made ≡ Err bad → nowhere ≤ end → LaysUntil tests puts limit made old new at end
  refused_laid bad is none = never_laid (λ bytes h. absurd cc) none

  -- what is laid without a limit is laid up to one
  pub laid_until : Lays tests puts made old new at end → LaysUntil tests puts limit made old new at end
  laid_until h = record { sound = h.sound; complete = λ bytes is room. h.complete bytes is (no_limit room) }

  -- what is made where another is, and only where that is, is laid with it; where nothing is tested, only where that is
  pub laid_where : {F : Type 0} {other : Result (List ℕ) F} → (tests ≡ true → (bytes : List ℕ) → other ≡ Ok bytes → made ≡ Ok bytes)
      → ((bytes : List ℕ) → made ≡ Ok bytes → other ≡ Ok bytes)
      → LaysUntil tests puts limit other old new at end → LaysUntil tests puts limit made old new at end
  laid_where into back h = record {
    sound = λ t few. let one = h.sound t few in record { bytes = one.bytes; is = into t one.bytes one.is; laid = one.laid };
    complete = λ bytes is room. h.complete bytes (back bytes is) room;
  }

  -- what equal results give is the same
  pub laid_as : {other : Result (List ℕ) E} → made ≡ other → LaysUntil tests puts limit other old new at end → LaysUntil tests puts limit made old new at end
  laid_as same h = laid_where (λ t bytes is. same ∙ is) (λ bytes is. sym same ∙ is) h

-- bytes that are equal are laid alike
pub bytes_as : {tests puts : Bool} {a b old new : List ℕ} {at end : ℕ} → a ≡ b → LaysBytes tests puts a old new at end → LaysBytes tests puts b old new at end
bytes_as is h = laid_as (ap Ok (sym is)) h

-- bytes are counted
counted : {tests puts : Bool} (bytes old : List ℕ) (at end : ℕ) → puts ≡ false
    → end ≡ cut_long (at + length bytes) → LaysBytes tests puts bytes old old at end
counted {tests} {puts} bytes old at end none is = record {
  sound = λ t few. record { bytes = bytes; is = refl; laid = give few };
  complete = λ others h room.
      let size : length others ≡ length bytes = ap length (one_result h refl) in
      subst (λ bs. AreLaid puts bs old old at end) (one_result refl h) (give (grind (numbers, is, size, room.few)));
}
  where
    give : end < nowhere → AreLaid puts bytes old old at end
    give few = record { end_is = grind (numbers, is, few); same_length = refl; within = λ some le. absurd cc; put = λ some le. absurd cc }

-- bytes are put
put_laid : {puts : Bool} (bytes old new : List ℕ) (at end : ℕ) → at + length bytes ≤ length old → Puts old new at bytes end → AreLaid puts bytes old new at end
put_laid bytes old new at end room h = record {
  end_is = h.behind;
  same_length = ap length h.put ∙ written-length old at bytes room;
  within = λ some le. omega (arith, room, h.behind);
  put = λ some le. h.put;
}

-- no bytes are laid
pub nothing_laid : {puts : Bool} {old : List ℕ} {at : ℕ} → AreLaid puts [] old old at at
nothing_laid {old = old} {at} = record { end_is = omega arith; same_length = refl; within = λ some le. le; put = λ some le. sym (written-nil old at) }

-- ---- parts

-- two parts are laid, one behind the other
pub both_laid : {puts : Bool} {a b old mid new : List ℕ} {at place end : ℕ}
    → AreLaid puts a old mid at place → AreLaid puts b mid new place end → AreLaid puts (a ++ b) old new at end
both_laid {puts} {a} {b} {old} {mid} {new} {at} {place} {end} one two =
    let size = length-append a b in
    record {
      end_is = omega (arith, one.end_is, two.end_is, size);
      same_length = two.same_length ∙ one.same_length;
      within = λ some le. omega (arith, one.same_length, two.within some (omega (arith, one.within some le, one.same_length)));
      put = λ some le.
          let there : place ≤ length mid = omega (arith, one.within some le, one.same_length) in
          two.put some there ∙ ap (λ bs. written bs place b) (one.put some le)
          ∙ written-written old at place a b one.end_is (omega (arith, size, one.end_is, two.end_is, one.same_length, two.within some there));
    }

module _ {E : Type 0} {tests puts : Bool} {limit : ℕ} {first : Result (List ℕ) E} {old mid new : List ℕ} {at place end : ℕ}
    (one : LaysUntil tests puts limit first old mid at place) where
  -- two parts, one behind the other
  pub laid_after : {second : Result (List ℕ) E} → LaysUntil tests puts limit second mid new place end
      → LaysUntil tests puts limit (after first second) old new at end
  laid_after {second} two = record {
    sound = λ t few.
        let b = two.sound t few in
        let a = one.sound t (omega (arith, few, b.laid.end_is)) in
        record { bytes = a.bytes ++ b.bytes; is = rw (a.is, b.is); laid = both_laid a.laid b.laid };
    complete = λ bytes is room.
        let p = after_ok first second is in
        let a = one.complete p.front p.first_is (part_fits room refl (omega (arith, p.size))) in
        subst (λ bs. AreLaid puts bs old new at end) (sym p.bytes_are) (both_laid a
        (two.complete p.behind p.second_is (part_fits room a.same_length (omega (arith, a.end_is, p.size)))));
  }

  -- where the first part has no place, both have none
  none_after : (second : Result (List ℕ) E) → nowhere ≤ place → nowhere ≤ end → LaysUntil tests puts limit (after first second) old new at end
  none_after second none still =
      lost (λ bytes is room. let p = after_ok first second is in no_place one none p.first_is (part_fits room refl (omega (arith, p.size)))) still

-- three parts are put
pub parts_laid : {tests puts : Bool} {old mid other new : List ℕ} {at place next end : ℕ} (a b c : List ℕ)
    → at + ((length a + length b) + length c) ≤ length old
    → Puts old mid at a place → Puts mid other place b next → Puts other new next c end → LaysBytes tests puts (a ++ (b ++ c)) old new at end
parts_laid {tests} {puts} {old} {mid} {other} {new} {at} {place} {next} {end} a b c room one two three =
    let first = put_laid {puts = puts} a old mid at place (omega (arith, room)) one in
    let second = put_laid {puts = puts} b mid other place next (omega (arith, room, first.same_length, first.end_is)) two in
    let third = put_laid {puts = puts} c other new next end
    (omega (arith, room, first.same_length, second.same_length, first.end_is, second.end_is)) three in
    laid refl (both_laid first (both_laid second third))

-- ---- texts and contents

-- what a test says holds where it is tested, and then something else
pub tested : {Fact : Type 0} {tests test result : Bool} → (test ≡ true → Fact) → result ≡ (if tests then test else true) → result ≡ true → tests ≡ true → Fact
tested {Fact} {tests} {test} fact is one t = fact (sym (ap (λ b. if b then test else true) t) ∙ sym is ∙ one)

-- a text of at most 255 bytes of UTF-8 is made of its short string
pub text_laid : {tests puts : Bool} (node : ℕ) (text : List ℕ) {old new : List ℕ} {at end : ℕ} → length text < 256 → (tests ≡ true → is_utf8 text ≡ true)
    → LaysBytes tests puts (short_string_bytes text) old new at end → Lays tests puts (made_text node text) old new at end
text_laid {tests} node text few valid h = laid_where (λ t bytes is. short ∙ ap by_test (valid t) ∙ is) back h
  where
    by_test : Bool → Made
    by_test test = if test then Ok (short_string_bytes text) else faulty node errors.NotUtf8

    short : made_text node text ≡ by_test (is_utf8 text)
    short = rw (not_lt 255 (length text) (omega (arith, few)))

    back : (bytes : List ℕ) → made_text node text ≡ Ok bytes → (◌≡◌ {A = Made} (Ok (short_string_bytes text)) (Ok bytes))
    back bytes is = (holds (is_utf8 text) (Ok (short_string_bytes text)) _ bytes (sym short ∙ is)).1

-- so is a text of ASCII
pub ascii_laid : {tests puts : Bool} (node : ℕ) (text : List ℕ) {old new : List ℕ} {at end : ℕ} → length text < 256 → (tests ≡ true → IsAscii text)
    → LaysBytes tests puts (short_string_bytes text) old new at end → Lays tests puts (made_text node text) old new at end
ascii_laid node text few ascii h = text_laid node text few (λ t. is_utf8-from_IsUtf8 text (IsUtf8-from_ascii text (ascii t))) h

-- a short string is counted
pub string_counted : {tests puts : Bool} (text : List ℕ) {old : List ℕ} {at end : ℕ} → puts ≡ false
    → end ≡ cut_long (at + (1 + length text)) → LaysBytes tests puts (short_string_bytes text) old old at end
string_counted text {old} {at} {end} none is =
    let sum : at + (1 + length text) ≡ at + length (short_string_bytes text) = omega arith in
    counted (short_string_bytes text) old at end none (is ∙ ap (λ k. cut_long k) sum)

-- it is put
pub string_put : {tests puts : Bool} {old mid new : List ℕ} {at place end : ℕ} (text : List ℕ) → at + (1 + length text) ≤ length old
    → Puts old mid at (length text ∷ []) place → Puts mid new place text end → LaysBytes tests puts (short_string_bytes text) old new at end
string_put {tests} {puts} {old} {mid} {new} {at} {place} {end} text room one two =
    let first = put_laid {puts = puts} (length text ∷ []) old mid at place (omega (arith, room)) one in
    laid refl (both_laid first (put_laid text mid new place end (omega (arith, room, first.same_length, first.end_is)) two))

long_is : (node : ℕ) (content : List ℕ) → length content < 2 ^ 32 → made_long node content ≡ Ok (with_length content)
long_is node content few =
    let short : is_too_long content ≡ false = grind (numbers, few) in rw short

-- content that a length of 4 bytes counts
pub long_laid : {tests puts : Bool} {old mid new : List ℕ} {at place end : ℕ} (node : ℕ) (content : List ℕ) → length content < 2 ^ 32
    → LaysBytes tests puts (number_bytes bytes4 (length content)) old mid at place → LaysBytes tests puts content mid new place end
    → Lays tests puts (made_long node content) old new at end
long_laid node content few one two = laid_as (long_is node content few) (laid_after one two)

-- ---- what is put later

-- what stands in front is laid later
pub front_laid : {puts : Bool} {first bytes old mid new : List ℕ} {at start end place : ℕ} → AreLaid puts bytes old mid start end
    → AreLaid puts first mid new at place → start ≡ at + length first → AreLaid puts (first ++ bytes) old new at end
front_laid {puts} {first} {bytes} {old} {mid} {new} {at} {start} {end} {place} one front begins =
    let room : puts ≡ true → at ≤ length old → start ≤ length old =
    λ some le. omega (arith, begins, one.same_length, front.end_is, front.within some (omega (arith, le, one.same_length))) in
    record {
      end_is = omega (arith, one.end_is, begins, length-append first bytes);
      same_length = front.same_length ∙ one.same_length;
      within = λ some le. one.within some (room some le);
      put = λ some le.
          front.put some (omega (arith, le, one.same_length)) ∙ ap (λ bs. written bs at first) (one.put some (room some le))
          ∙ written_before old first bytes at start begins (omega (arith, one.end_is, one.within some (room some le)));
    }

-- bytes that are made behind others
pub behind_ok : (first : List ℕ) (made : Made) {bytes : List ℕ} → after (Ok first) made ≡ Ok bytes
    → (behind : List ℕ) × (made ≡ Ok behind) × (bytes ≡ first ++ behind)
behind_ok first (Ok behind) is = (behind, refl, cc)
behind_ok first (Err bad) is = absurd cc

-- a place that was not cut
pub begins_at : {puts : Bool} {bytes old new : List ℕ} (at size : ℕ) {start end : ℕ} → start ≡ cut_long (at + size) → AreLaid puts bytes old new start end
    → end < nowhere → start ≡ at + size
begins_at at size there a few = grind (numbers, there, a.end_is, few)

-- where bytes have room, that of their front is not cut, and both parts have it
later_fits : {puts : Bool} {limit : ℕ} (first behind : List ℕ) {bytes old : List ℕ} {at start : ℕ} → bytes ≡ first ++ behind → HaveRoom puts limit bytes old at
    → start ≡ cut_long (at + length first) → (start ≡ at + length first) × HaveRoom puts limit behind old start
later_fits first behind {bytes} {at = at} {start} is room there =
    let size : length bytes ≡ length first + length behind = ap length is ∙ length-append first behind in
    let begins : start ≡ at + length first = grind (numbers, there, size, room.few) in
    (begins, part_fits room refl (omega (arith, size, begins)))

-- and what is in front
front_fits : {puts : Bool} {limit : ℕ} (first behind : List ℕ) {bytes old mid : List ℕ} {at : ℕ} → bytes ≡ first ++ behind → HaveRoom puts limit bytes old at
    → length mid ≡ length old → BytesFit puts first mid at
front_fits first behind is room same = no_limit (part_fits room same (omega (arith, ap length is, length-append first behind)))

module _ {tests puts : Bool} {limit : ℕ} (first : List ℕ) {made : Made} {old mid : List ℕ} {at start end : ℕ}
    (one : LaysUntil tests puts limit made old mid start end) (there : start ≡ cut_long (at + length first)) where
  -- what stands in front, and is put later
  pub later_laid : {new : List ℕ} {place : ℕ} → (end < nowhere → LaysBytes tests puts first mid new at place) → place < nowhere
      → LaysUntil tests puts limit (after (Ok first) made) old new at end
  later_laid {new} h some = record {
    sound = λ t few.
        let a = one.sound t few in
        record {
          bytes = first ++ a.bytes;
          is = rw a.is;
          laid = front_laid a.laid (bytes_laid ((h few).sound t some)) (begins_at at (length first) there a.laid few);
        };
    complete = λ bytes is room.
        let p = behind_ok first made is in
        let fits = later_fits first p.0 p.2 room there in
        let a = one.complete p.0 p.1 fits.1 in
        subst (λ bs. AreLaid puts bs old new at end) (sym p.2) (front_laid a
        ((h (omega (arith, a.end_is, fits.1.few))).complete first refl (front_fits first p.0 p.2 room a.same_length)) fits.0);
  }

  -- it has no room
  pub later_lost : {new : List ℕ} {place far : ℕ} → (end < nowhere → LaysBytes tests puts first mid new at place) → nowhere ≤ place → nowhere ≤ far
      → LaysUntil tests puts limit (after (Ok first) made) old new at far
  later_lost h none still =
      lost (λ bytes is room.
      let p = behind_ok first made is in
      let fits = (later_fits first p.0 p.2 room there).1 in
      let a = one.complete p.0 p.1 fits in
      no_place (h (omega (arith, a.end_is, fits.few))) none refl (front_fits first p.0 p.2 room a.same_length)) still

-- content with its length, which is put later
closed_is : {puts : Bool} {content old mid new : List ℕ} {at start end total : ℕ} → AreLaid puts content old mid start end
    → start ≡ at + 4 → IsFronted puts start end mid new at total → AreLaid puts (with_length content) old new at total
closed_is {puts} {content} {old} {mid} {new} {at} {start} {end} {total} a begins front =
    let count : end - start ≡ length content = omega (arith, a.end_is) in
    let laid = front_laid {first = number_bytes bytes4 (end - start)} a front.laid begins in
    subst (λ place. AreLaid puts (with_length content) old new at place) (sym front.place_is)
    (subst (λ k. AreLaid puts (number_bytes bytes4 k ++ content) old new at end) count laid)

-- the same, whether it is tested or not
pub closed_laid : {tests puts : Bool} {limit : ℕ} {made : Made} {old mid new : List ℕ} {at start end total : ℕ} (node : ℕ)
    → LaysUntil tests puts limit made old mid start end → start ≡ cut_long (at + 4) → Fronts tests puts start end mid new at total
    → LaysUntil tests puts limit (closed node made) old new at total
closed_laid {tests} {puts} {limit} {made} {old} {mid} {new} {at} {start} {end} {total} node one there h = record {
  sound = λ t few.
      let front = h.sound t few in
      let a = one.sound t (omega (arith, few, front.place_is)) in
      record {
        bytes = with_length a.bytes;
        is = ap (closed node) a.is ∙ long_is node a.bytes (omega (arith, a.laid.end_is, front.fits));
        laid = closed_is a.laid (begins_at at 4 there a.laid (omega (arith, few, front.place_is))) front;
      };
  complete = λ bytes is room.
      let found = closed_ok node made is in
      let parts : bytes ≡ number_bytes bytes4 (length found.0) ++ found.0 = found.3.bytes_are in
      let fits = later_fits (number_bytes bytes4 (length found.0)) found.0 parts room there in
      let a = one.complete found.0 found.1 fits.1 in
      let count : end - start ≡ length found.0 = omega (arith, a.end_is) in
      subst (λ bs. AreLaid puts bs old new at total) (sym parts) (closed_is a fits.0
      (h.complete (omega (arith, count, found.3.fits))
      (subst (λ k. BytesFit puts (number_bytes bytes4 k) mid at) (sym count)
      (front_fits (number_bytes bytes4 (length found.0)) found.0 parts room a.same_length))));
}

-- ---- loops

-- whatever is made of the rest, behind what was made so far, is made as a whole
abbrev pub Leads : {E : Type 0} → Bool → Bool → ℕ → Result (List ℕ) E → Result (List ℕ) E → List ℕ → List ℕ → ℕ → ℕ → Type 0
Leads tests puts limit whole rest old mid at place =
    (new : List ℕ) (end : ℕ) → LaysUntil tests puts limit rest mid new place end → LaysUntil tests puts limit whole old new at end

-- at first the rest is the whole
pub leads_begin : {E : Type 0} (tests puts : Bool) (limit : ℕ) (whole : Result (List ℕ) E) (old : List ℕ) (at : ℕ)
    → Leads tests puts limit whole whole old old at at
leads_begin tests puts limit whole old at new end h = h

module _ {E : Type 0} {tests puts : Bool} {limit : ℕ} {whole rest : Result (List ℕ) E} {old mid : List ℕ} {at place : ℕ}
    (h : Leads tests puts limit whole rest old mid at place) where
  -- one part more is made
  pub leads_on : {one next : Result (List ℕ) E} {new : List ℕ} {end : ℕ} → rest ≡ after one next → LaysUntil tests puts limit one mid new place end
      → Leads tests puts limit whole next old new at end
  leads_on parts given later last behind = h later last (laid_as parts (laid_after given behind))

  -- where a part has no place, the whole has none
  pub leads_stop : {one : Result (List ℕ) E} (next : Result (List ℕ) E) {new other : List ℕ} {end none : ℕ} → rest ≡ after one next
      → LaysUntil tests puts limit one mid new place end → nowhere ≤ end → nowhere ≤ none → LaysUntil tests puts limit whole old other at none
  leads_stop next {other = other} {none = none} parts given far still = h other none (laid_as parts (none_after given next far still))

  -- where the rest is refused, so is the whole
  pub leads_refused : {new : List ℕ} {none : ℕ} (bad : E) → rest ≡ Err bad → nowhere ≤ none → LaysUntil tests puts limit whole old new at none
  leads_refused {new} {none} bad is still = h new none (refused_laid bad is still)

  -- where nothing is left, the whole was made
  pub leads_end : rest ≡ Ok [] → LaysUntil tests puts limit whole old mid at place
  leads_end none = h mid place (laid none nothing_laid)
