-- What the quick walk makes of fields and frames, one after another.
use Rattle.amqp_fields_write.proofs
use Rattle.amqp_fields_write.specs
use proofs.Names.{◌≡◌, ℕ, ◌+◌, ◌-◌, ◌^◌, ◌<◌, ◌≤◌, ◌==◌, Bool, true, false, List, [], ◌∷◌, ◌++◌, length, take, drop, Result, Ok, Err, refl, sym, ap, subst, ◌∙◌}
use proofs.Names.{append_assoc, append-nil, arith, nat_lt, if◌then◌else◌, numbers, drop_all, length-append, length-take-le, take_at, end_byte, inner_depth}
use proofs.Names.{protocol_byte, Puts, written, framed, head, Head, Node, at_head, WriteError, IsCounted, cut_long, zero, suc, made_field, StandsFirst}
use proofs.Names.whys
use proofs.Names.failures
use proofs.Names.meant
use specs.Made.{Made, made_each, made_entry, made_value, refuse_head, own_index}
use specs.MadeFrames.{are_beyond, made_around, made_payload, made_typed}
use specs.Making.{AreWritten, IsTooSmall, made_alone, made_whole}
use specs.Quick.{AreLaid, Encloses, HaveRoom, IsEnclosed, IsWhole, Lays, LaysUntil, nowhere, NoGroup, placed}
use proofs.MeantFramesMade.{around_ok, at_ok, given_within}
use proofs.FramesMade.{never_at}
use proofs.MadeOfParts.{fails, alone_ok, holds}
use proofs.Quick.{begins_at, both_laid, front_laid, laid_as, laid_where, part_fits}
use Rattle.amqp_types.specs.Slots.{table_form}
use specs.MadeFields.{is_field, made_form}
use proofs.ValuesMade.{held, not_past, passed}

-- ---- fields of methods

-- a field is made of its node and those inside it, where that is of its kind and at its place
field_parts : (pool : List ℕ) (end place : ℕ) (form : meant.Form) {nodes inside others : List Node} {node : Node} → StandsFirst nodes node inside others
    → made_field pool end place form nodes
    ≡ placed place form node (own_index (end - length others) inside) (made_form pool form (end - length others) node inside)
unfolding made_field
field_parts pool end place form {nodes} {inside} {others} {node} h =
    let at : end - length (node ∷ (inside ++ others)) ≡ own_index (end - length others) inside = omega (arith, length-append inside others) in
    ap (made_field pool end place form) h.nodes_are ∙ rw (not_past h, passed h, held h, at)

-- a field, by its node and those inside it
pub field_laid : {tests puts : Bool} {limit : ℕ} (pool : List ℕ) (end place : ℕ) (form : meant.Form)
    {nodes inside others : List Node} {node : Node} {old new : List ℕ} {at next : ℕ} → StandsFirst nodes node inside others
    → LaysUntil tests puts limit
    (placed place form node (own_index (end - length others) inside) (made_form pool form (end - length others) node inside)) old new at next
    → LaysUntil tests puts limit (made_field pool end place form nodes) old new at next
field_laid pool end place form first h = laid_as (field_parts pool end place form first) h

some_inside : (k : ℕ) (nodes : List Node) → 0 < k → k ≤ length nodes → take k nodes ≡ [] → ⊥
some_inside zero nodes some le is = absurd (omega (arith, some))
some_inside (suc k) [] some le is = absurd (omega (arith, le))
some_inside (suc k) (node ∷ nodes) some le is = absurd cc

-- only in a table something may lie inside
never_form : (pool : List ℕ) (form : meant.Form) (end : ℕ) (node : Node) (others : List Node) (bytes : List ℕ) → NoGroup form (node ∷ others)
    → node.inside ≤ length others → made_form pool form end node (take node.inside others) ≡ Ok bytes → ⊥
unfolding made_form
never_form pool table_form end node others bytes none le is = absurd (omega (arith, none node others refl, le))
never_form pool form end node others bytes none le is =
    some_inside node.inside others (none node others refl) le (alone_ok _ _ (take node.inside others) is).0

-- a first node with those inside it that is no field so is not made
pub no_field : (pool : List ℕ) (end place : ℕ) (form : meant.Form) (nodes : List Node) → NoGroup form nodes
    → (bytes : List ℕ) → made_field pool end place form nodes ≡ Ok bytes → ⊥
unfolding made_field
no_field pool end place form [] none bytes is = absurd cc
no_field pool end place form (node ∷ others) none bytes is =
    let fits = fails (nat_lt (length others) node.inside) _ _ bytes is in
    never_form pool form _ node others bytes none (grind (numbers, fits.0)) (holds (is_field place form node) _ _ bytes fits.1).1

-- a payload of at most so many bytes stands in its frame
around_is : (m : ℕ) (head_of : Head) {made : Made} {payload : List ℕ} → made ≡ Ok payload → length payload ≤ m
    → made_around m head_of made ≡ Ok (framed head_of.frame_type head_of.channel payload)
around_is m head_of {payload = payload} is few =
    let short : nat_lt m (length payload) ≡ false = grind (numbers, few) in
    rw (is, short)

-- a payload that is laid, with what stands around it
enclosed_is : {puts : Bool} {type channel m : ℕ} {payload old mid new : List ℕ} {at start end result : ℕ} → AreLaid puts payload old mid start end
    → start ≡ at + 7 → IsEnclosed puts type channel start end m mid new at result → AreLaid puts (framed type channel payload) old new at result
enclosed_is {puts} {type} {channel} {payload = payload} {old} {new = new} {at} {start} {end} {result} a begins e =
    let n : end - start ≡ length payload = omega (arith, a.end_is) in
    subst (λ bs. AreLaid puts bs old new at result)
    (append_assoc (head type channel (end - start)) payload (end_byte ∷ []) ∙ ap (λ k. head type channel k ++ (payload ++ end_byte ∷ [])) n)
    (both_laid (front_laid {first = head type channel (end - start)} a e.laid begins) e.ended)

-- a payload with what stands around it, where contents in it that are given do not go beyond the most that it may have
pub enclosed : {tests puts : Bool} (m limit : ℕ) (head_of : Head) {made : Made} {old mid new : List ℕ} {at start end result : ℕ}
    → LaysUntil tests puts limit made old mid start end → start ≡ cut_long (at + 7) → limit ≡ cut_long (start + m)
    → Encloses tests puts head_of.frame_type head_of.channel start end m mid new at result
    → Lays tests puts (made_around m head_of made) old new at result
enclosed {tests} {puts} m limit head_of {made} {old} {mid} {new} {at} {start} {end} {result} one there most h = record {
  sound = λ u few.
      let e = h.sound u few in
      let less : end < nowhere = omega (arith, few, e.ended.end_is) in
      let a = one.sound u less in
      record {
        bytes = framed head_of.frame_type head_of.channel a.bytes;
        is = around_is m head_of a.is (omega (arith, a.laid.end_is, e.fits));
        laid = enclosed_is a.laid (begins_at at 7 there a.laid less) e;
      };
  complete = λ bytes is room.
      let found = around_ok m head_of made is in
      let payload = found.0 in
      let size : length bytes ≡ length payload + 8 = omega (arith, ap length found.3, length-append payload (end_byte ∷ [])) in
      let begins : start ≡ at + 7 = grind (numbers, there, size, room.few) in
      let part : HaveRoom puts nowhere payload old start = part_fits room refl (omega (arith, begins, size)) in
      let a =
      one.complete payload found.1 (record {
        few = part.few;
        until = grind (numbers, most, part.few, found.2);
        within = part.within;
      }) in
      subst (λ bs. AreLaid puts bs old new at result) (sym found.3) (enclosed_is a begins
      (h.complete (omega (arith, a.end_is, found.2)) (part_fits room a.same_length (omega (arith, size)))
      (part_fits room a.same_length (omega (arith, begins, a.end_is, size)))));
}

-- a frame that is no protocol header is made around its payload: contents in this that are given are not longer than it
pub typed_laid : {tests puts : Bool} (pool : List ℕ) (nodes : List Node) (m : ℕ) (head_of : Head) {old new : List ℕ} {at end : ℕ}
    → (head_of.frame_type ≡ protocol_byte → ⊥) → Lays tests puts (made_around m head_of (made_payload pool nodes head_of)) old new at end
    → Lays tests puts (made_typed pool nodes m head_of) old new at end
unfolding made_typed
typed_laid {tests} {puts} pool nodes m head_of {old} {new} {at} {end} differs h =
    laid_as (rw other) (laid_where into back h)
  where
    around : Made
    around = made_around m head_of (made_payload pool nodes head_of)

    typed : Made
    typed = if are_beyond m nodes head_of then refuse_head whys.TooLarge else around

    other : (head_of.frame_type == protocol_byte) ≡ false
    other = grind (numbers, differs)

    into : tests ≡ true → (bytes : List ℕ) → around ≡ Ok bytes → typed ≡ Ok bytes
    into t bytes is =
        let found = around_ok m head_of (made_payload pool nodes head_of) is in
        let within : are_beyond m nodes head_of ≡ false = grind (numbers, given_within pool nodes head_of found.0 found.1, found.2) in
        rw within is

    back : (bytes : List ℕ) → typed ≡ Ok bytes → around ≡ Ok bytes
    back bytes is = (fails (are_beyond m nodes head_of) _ _ bytes is).1

-- ---- heads

-- what a head is made of
pub at_laid : {tests puts : Bool} {made : Made} {old new : List ℕ} {at end : ℕ} (k : ℕ)
    → Lays tests puts made old new at end → Lays tests puts (at_head k made) old new at end
at_laid {made = made} k h = laid_where (λ t bytes is. ap (at_head k) is) (at_ok k made) h

-- ---- what is returned

-- a refusal of a content is none of the buffer
pub never_content : (entries : Bool) (pool : List ℕ) (nodes : List Node) (n : ℕ) → made_alone entries pool nodes ≡ Err (failures.TooSmall n) → ⊥
never_content true pool nodes n h =
    never_at 0 (made_whole (made_each (made_entry pool (made_value pool inner_depth)) (length nodes) 0 nodes)) n h
never_content false pool nodes n h = never_at 0 (made_whole (made_each (made_value pool inner_depth) (length nodes) 0 nodes)) n h

-- bytes that are as many as the buffer has are all of it
pub all_written : (old bytes : List ℕ) → length bytes ≡ length old → written old 0 bytes ≡ bytes
unfolding written
all_written old bytes same =
    let none : drop (0 + length bytes) old ≡ [] = drop_all (0 + length bytes) old (omega (arith, same)) in
    ap (λ rest. bytes ++ rest) none ∙ append-nil bytes

-- a buffer that has as many bytes as were made is filled with them
pub whole_laid : {E : Type 0} {tests : Bool} {made : Result (List ℕ) E} {old new : List ℕ} {end : ℕ} → length old < 2 ^ 63
    → Lays tests true made old new 0 end → IsWhole made old new
whole_laid {old = old} few h bytes is same =
    let one = h.complete bytes is (record { few = omega (arith, few, same); until = omega (arith, few, same); within = λ some. omega (arith, same) }) in
    one.put refl (omega arith) ∙ all_written old bytes same

-- bytes that were counted in vain are more than a buffer has
pub too_small : {made : Result (List ℕ) WriteError} {puts : Bool} {between after_it old : List ℕ} {needed count : ℕ}
    → Lays true puts made between after_it 0 count → count ≡ nowhere → puts ≡ false → IsCounted made needed → length old < 2 ^ 63
    → IsTooSmall made old old needed
too_small {old = old} {needed} h none counts m few =
    let long : ((length m.bytes < nowhere) → ⊥) =
    λ less.
    let one = h.complete m.bytes m.is (record { few = omega (arith, less); until = omega (arith, less); within = λ some. absurd cc }) in
    absurd (omega (arith, one.end_is, none, less)) in
    record {
      bytes = m.bytes;
      made_is = m.is;
      needed_is = m.count_is;
      more = grind (numbers, m.count_is, few, long);
      unchanged = refl;
    }

-- the front of a buffer that is what is made
pub front_written : {made : Result (List ℕ) WriteError} {puts : Bool} {between after_it old front : List ℕ} {count : ℕ}
    → Lays true puts made between after_it 0 count → count < nowhere → count ≤ length old → IsWhole made (take count old) front
    → AreWritten made old (front ++ drop count old) count
unfolding written
front_written {old = old} {front} {count} h some within whole =
    let one = h.sound refl some in
    let size : length one.bytes ≡ count = omega (arith, one.laid.end_is) in
    let is : front ≡ one.bytes = whole one.bytes one.is (size ∙ sym (length-take-le count old within)) in
    record {
      bytes = one.bytes;
      made_is = one.is;
      count_is = sym size;
      within = within;
      written_is = ap (λ bs. bs ++ drop count old) is ∙ ap (λ k. one.bytes ++ drop k old) (omega (arith, size));
    }

-- few bytes that were put beside a buffer are copied
pub few_copied : {made : Result (List ℕ) WriteError} {before between old new : List ℕ} {count next : ℕ}
    → Lays true true made before between 0 count → count ≤ length before → length before < 2 ^ 63
    → count ≤ length old → Puts old new 0 (take count between) next → AreWritten made old new count
unfolding written
few_copied {before = before} {between} {old} {count = count} h fits few within put =
    let one = h.sound refl (omega (arith, fits, few)) in
    let size : length one.bytes ≡ count = omega (arith, one.laid.end_is) in
    record {
      bytes = one.bytes;
      made_is = one.is;
      count_is = sym size;
      within = within;
      written_is =
          put.put ∙ ap (written old 0)
          (ap (take count) (one.laid.put refl (omega arith)) ∙ take_at one.bytes (drop (0 + length one.bytes) before) count size);
    }
