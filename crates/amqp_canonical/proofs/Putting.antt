-- Things that are put one after another.
use Rattle.std.proofs.Common.{◌≡◌, ◌≤◌, false, ◌^◌, ◌<◌, ℕ, Bool, ◌+◌, List, [], ◌∷◌, ◌++◌, length, refl, sym, ap, ◌∙◌, append_assoc, append-nil, arith}
use Rattle.std.proofs.lemmas.List.{length-append}
use Rattle.amqp_types.specs.Writing.{Puts, written}
use Rattle.amqp_types.proofs.WrittenParts.{written-written, written-nil}
use Rattle.amqp_canonical.specs.Writes.{HasRoom, PutsIfRoom}

-- Bytes put, and others at the place after them, are one put of all, as far as there is room.
pub then_put : {old middle new : List ℕ} {at place end : ℕ} {first second : List ℕ} → PutsIfRoom old middle at first place
    → PutsIfRoom middle new place second end → PutsIfRoom old new at (first ++ second) end
then_put {old} {middle} {new} {at} {place} {end} {first} {second} one two =
    let sum = length-append first second in
    record {
      put = λ room.
          let before = one.put (omega (arith, sum, room)) in
          two.put (omega (arith, one.same, one.behind, sum, room)) ∙ ap (λ buf. written buf place second) before
          ∙ written-written old at place first second one.behind room;
      behind = two.behind ∙ omega (arith, one.behind, sum);
      same = two.same ∙ one.same;
    }

-- Putting no bytes leaves the buffer as it was, and ends where it began.
pub none_put : (buf : List ℕ) (at : ℕ) (bytes : List ℕ) → bytes ≡ [] → PutsIfRoom buf buf at bytes at
none_put buf at bytes none = record { put = λ room. sym (ap (written buf at) none ∙ written-nil buf at); behind = omega (arith, ap length none); same = refl }

-- A put of bytes is a put of equal bytes.
pub same_put : {old new : List ℕ} {at end : ℕ} {bytes other : List ℕ} → bytes ≡ other → PutsIfRoom old new at bytes end → PutsIfRoom old new at other end
same_put is h = rw (← is) h

-- room up to a place before another
pub has_room : {sure : Bool} {end last len long : ℕ} → end ≤ last → len ≡ long → HasRoom sure last long → HasRoom sure end len
has_room less same h = record { few = omega (arith, less, h.few); room = λ known. omega (arith, less, same, h.room known) }

-- room that is tested
pub tested_room : {end len : ℕ} → end < 2 ^ 64 → HasRoom false end len
tested_room few = record { few = few; room = λ known. absurd cc }

-- where there is room, everything is put
pub put_in_room : {old new : List ℕ} {at end : ℕ} {bytes : List ℕ}
    → at + length bytes ≤ length old → PutsIfRoom old new at bytes end → Puts old new at bytes end
put_in_room room h = record { put = h.put room; behind = h.behind }

-- the first things were put, and the others are left
pub record PutTo {A : Type 0} (content : List A → List ℕ) (all done left : List A) (old new : List ℕ) (at end : ℕ) : Type 0 where
  pub parts : done ++ left ≡ all
  pub put : PutsIfRoom old new at (content done) end

-- how the bytes of things are those of each
pub record IsEach {A : Type 0} (content : List A → List ℕ) (one : A → List ℕ) : Type 0 where
  pub none : content [] ≡ []
  pub more : (x : A) (xs : List A) → content (x ∷ xs) ≡ one x ++ content xs

-- Things that are left to be put are left by another name too.
pub put_left : {A : Type 0} {content : List A → List ℕ} {all done left other : List A} {old new : List ℕ} {at end : ℕ} → left ≡ other
    → PutTo content all done left old new at end → PutTo content all done other old new at end
put_left {done = done} is h = record { parts = ap (λ xs. done ++ xs) (sym is) ∙ h.parts; put = h.put }

module _ {A : Type 0} {content : List A → List ℕ} {one : A → List ℕ} (each : IsEach content one) where
  content_parts : (xs ys : List A) → content (xs ++ ys) ≡ content xs ++ content ys
  content_parts [] ys = sym (ap (λ bs. bs ++ content ys) each.none)
  content_parts (x ∷ xs) ys =
      each.more x (xs ++ ys) ∙ ap (λ bs. one x ++ bs) (content_parts xs ys)
      ∙ sym (append_assoc (one x) (content xs) (content ys)) ∙ ap (λ bs. bs ++ content ys) (sym (each.more x xs))

  content_one : (xs : List A) (x : A) → content (xs ++ x ∷ []) ≡ content xs ++ one x
  content_one xs x = content_parts xs (x ∷ []) ∙ ap (λ bs. content xs ++ bs) (each.more x [] ∙ ap (λ bs. one x ++ bs) each.none ∙ append-nil (one x))

  -- At the start none of a list were put.
  pub put_none : {all : List A} {buf : List ℕ} {at : ℕ} → PutTo content all [] all buf buf at at
  put_none {buf = buf} {at} = record { parts = refl; put = none_put buf at (content []) each.none }

  module _ {all done left : List A} {x : A} {old mid : List ℕ} {at end : ℕ} (h : PutTo content all done (x ∷ left) old mid at end) where
    total : length (content all) ≡ length (content done) + (length (one x) + length (content left))
    total =
        ap (λ xs. length (content xs)) (sym h.parts) ∙ ap length (content_parts done (x ∷ left) ∙ ap (λ bs. content done ++ bs) (each.more x left))
        ∙ omega (arith, length-append (content done) (one x ++ content left), length-append (one x) (content left))

    -- the next one does not pass the end
    pub put_within : end + length (one x) ≤ at + length (content all)
    put_within = omega (arith, h.put.behind, total)

    -- and is put
    pub put_next : {new : List ℕ} {place : ℕ} → PutsIfRoom mid new end (one x) place → PutTo content all (done ++ x ∷ []) left old new at place
    put_next two = record { parts = append_assoc done (x ∷ []) left ∙ h.parts; put = same_put (sym (content_one done x)) (then_put h.put two) }

  -- Where nothing is left, all were put.
  pub put_end : {all done : List A} {old new : List ℕ} {at end : ℕ} → PutTo content all done [] old new at end → PutsIfRoom old new at (content all) end
  put_end {done = done} h = same_put (ap content (sym (append-nil done) ∙ h.parts)) h.put
