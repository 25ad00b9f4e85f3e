-- Pieces of bytes: one by one, joined again, none of them empty, and cut off again after more bytes.
use Rattle.std.proofs.Common.{◌≡◌, ℕ, ◌+◌, ◌-◌, ◌*◌, ◌/◌, ◌%◌, ◌<◌, ◌≤◌, min, ap₂, zero, suc, Bool, true, false, List, [], ◌∷◌, ◌++◌, Some, length, map, take}
use Rattle.std.proofs.Common.{drop, refl, sym, ap, ◌∙◌, arith, zero-mul, zero-add}
use Rattle.std.specs.Prelude.{slice_get}
use Rattle.std.proofs.Math.Seq.{take-add}
use Rattle.std.proofs.lemmas.List.{append-nil, append_assoc, drop-drop, drop_all, drop-append-le, take-append-le, length-append, length-drop, length-take}
use Rattle.std.proofs.lemmas.List.{take_all, take_min, drop_min}
use Rattle.std.proofs.lemmas.Nat.{div-add-mod'}
use Rattle.std.specs.List.{flat_map, AllByRecursion}
use Rattle.amqp_turns.specs.Splits.{chunks, cut_count, pieces, pieces_given, whole_pieces, left_over}

-- ---- chunks

-- The first n chunks of some bytes are n, even where no bytes are left for them.
pub length-chunks : (m n : ℕ) (bytes : List ℕ) → length (chunks m n bytes) ≡ n
length-chunks m zero bytes = refl
length-chunks m (suc n) bytes = ap suc (length-chunks m n (drop m bytes))

drop_more : (m k : ℕ) (bytes : List ℕ) → drop (k * m) (drop m bytes) ≡ drop (suc k * m) bytes
drop_more m k bytes = let place : m + k * m ≡ suc k * m = omega arith in rw (drop-drop (k * m) m bytes, place) refl

-- Chunk k has the bytes from k times the size of a chunk on, up to this size.
pub chunk_at : (m n k : ℕ) (bytes : List ℕ) → k < n → slice_get (chunks m n bytes) k ≡ Some (take m (drop (k * m) bytes))
chunk_at m zero k bytes h = absurd (omega arith)
chunk_at m (suc n) zero bytes h = rw zero-mul refl
chunk_at m (suc n) (suc k) bytes h = rw (chunk_at m n k (drop m bytes) (omega arith), drop_more m k bytes) refl

chunks-later : (m a b : ℕ) (bytes : List ℕ) → chunks m (a + b) bytes ≡ chunks m a bytes ++ chunks m b (drop (a * m) bytes)
chunks-later m zero b bytes = rw (zero-add, zero-mul) refl
chunks-later m (suc a) b bytes =
    let more : suc a + b ≡ suc (a + b) = omega arith in
    rw (more, chunks-later m a b (drop m bytes), drop_more m a bytes) refl

chunks-front : (m a : ℕ) (xs ys : List ℕ) → a * m ≤ length xs → chunks m a (xs ++ ys) ≡ chunks m a xs
chunks-front m zero xs ys h = refl
chunks-front m (suc a) xs ys h =
    let fits : m ≤ length xs = omega arith in
    rw (take-append-le m xs ys fits, drop-append-le m xs ys fits, chunks-front m a (drop m xs) ys (omega (arith, length-drop m xs))) refl

pub flat-chunks : (m n : ℕ) (bytes : List ℕ) → flat_map (λ part. part) (chunks m n bytes) ≡ take (n * m) bytes
flat-chunks m zero bytes = rw zero-mul refl
flat-chunks m (suc n) bytes =
    let place : m + n * m ≡ suc n * m = omega arith in
    rw (flat-chunks m n (drop m bytes), ← place) (sym (take-add m (n * m) bytes))

some_in : (m n : ℕ) (bytes : List ℕ) → 1 ≤ m → n * m < length bytes + m → AllByRecursion (λ part. 1 ≤ length part) (chunks m n bytes)
some_in m zero bytes h most = tt
some_in m (suc n) bytes h most = (omega (arith, length-take m bytes), some_in m n (drop m bytes) h (omega (arith, length-drop m bytes)))

-- ---- how many

no_whole : (n m : ℕ) → n < m → n / m ≡ 0
no_whole n m less = grind arith

whole_count : (n m : ℕ) → 1 ≤ m → m ≤ n → n / m ≡ suc ((n - m) / m)
whole_count n m h fits = grind arith

last_count : (m n : ℕ) → 1 ≤ m → 1 ≤ n → cut_count m true n ≡ suc (cut_count m true (n - m))
last_count m n h some = grind arith

count-none : (m : ℕ) (ends : Bool) → 1 ≤ m → cut_count m ends 0 ≡ 0
count-none m true h = no_whole (0 + (m - 1)) m (omega arith)
count-none m false h = no_whole 0 m (omega arith)

count-more : (m : ℕ) (ends : Bool) (n : ℕ) → 1 ≤ m → m ≤ n → cut_count m ends n ≡ suc (cut_count m ends (n - m))
count-more m true n h fits = last_count m n h (omega arith)
count-more m false n h fits = whole_count n m h fits

count-after : (m : ℕ) (ends : Bool) (a n : ℕ) → 1 ≤ m → a * m ≤ n → cut_count m ends n ≡ a + cut_count m ends (n - a * m)
count-after m ends zero n h fits =
    let all : n ≡ n - zero * m = omega arith in
    ap (cut_count m ends) all ∙ omega arith
count-after m ends (suc a) n h fits =
    let next : (n - m) - a * m ≡ n - suc a * m = omega arith in
    let rest = count-after m ends a (n - m) h (omega arith) in
    let more = count-more m ends n h (omega arith) in
    more ∙ ap suc (rest ∙ ap (λ k. a + cut_count m ends k) next) ∙ omega arith

times_more : (j k m : ℕ) → j ≤ k → j * m ≤ k * m
times_more j k m h = grind arith

pub whole_fits : (m n : ℕ) → 1 ≤ m → (n / m) * m ≤ n
whole_fits m n h = grind arith

pub whole_next : (m n : ℕ) → 1 ≤ m → n < (n / m + 1) * m
whole_next m n h = grind arith

pub last_fits : (m n : ℕ) → 1 ≤ m → cut_count m true n * m < n + m
last_fits m n h = grind arith

pub last_enough : (m n : ℕ) → 1 ≤ m → n ≤ cut_count m true n * m
last_enough m n h = grind arith

-- each piece begins within the bytes
pub piece_starts : (m n k : ℕ) (ends : Bool) → 1 ≤ m → k < cut_count m ends n → k * m ≤ n
piece_starts m n k true h less =
    let most : (k + 1) * m ≤ cut_count m true n * m = times_more (k + 1) (cut_count m true n) m (omega arith) in
    let fits = last_fits m n h in
    omega arith
piece_starts m n k false h less =
    let most : k * m ≤ (n / m) * m = times_more k (n / m) m (omega arith) in
    let fits = whole_fits m n h in
    omega arith

-- ---- pieces one by one

-- nothing is cut off nothing
pub given-nothing : (m : ℕ) (ends : Bool) (bytes : List ℕ) → 1 ≤ m → length bytes ≡ 0 → pieces_given m ends bytes ≡ []
given-nothing m ends bytes h none = rw (none, count-none m ends h) refl

-- one piece of the whole size
pub given-more : (m : ℕ) (ends : Bool) (bytes : List ℕ) → 1 ≤ m → m ≤ length bytes
    → pieces_given m ends bytes ≡ take m bytes ∷ pieces_given m ends (drop m bytes)
given-more m ends bytes h fits = rw (count-more m ends (length bytes) h fits, length-drop m bytes) refl

pub pieces-none : (m : ℕ) → 1 ≤ m → pieces m [] ≡ []
pieces-none m h = given-nothing m true [] h refl

pub pieces-more : (m : ℕ) (bytes : List ℕ) → 1 ≤ m → 1 ≤ length bytes → pieces m bytes ≡ take m bytes ∷ pieces m (drop m bytes)
pieces-more m bytes h some = rw (last_count m (length bytes) h some, length-drop m bytes) refl

-- the last piece of a body
pub given-ended : (m : ℕ) (bytes : List ℕ) → 1 ≤ m → 1 ≤ length bytes → length bytes ≤ m → pieces m bytes ≡ bytes ∷ []
given-ended m bytes h some less = rw (pieces-more m bytes h some, take_all m bytes less, drop_all m bytes less, pieces-none m h) refl

-- bytes of the size are one piece, and nothing is left
pub one-whole : (m : ℕ) (bytes : List ℕ) → 1 ≤ m → length bytes ≡ m → whole_pieces m bytes ≡ bytes ∷ []
one-whole m bytes h full =
    let none : length (drop m bytes) ≡ 0 = omega (arith, full, length-drop m bytes) in
    rw (given-more m false bytes h (omega arith), take_all m bytes (omega arith), given-nothing m false (drop m bytes) h none) refl

-- Nothing is left over of one piece of the whole size.
pub left-none : (m : ℕ) (bytes : List ℕ) → 1 ≤ m → length bytes ≡ m → left_over m bytes ≡ []
left-none m bytes h full =
    let once : (length bytes / m) * m ≡ suc ((length bytes - m) / m) * m = ap (λ k. k * m) (whole_count (length bytes) m h (omega arith)) in
    drop_all ((length bytes / m) * m) bytes (omega (arith, full, once))

-- Fewer bytes than the size of a piece make no whole piece.
pub whole-none : (m : ℕ) (bytes : List ℕ) → length bytes < m → whole_pieces m bytes ≡ []
whole-none m bytes less = rw (no_whole (length bytes) m less) refl

-- Fewer bytes than the size of a piece are all left over.
pub left-all : (m : ℕ) (bytes : List ℕ) → length bytes < m → left_over m bytes ≡ bytes
left-all m bytes less = rw (no_whole (length bytes) m less, zero-mul) refl

-- What is left over is shorter than a piece.
pub left_short : (m : ℕ) (bytes : List ℕ) → 1 ≤ m → length (left_over m bytes) < m
left_short m bytes h = omega (arith, whole_next m (length bytes) h, length-drop ((length bytes / m) * m) bytes)

-- ---- all together

-- pieces that are not empty, and what they join to
pub record ArePieces (bytes : List ℕ) (parts : List (List ℕ)) : Type 0 where
  pub joined : flat_map (λ part. part) parts ≡ bytes
  pub some : AllByRecursion (λ part. 1 ≤ length part) parts

-- The pieces of a body are not empty, and join to the body.
pub pieces_are : (m : ℕ) (bytes : List ℕ) → 1 ≤ m → ArePieces bytes (pieces m bytes)
pieces_are m bytes h =
    let n = cut_count m true (length bytes) in
    record {
      joined = flat-chunks m n bytes ∙ take_all (n * m) bytes (last_enough m (length bytes) h);
      some = some_in m n bytes h (last_fits m (length bytes) h);
    }

-- the whole pieces of some bytes have no more
pub whole_fit : (m : ℕ) (bytes : List ℕ) → 1 ≤ m → length (flat_map (λ part. part) (whole_pieces m bytes)) ≤ length bytes
whole_fit m bytes h = omega (arith, ap length (flat-chunks m (length bytes / m) bytes), length-take ((length bytes / m) * m) bytes)

-- ---- more bytes

rest_of : (m : ℕ) (before content : List ℕ) → 1 ≤ m → left_over m before ++ content ≡ drop ((length before / m) * m) (before ++ content)
rest_of m before content h = sym (drop-append-le ((length before / m) * m) before content (whole_fits m (length before) h))

-- how many are cut off what is left over and more bytes
count_of_rest : (m : ℕ) (ends : Bool) (before content : List ℕ) → 1 ≤ m
    → cut_count m ends (length (before ++ content)) ≡ length before / m + cut_count m ends (length (left_over m before ++ content))
count_of_rest m ends before content h =
    let a = length before / m in
    let all = before ++ content in
    let fits = whole_fits m (length before) h in
    let rest : length (left_over m before ++ content) ≡ length all - a * m = ap length (rest_of m before content h) ∙ length-drop (a * m) all in
    count-after m ends a (length all) h (omega (arith, fits, length-append before content)) ∙ ap (λ n. a + cut_count m ends n) (sym rest)

-- Pieces are cut off some bytes, and then off what is left over with more bytes: the pieces of all these bytes.
pub given_after : (m : ℕ) (ends : Bool) (before content : List ℕ) → 1 ≤ m
    → whole_pieces m before ++ pieces_given m ends (left_over m before ++ content) ≡ pieces_given m ends (before ++ content)
given_after m ends before content h =
    let a = length before / m in
    let b = cut_count m ends (length (left_over m before ++ content)) in
    let all = before ++ content in
    sym (ap (λ n. chunks m n all) (count_of_rest m ends before content h)
    ∙ chunks-later m a b all
    ∙ ap₂ (λ (ps qs : List (List ℕ)). ps ++ qs) (chunks-front m a before content (whole_fits m (length before) h))
    (ap (chunks m b) (sym (rest_of m before content h))))

-- what is left over then
pub left-more : (m : ℕ) (before content : List ℕ) → 1 ≤ m → left_over m (left_over m before ++ content) ≡ left_over m (before ++ content)
left-more m before content h =
    let a = length before / m in
    let b = length (left_over m before ++ content) / m in
    let all = before ++ content in
    let place : a * m + b * m ≡ (length all / m) * m = omega (arith, ap (λ n. n * m) (count_of_rest m false before content h)) in
    ap (drop (b * m)) (rest_of m before content h) ∙ drop-drop (b * m) (a * m) all ∙ ap (λ n. drop n all) place

-- the last bytes of two parts, where they are as many as are left over
pub left_is : (m count : ℕ) (front back : List ℕ) → count ≡ (length front + length back) % m
    → drop ((length front + length back) - count) (front ++ back) ≡ left_over m (front ++ back)
left_is m count front back e =
    let all = front ++ back in
    let total : length front + length back ≡ length all = sym (length-append front back) in
    let rest : length all / m * m + length all % m ≡ length all = div-add-mod' (length all) m in
    let part : count ≡ length all % m = e ∙ ap (λ n. n % m) total in
    let place : (length front + length back) - count ≡ length all / m * m = omega (arith, total, rest, part) in
    ap (λ n. drop n all) place

-- ---- one piece taken off

-- no more is taken than there is
pub short_take : (xs : List ℕ) (m : ℕ) → take (min (length xs) m) xs ≡ take m xs
short_take xs m = let same : min (length xs) m ≡ min m (length xs) = omega arith in rw same (take_min m xs)

-- Dropping bytes, but no more than there are, drops the same.
pub short_drop : (xs : List ℕ) (m : ℕ) → drop (min (length xs) m) xs ≡ drop m xs
short_drop xs m = let same : min (length xs) m ≡ min m (length xs) = omega arith in rw same (drop_min m xs)

-- one piece more is taken off
pub pieces-taken : {A : Type 0} (f : List ℕ → A) (m n : ℕ) (done : List A) (rest piece left : List ℕ) → 1 ≤ m → 1 ≤ length rest → n ≡ min (length rest) m
    → piece ≡ take n rest → left ≡ drop n rest → (done ++ f piece ∷ []) ++ map f (pieces m left) ≡ done ++ map f (pieces m rest)
pieces-taken f m n done rest piece left h some is piece_is left_is =
    rw (append_assoc done (f piece ∷ []) (map f (pieces m left)), piece_is, left_is, is, short_take rest m, short_drop rest m)
    (ap (λ ps. done ++ map f ps) (sym (pieces-more m rest h some)))

-- nothing is left
pub pieces-over : {A : Type 0} (f : List ℕ → A) (m : ℕ) (done all : List A) (rest : List ℕ)
    → 1 ≤ m → length rest ≡ 0 → done ++ map f (pieces m rest) ≡ all → done ≡ all
pieces-over f m done all rest h none is = rw (given-nothing m true rest h none, append-nil) at is
