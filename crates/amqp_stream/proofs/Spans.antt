-- What lies between two places of a buffer, once more was put after it or into it.
use Rattle.amqp_stream.proofs
use proofs.Names.{◌≡◌, ℕ, ◌+◌, ◌-◌, ◌≤◌, List, ◌++◌, length, take, drop, refl, subst, arith, append_assoc, Result, Ok, Err, IsBytes, Fault, written, Puts}
use proofs.Names.{IsBytes-take, IsBytes-drop, length-take-le, drop-drop, take-take, take_at, length-drop, drop_at, length-append, ParserError, Frame, canon}
use Rattle.std.proofs.Common.{IfOk}
use Rattle.std.proofs.lemmas.List.{take-append-le, drop-append-le}
use Rattle.std.proofs.lemmas.Slice.{between_is}
use Rattle.std.proofs.Math.Seq.{take-append-add}
use borrow.Rule.Slice.PartMut.{put_mid, post_of}
use Rattle.std.specs.List.{copy_within}
use Rattle.std.proofs.lemmas.List.Edits.{length-paste, take-paste}
use Rattle.amqp_wire.specs.Rewrites.{Rewrites}
use Rattle.amqp_stream.specs.Buffers.{AddsAt}

-- some bytes of a list, by two places
pub part-length : (xs : List ℕ) (s e : ℕ) → s ≤ e → e ≤ length xs → length (take (e - s) (drop s xs)) ≡ e - s
part-length xs s e h g = length-take-le (e - s) (drop s xs) (omega (arith, length-drop s xs))

-- The first of two lists of that length and so many bytes more are it and the front of the second.
pub add_at : (xs ys : List ℕ) (e n : ℕ) → length xs ≡ e → take (e + n) (xs ++ ys) ≡ xs ++ take n ys
add_at xs ys e n h = cc (take-append-add xs ys n)

-- what lies there grows by what was put after it
pub part-put : (xs ys : List ℕ) (s e k n : ℕ) → s ≤ e → e ≤ length xs → length ys ≡ k → n ≤ k
    → take (e + n - s) (drop s (put_mid e k xs ys)) ≡ take (e - s) (drop s xs) ++ take n ys
part-put xs ys s e k n h g len few =
    let front = length-take-le e xs g in
    let cut : take (e + n) (put_mid e k xs ys) ≡ take e xs ++ take n ys =
    cc (add_at (take e xs) (ys ++ post_of e k xs) e n front, take-append-le n ys (post_of e k xs) (omega arith)) in
    cc (between_is (put_mid e k xs ys) s (e + n), cut, drop-append-le s (take e xs) (take n ys) (omega arith), between_is xs s e)

-- and stays where it is not reached
pub part-kept : (xs ys : List ℕ) (s e k : ℕ) → s ≤ e → e ≤ length xs → take (e - s) (drop s (put_mid e k xs ys)) ≡ take (e - s) (drop s xs)
part-kept xs ys s e k h g =
    cc (between_is (put_mid e k xs ys) s e, take_at (take e xs) (ys ++ post_of e k xs) e (length-take-le e xs g), between_is xs s e)

-- what was put after it is bytes
pub part-bytes : (xs ys : List ℕ) (e k n : ℕ) → e ≤ length xs → length ys ≡ k → n ≤ k → IsBytes (put_mid e k xs ys) → IsBytes (take n ys)
part-bytes xs ys e k n g len few fits =
    let none : e - e ≡ 0 = omega arith in
    let put : take (e + n - e) (drop e (put_mid e k xs ys)) ≡ take n ys = cc (none, part-put xs ys e e k n (omega arith) g len few) in
    subst IsBytes put (IsBytes-take (e + n - e) (drop e (put_mid e k xs ys)) (IsBytes-drop e (put_mid e k xs ys) fits))

-- what is left of a part
pub part-drop : (xs : List ℕ) (s e n : ℕ) → take (e - (s + n)) (drop (s + n) xs) ≡ drop n (take (e - s) (drop s xs))
part-drop xs s e n = cc (between_is xs (s + n) e, drop-drop n s (take e xs), between_is xs s e)

-- a part of a part
pub part-part : (xs : List ℕ) (s e from len : ℕ) → s ≤ e → from + len ≤ e - s
    → take ((s + from + len) - (s + from)) (drop (s + from) xs) ≡ take len (drop from (take (e - s) (drop s xs)))
part-part xs s e from len g h =
    let i = s + from in
    let all : (i + len) - i ≡ len = omega arith in
    cc (
      all,
      between_is (take e xs) i (i + len),
      between_is xs s e,
      drop-drop from s (take e xs),
      between_is xs i (i + len),
      take-take (i + len) e xs (omega arith),
    )

-- the same of a copy of the whole
pub part-frame : (xs ys : List ℕ) (s e from len : ℕ) → ys ≡ xs → s ≤ e → from + len ≤ e - s
    → take ((s + from + len) - (s + from)) (drop (s + from) ys) ≡ take len (drop from (take (e - s) (drop s xs)))
part-frame xs ys s e from len same g h = cc (part-part xs s e from len g h)

-- a part after the first bytes, of a copy of the whole
pub part-behind : (xs ys : List ℕ) (passed from len : ℕ) → xs ≡ ys
    → take ((passed + from + len) - (passed + from)) (drop (passed + from) xs) ≡ take len (drop from (drop passed ys))
part-behind xs ys passed from len same =
    let all : (passed + from + len) - (passed + from) ≡ len = omega arith in
    cc (all, drop-drop from passed xs)

-- what lies there, once other bytes were put in the place of some of it
pub part-written : (xs bytes : List ℕ) (s e p : ℕ) → s ≤ e → e ≤ length xs → p + length bytes ≤ e - s
    → take (e - s) (drop s (written xs (s + p) bytes)) ≡ written (take (e - s) (drop s xs)) p bytes
unfolding written
part-written xs bytes s e p h g room =
    let zs = drop s xs in
    let n = p + length bytes in
    let more = (e - s) - n in
    let long : length (take p zs) ≡ p = length-take-le p zs (omega (arith, length-drop s xs)) in
    let few : (s + p) - s ≡ p = omega arith in
    let end : s + p + length bytes ≡ s + n = omega arith in
    let whole : e - s ≡ p + (length bytes + more) = omega arith in
    let behind = drop (s + p + length bytes) xs in
    cc (
      few,
      end,
      whole,
      between_is xs s (s + p),
      drop-drop n s xs,
      drop-append-le s (take (s + p) xs) (bytes ++ behind) (omega (arith, length-take-le (s + p) xs (omega arith))),
      add_at (take p zs) (bytes ++ drop n zs) p (length bytes + more) long,
      add_at bytes (drop n zs) (length bytes) more refl,
      between_is zs n (e - s),
      take-take p (e - s) zs (omega arith),
    )

-- ---- bytes that are put into a buffer

module _ (buf : List ℕ) (at : ℕ) (bytes : List ℕ) (within : at ≤ length buf) where
  front_long : length (take at buf ++ bytes) ≡ at + length bytes
  front_long = omega (arith, length-append (take at buf) bytes, length-take-le at buf within)

  -- The front of a buffer in which bytes were put is what lay before them, and they.
  pub written_front : take (at + length bytes) (written buf at bytes) ≡ take at buf ++ bytes
  unfolding written
  written_front =
      let rest = drop (at + length bytes) buf in
      cc (append_assoc (take at buf) bytes rest, take_at (take at buf ++ bytes) rest (at + length bytes) front_long)

  -- Behind bytes that were put in a buffer lies what lay there before.
  pub written_behind : drop (at + length bytes) (written buf at bytes) ≡ drop (at + length bytes) buf
  unfolding written
  written_behind =
      let rest = drop (at + length bytes) buf in
      cc (append_assoc (take at buf) bytes rest, drop_at (take at buf ++ bytes) rest (at + length bytes) front_long)

  -- The same of the front, for the contract of a call that puts bytes.
  pub put_front : {new : List ℕ} {end : ℕ} → Puts buf new at bytes end → take end new ≡ take at buf ++ bytes
  put_front p = cc (p.behind, p.put, written_front)

-- bytes that were put into the first ones of a buffer, before those from a place on
pub put_in_between : (buf bytes : List ℕ) (at len : ℕ) → at ≤ len → len + length bytes ≤ length buf
    → take (len + length bytes) (written (copy_within buf at len (at + length bytes)) at bytes) ≡ take at (take len buf) ++ (bytes ++ drop at (take len buf))
unfolding written
put_in_between buf bytes at len place room =
    let n = length bytes in
    let moved = copy_within buf at len (at + n) in
    let later : length (drop at buf) ≡ length buf - at = length-drop at buf in
    let seen : take ((at + n) + (len - at)) moved ≡ take (at + n) buf ++ take (len - at) (drop at buf) =
    take-paste buf (at + n) (drop at buf) (len - at) (omega arith) (omega arith) in
    let first : length (take (at + n) buf) ≡ at + n = length-take-le (at + n) buf (omega arith) in
    let second : length (take at moved) ≡ at =
    length-take-le at moved (omega (arith, length-paste buf (at + n) (drop at buf) (len - at) (omega arith) (omega (arith, later)))) in
    let front : take at moved ≡ take at (take len buf) =
    cc (
      take-take at ((at + n) + (len - at)) moved (omega arith),
      seen,
      take-append-le at (take (at + n) buf) (take (len - at) (drop at buf)) (omega arith),
      take-take at (at + n) buf (omega arith),
      take-take at len buf place,
    ) in
    let some : ((at + n) + (len - at)) - (at + n) ≡ len - at = omega arith in
    let behind : take (len - at) (drop (at + n) moved) ≡ drop at (take len buf) =
    cc (
      some,
      between_is moved (at + n) ((at + n) + (len - at)),
      seen,
      drop_at (take (at + n) buf) (take (len - at) (drop at buf)) (at + n) first,
      between_is buf at len,
    ) in
    let all : len + n ≡ at + (n + (len - at)) = omega arith in
    cc
    (all, add_at (take at moved) (bytes ++ drop (at + n) moved) at (n + (len - at)) second, add_at bytes (drop (at + n) moved) n (len - at) refl, front, behind)

-- the canonical bytes of a borrowed frame, for which there is room
pub rewritten_after : (old new : List ℕ) (len most : ℕ) (read : Result Frame Fault) (result : Result ℕ ParserError)
    → most ≤ length old → IfOk result (λ end. end ≤ most) → Rewrites old new len read result → AddsAt old new len read result
rewritten_after old new len most read (Ok end) room within p = (p.0, p.1, put_front old len (canon p.0) (omega arith) p.2)
rewritten_after old new len most read (Err error) room within p = p
