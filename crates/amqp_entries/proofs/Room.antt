-- What was measured has room.
use Rattle.std.proofs.Common.{◌≡◌, ℕ, ◌+◌, ◌≤◌, List, ◌++◌, length, Option, Some, None, Ok, refl, ap, ◌∙◌, arith}
use Rattle.std.proofs.lemmas.Bool.{le-ltb}
use Rattle.std.proofs.lemmas.List.{length-append}
use Rattle.amqp_types.specs.Strings.{with_length}
use Rattle.amqp_entries.specs.Appending.{room_flaw}
use Rattle.amqp_entries.specs.Flaws.{first_of, size_or}
use Rattle.amqp_entries.specs.declared.errors.PutError.{PutError}

-- what was measured
record IsMeasured (flaw : Option PutError) (bytes : List ℕ) (n : ℕ) : Type 0 where
  none : flaw ≡ None
  is : n ≡ length bytes

measured : (flaw : Option PutError) (bytes : List ℕ) (n : ℕ) → Ok n ≡ size_or flaw bytes → IsMeasured flaw bytes n
measured None bytes n e = record { none = refl; is = cc }
measured (Some refusal) bytes n e = absurd cc

-- the size of a content with its length
pub put_size : (flaw : Option PutError) (content : List ℕ) (n : ℕ) → flaw ≡ None → n ≡ length content → Ok (4 + n) ≡ size_or flaw (with_length content)
put_size None content n none is = ap Ok (omega (arith, is))
put_size (Some refusal) content n none is = absurd cc

-- a key and a value that were measured have room
pub entry_room : (kf vf : Option PutError) (kb vb : List ℕ) (n m at room : ℕ) → Ok n ≡ size_or kf kb → Ok m ≡ size_or vf vb → at + (n + m) ≤ room
    → at + length (kb ++ vb) ≤ room
entry_room kf vf kb vb n m at room key value fits =
    let k = measured kf kb n key in
    let v = measured vf vb m value in
    omega (arith, k.is, v.is, fits, length-append kb vb)

-- a key and a value that were measured and have room have no flaw
pub entry_fits : (kf vf : Option PutError) (kb vb : List ℕ) (n m at room : ℕ) → Ok n ≡ size_or kf kb → Ok m ≡ size_or vf vb → at + (n + m) ≤ room
    → first_of (first_of kf vf) (room_flaw at (length (kb ++ vb)) room) ≡ None
entry_fits kf vf kb vb n m at room key value fits =
    let k = measured kf kb n key in
    let v = measured vf vb m value in
    let enough = le-ltb room (at + length (kb ++ vb)) (entry_room kf vf kb vb n m at room key value fits) in
    ap (λ (flaw : Option PutError). first_of (first_of flaw vf) (room_flaw at (length (kb ++ vb)) room)) k.none
    ∙ ap (λ (flaw : Option PutError). first_of flaw (room_flaw at (length (kb ++ vb)) room)) v.none ∙ rw enough refl
