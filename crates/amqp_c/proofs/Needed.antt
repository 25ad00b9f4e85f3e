-- How many bytes a frame has at least, by those that are there.
use Rattle.std.proofs.Common.{◌≡◌, ℕ, ◌+◌, ◌<◌, ◌≤◌, false, List, [], ◌∷◌, ◌++◌, length, Option, Some, refl, arith, inl, inr}
use Rattle.std.proofs.lemmas.Bool.Decides.{nat_tests}
use Rattle.std.proofs.lemmas.Bool.{cases_lt, cases_Bool, le-ltb, lt-ltb}
use Rattle.std.proofs.lemmas.List.{length-append}
use Rattle.amqp_types.specs.Judging.{Judged, past, fault, took}
use Rattle.amqp_wire.specs.declared.frame_type.AMQPFrameType.{AMQPFrameType}
use Rattle.amqp_wire.specs.declared.frame_type.AMQPFrameType.TheVariants as kinds
use Rattle.amqp_wire.specs.declared.looking.FrameLayout.{FrameLayout}
use Rattle.amqp_wire.specs.Frames.{Raw}
use Rattle.amqp_wire.specs.Looks.{laid_out}
use Rattle.amqp_wire.specs.HeaderScan.{type_of, is_above, payload_length, judge_version, version_at, ended_payload, judge_raw, behind_type, scan}
use Rattle.amqp_wire.proofs.HeaderScan.{behind_byte, scan-in_bounds, scan-none, scan-typed, piece-append, typed}
use Rattle.amqp_stream.specs.Reading.{Lies}
use Rattle.amqp_stream.specs.declared.errors.StreamError.TheVariants as errors
use Rattle.amqp_fields.specs.Frames.{least_after, least_length}
use Rattle.amqp_c.specs.Scans.{error_at}

-- ---- a frame of a type

-- how many bytes a frame of a type has at least
least_of : Option AMQPFrameType → List ℕ → ℕ
least_of (Some kinds.ProtocolHeader) rest = 8
least_of other rest = least_after rest

least_typed : (byte : ℕ) (rest : List ℕ) → least_length (byte ∷ rest) ≡ least_of (type_of byte) rest
unfolding least_of
least_typed byte rest = grind (arith, nat_tests)

-- ---- the scan wants as many bytes

-- after the first byte: where more bytes are needed, fewer are there than a frame has at least, which is within the limit; a frame has as many
abbrev Wants : ℕ → List ℕ → ℕ → Judged Raw → Type 0
Wants m rest n past = (1 + length rest < n) × (n ≤ m + 8)
Wants m rest n (fault bad) = Unit {0}
Wants m rest n (took raw used) = n ≡ 1 + used

version_wants : (m : ℕ) (rest : List ℕ) → Wants m rest 8 (version_at rest)
unfolding judge_version
version_wants m rest = grind (arith, nat_tests)

ended_wants : (m : ℕ) (kind : AMQPFrameType) (rest : List ℕ) (n : ℕ) → is_above n (Some m) ≡ false → Wants m rest (n + 8) (ended_payload kind rest n)
unfolding ended_payload
ended_wants m kind rest n within = grind (arith, nat_tests)

raw_wants : (m : ℕ) (kind : AMQPFrameType) (rest : List ℕ) → Wants m rest (least_after rest) (judge_raw (Some m) kind rest)
unfolding judge_raw
raw_wants m kind rest = elim (cases_lt (length rest) 6) [
  | inl few ↦ rw (lt-ltb (length rest) 6 few) (omega arith, omega arith)
  | inr enough ↦ elim (cases_Bool (is_above (payload_length rest) (Some m))) [
    | inl above ↦ rw (le-ltb (length rest) 6 enough, above) tt
    | inr within ↦ rw (le-ltb (length rest) 6 enough, within) (ended_wants m kind rest (payload_length rest) within)
  ]
]

behind_wants : (m : ℕ) (kind : AMQPFrameType) (rest : List ℕ) → Wants m rest (least_of (Some kind) rest) (behind_type (Some m) kind rest)
unfolding behind_type least_of
behind_wants m kinds.ProtocolHeader rest = version_wants m rest
behind_wants m kind rest = raw_wants m kind rest

-- the same of a whole frame
abbrev Needs : ℕ → List ℕ → ℕ → Judged Raw → Type 0
Needs m bytes n past = (length bytes < n) × (n ≤ m + 8)
Needs m bytes n (fault bad) = Unit {0}
Needs m bytes n (took raw used) = n ≡ used

byte_needs : (m byte : ℕ) (rest : List ℕ) (n : ℕ) (j : Judged Raw) → Wants m rest n j → Needs m (byte ∷ rest) n (behind_byte j)
byte_needs m byte rest n j h = grind arith

typed_needs : (m byte : ℕ) (rest : List ℕ) (o : Option AMQPFrameType) → Needs m (byte ∷ rest) (least_of o rest) (typed (Some m) o rest)
typed_needs m byte rest o = grind (arith, byte_needs, least_of, behind_wants)

needs : (m : ℕ) (bytes : List ℕ) → Needs m bytes (least_length bytes) (scan (Some m) bytes)
needs m [] = rw (scan-none (Some m)) (omega arith, omega arith)
needs m (byte ∷ rest) = rw (least_typed byte rest, scan-typed (Some m) byte rest) (typed_needs m byte rest (type_of byte))

-- ---- more bytes tell no less

after_least : (rest : List ℕ) → 8 ≤ least_after rest
after_least rest = grind (arith, nat_tests)

after_more : (rest more : List ℕ) → least_after rest ≤ least_after (rest ++ more)
after_more rest more = grind (arith, cases_lt, lt-ltb, after_least, piece-append, le-ltb, length-append)

more_needs : (bytes more : List ℕ) → least_length bytes ≤ least_length (bytes ++ more)
more_needs bytes more = grind (arith, after_least, after_more)

-- ---- the error of a scan

-- Where decoding ends with the error that the input was cut short, the bytes are incomplete.
pub cut_short : {A : Type 0} (j : Judged A) → error_at j ≡ Some errors.CutShort → j ≡ past
cut_short j e = grind arith

-- ---- what is returned

-- A frame in front is at most eight bytes longer than the limit on payloads.
pub whole_limited : {m : ℕ} {bytes : List ℕ} {layout : FrameLayout} → Lies m bytes layout → layout.frame_len ≤ m + 8
whole_limited {m} {bytes} {layout} lies = (scan-in_bounds (Some m) bytes (laid_out layout bytes) layout.frame_len lies.found).limit m refl

-- Where the input is cut short, a frame has at least one byte more than are there, and at most eight bytes more than the limit on payloads.
pub cut_needs : (m : ℕ) (bytes : List ℕ) → error_at (scan (Some m) bytes) ≡ Some errors.CutShort
    → (length bytes < least_length bytes) × (least_length bytes ≤ m + 8)
cut_needs m bytes e = rw (cut_short (scan (Some m) bytes) e) at (needs m bytes)

-- A frame that begins with some bytes has at least as many as they say.
pub cut_least : (m : ℕ) (bytes rest : List ℕ) (raw : Raw) (used : ℕ) → scan (Some m) (bytes ++ rest) ≡ took raw used → least_length bytes ≤ used
cut_least m bytes rest raw used e = grind (arith, needs, more_needs)
