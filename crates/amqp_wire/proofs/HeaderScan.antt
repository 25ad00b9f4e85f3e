-- The header scan: what it takes, where more bytes come, and where there are just enough.
use Rattle.std.proofs.Common.{◌≡◌, ◌≢◌, ℕ, suc, ◌+◌, ◌<◌, ◌≤◌, true, false, ◌&&◌, eqb, List, [], ◌∷◌, ◌++◌, length, get_or, take, drop, append_assoc, Option}
use Rattle.std.proofs.Common.{Some, None, refl, sym, ap, subst, ◌∙◌, arith, inl, inr, max}
use Rattle.std.proofs.lemmas.Bool.{cases_lt, cases_eq, cases_Bool, le-ltb, lt-ltb, ltb-false, eq-eqb, ne_eqb}
use Rattle.std.proofs.lemmas.List.{length-append, take-append-le, drop-append-le, length-drop, length-take-le, take-append-drop, get_or_append_left}
use Rattle.std.specs.Int.{w16, w32, from_be_bytes}
use Rattle.amqp_types.specs.Judging.{Judge, Judged, past, fault, took, ◌>>=◌, too_large, unknown_frame_type}
use Rattle.amqp_types.specs.Constants.{protocol_mark}
use Rattle.amqp_wire.specs.declared.frame_type.AMQPFrameType.{AMQPFrameType}
use Rattle.amqp_wire.specs.declared.frame_type.AMQPFrameType.TheVariants as kinds
use Rattle.amqp_wire.specs.Frames.{Raw, raw_as}
use Rattle.amqp_wire.specs.HeaderScan.{type_of, begins_as, is_above, payload_length, judge_version, version_at, ended_payload, judge_raw, behind_type, scan}

-- ---- the first byte, and what is after it

-- the byte in front is counted too
abbrev pub behind_byte : Judged Raw → Judged Raw
behind_byte j = j >>= λ raw. took raw.0 (1 + raw.1)

-- what is after a byte that names this type
abbrev pub typed : Option ℕ → Option AMQPFrameType → List ℕ → Judged Raw
typed m (Some kind) bytes = behind_byte (behind_type m kind bytes)
typed m None bytes = fault unknown_frame_type

typed_by : (m : Option ℕ) (o : Option AMQPFrameType) (b : ℕ) (bytes : List ℕ) → type_of b ≡ o → scan m (b ∷ bytes) ≡ typed m o bytes
unfolding scan
typed_by m (Some kind) b bytes e = rw e refl
typed_by m None b bytes e = rw e refl

-- The header scan of some bytes is that of what follows the first one, under the type that this names.
pub scan-typed : (m : Option ℕ) (b : ℕ) (bytes : List ℕ) → scan m (b ∷ bytes) ≡ typed m (type_of b) bytes
scan-typed m b bytes = typed_by m (type_of b) b bytes refl

-- what follows a byte that names this type, seen from in front of it
pub scan-behind : (m : Option ℕ) (kind : AMQPFrameType) (b : ℕ) (bytes : List ℕ) → type_of b ≡ Some kind
    → scan m (b ∷ bytes) ≡ behind_byte (behind_type m kind bytes)
scan-behind m kind b bytes e = typed_by m (Some kind) b bytes e

-- The header scan of an empty input is incomplete.
pub scan-none : (m : Option ℕ) → scan m [] ≡ past
unfolding scan
scan-none m = refl

-- What follows a type byte other than that of a protocol header.
pub raw_behind : (m : Option ℕ) (kind : AMQPFrameType) (bytes : List ℕ) → kind ≢ kinds.ProtocolHeader → behind_type m kind bytes ≡ judge_raw m kind bytes
unfolding behind_type
raw_behind m kinds.ProtocolHeader bytes other = absurd (other refl)
raw_behind m kind bytes other = refl

-- ---- what is found, and when

-- more bytes change nothing of what is found
record Stays (f : Judge Raw) (bytes : List ℕ) : Type 0 where
  same : (more : List ℕ) → f (bytes ++ more) ≡ f bytes

-- what is found, where T says what is known of a frame of n bytes: least is what the smallest limit allows
abbrev Outcome : ℕ → Option ℕ → Judge Raw → (Raw → ℕ → Type 0) → List ℕ → Judged Raw → Type 0
Outcome least m f T bytes past = (k : ℕ) → m ≡ Some k → length bytes < k + least
Outcome least m f T bytes (fault bad) = (m ≡ None → bad ≢ too_large) × Stays f bytes
Outcome least m f T bytes (took raw n) = T raw n

-- a frame that is no protocol header, after its type byte
pub record IsMadeOf (m : Option ℕ) (kind : AMQPFrameType) (bytes : List ℕ) (raw : Raw) (n : ℕ) : Type 0 where
  pub raw_is : raw ≡ raw_as kind (from_be_bytes w16 (take 2 bytes)) (take (payload_length bytes) (drop 6 bytes))
  pub size : n ≡ payload_length bytes + 7
  pub enough : payload_length bytes + 7 ≤ length bytes
  pub end : get_or bytes (payload_length bytes + 6) 0 ≡ 206
  pub low : is_above (payload_length bytes) m ≡ false

-- a protocol header, after its `A`
pub record IsVersion (bytes : List ℕ) (raw : Raw) (n : ℕ) : Type 0 where
  pub raw_is : raw ≡ raw_as kinds.ProtocolHeader 0 (get_or bytes 4 0 ∷ get_or bytes 5 0 ∷ get_or bytes 6 0 ∷ [])
  pub size : n ≡ 7
  pub enough : 7 ≤ length bytes
  pub begins : begins_as bytes protocol_mark ≡ true

abbrev pub IsFound : Option ℕ → AMQPFrameType → List ℕ → Raw → ℕ → Type 0
IsFound m kinds.ProtocolHeader bytes raw n = IsVersion bytes raw n
IsFound m kind bytes raw n = IsMadeOf m kind bytes raw n

-- a piece of the front is the same piece of more bytes
pub piece-append : (from len : ℕ) (bytes more : List ℕ) → from + len ≤ length bytes → take len (drop from (bytes ++ more)) ≡ take len (drop from bytes)
piece-append from len bytes more h =
    let far : from ≤ length bytes = omega arith in
    let long : len ≤ length (drop from bytes) = omega (arith, length-drop from bytes) in
    ap (take len) (drop-append-le from bytes more far) ∙ take-append-le len (drop from bytes) more long

begins_as-append : (bytes more wanted : List ℕ) → length wanted ≤ length bytes → begins_as (bytes ++ more) wanted ≡ begins_as bytes wanted
begins_as-append [] [] [] h = refl
begins_as-append [] more (w ∷ wanted) h = absurd (omega arith)
begins_as-append (b ∷ bytes) more (w ∷ wanted) h = ap (λ t. eqb b w && t) (begins_as-append bytes more wanted (omega arith))
begins_as-append bytes more wanted h = refl

begins_as-false : (bytes more wanted : List ℕ) → begins_as bytes wanted ≡ false → begins_as (bytes ++ more) wanted ≡ false
begins_as-false (b ∷ bytes) more (w ∷ wanted) h =
    elim (eqb b w) as (λ t. (t && begins_as bytes wanted) ≡ false → (t && begins_as (bytes ++ more) wanted) ≡ false) [
      | true ↦ begins_as-false bytes more wanted
      | false ↦ λ e. refl
    ] h
begins_as-false bytes more wanted h = absurd cc

version_stays : (bytes : List ℕ) → 7 ≤ length bytes → Stays version_at bytes
unfolding judge_version
version_stays bytes enough = record {
  same = λ more. rw (
    begins_as-append bytes more protocol_mark (omega arith),
    le-ltb (length (bytes ++ more)) 7 (omega (arith, length-append bytes more)),
    get_or_append_left bytes more 0 4 (omega arith),
    get_or_append_left bytes more 0 5 (omega arith),
    get_or_append_left bytes more 0 6 (omega arith),
    le-ltb (length bytes) 7 enough,
  ) refl;
}

version_fails : (bytes : List ℕ) → begins_as bytes protocol_mark ≡ false → Stays version_at bytes
unfolding judge_version
version_fails bytes fails = record { same = λ more. rw (begins_as-false bytes more protocol_mark fails, fails) refl }

version_outcome : (m : Option ℕ) (bytes : List ℕ) → Outcome 7 m version_at (IsVersion bytes) bytes (version_at bytes)
unfolding judge_version
version_outcome m bytes = elim (cases_Bool (begins_as bytes protocol_mark)) [
  | inl begins ↦ elim (cases_lt (length bytes) 7) [
    | inl few ↦ rw (begins, lt-ltb (length bytes) 7 few) (λ k e. omega arith)
    | inr enough ↦ rw (begins, le-ltb (length bytes) 7 enough) (record { raw_is = refl; size = refl; enough = enough; begins = begins })
  ]
  | inr fails ↦ rw fails (λ none e. absurd cc, version_fails bytes fails)
]

raw_stays : (m : Option ℕ) (kind : AMQPFrameType) (bytes : List ℕ) → 6 ≤ length bytes
    → (is_above (payload_length bytes) m ≡ false → payload_length bytes + 7 ≤ length bytes) → Stays (judge_raw m kind) bytes
unfolding judge_raw ended_payload
raw_stays m kind bytes six all = record {
  same = λ more.
      let long = length-append bytes more in
      let six-more = le-ltb (length (bytes ++ more)) 6 (omega arith) in
      let size : payload_length (bytes ++ more) ≡ payload_length bytes = ap (from_be_bytes w32) (piece-append 2 4 bytes more (omega arith)) in
      elim (cases_Bool (is_above (payload_length bytes) m)) [
        | inl above ↦ rw (six-more, size, above, le-ltb (length bytes) 6 six) refl
        | inr low ↦
            let n = payload_length bytes in
            let enough : n + 7 ≤ length bytes = all low in
            let enough-more = le-ltb (length (bytes ++ more)) (n + 7) (omega arith) in
            let payload = piece-append 6 n bytes more (omega arith) in
            let channel = take-append-le 2 bytes more (omega arith) in
            let end = get_or_append_left bytes more 0 (n + 6) (omega arith) in
            rw (six-more, size, low, enough-more, payload, channel, end, le-ltb (length bytes) 6 six, le-ltb (length bytes) (n + 7) enough) refl
      ];
}

below_limit : (m : Option ℕ) (n k : ℕ) → is_above n m ≡ false → m ≡ Some k → n ≤ k
below_limit None n k h e = absurd cc
below_limit (Some m) n k h e = let same : m ≡ k = cc in subst (λ x. n ≤ x) same (ltb-false m n h)

raw_outcome : (m : Option ℕ) (kind : AMQPFrameType) (bytes : List ℕ) → Outcome 7 m (judge_raw m kind) (IsMadeOf m kind bytes) bytes (judge_raw m kind bytes)
unfolding judge_raw ended_payload
raw_outcome m kind bytes = let n = payload_length bytes in elim (cases_lt (length bytes) 6) [
  | inl few ↦ rw (lt-ltb (length bytes) 6 few) (λ k e. omega arith)
  | inr six ↦ let enough_six = le-ltb (length bytes) 6 six in elim (cases_Bool (is_above n m)) [
    | inl above ↦ rw (enough_six, above) (λ none e. absurd (let h = rw none at above in cc), raw_stays m kind bytes six (λ low. absurd cc))
    | inr low ↦ elim (cases_lt (length bytes) (n + 7)) [
      | inl few ↦ rw (enough_six, low, lt-ltb (length bytes) (n + 7) few) (λ k e. omega (arith, below_limit m n k low e))
      | inr enough ↦ elim (cases_eq (get_or bytes (n + 6) 0) 206) [
        | inl end ↦
            rw (enough_six, low, le-ltb (length bytes) (n + 7) enough, eq-eqb (get_or bytes (n + 6) 0) 206 end)
            (record { raw_is = refl; size = refl; enough = enough; end = end; low = low })
        | inr other ↦
            rw (enough_six, low, le-ltb (length bytes) (n + 7) enough, ne_eqb (get_or bytes (n + 6) 0) 206 other)
            (λ none e. absurd cc, raw_stays m kind bytes six (λ _. enough))
      ]
    ]
  ]
]

-- Without a limit no payload is too large.
pub raw_never_large : (kind : AMQPFrameType) (bytes : List ℕ) → judge_raw None kind bytes ≡ fault too_large → ⊥
raw_never_large kind bytes e = (subst (Outcome 7 None (judge_raw None kind) (IsMadeOf None kind bytes) bytes) e (raw_outcome None kind bytes)).0 refl refl

behind_outcome : (m : Option ℕ) (kind : AMQPFrameType) (bytes : List ℕ)
    → Outcome 7 m (behind_type m kind) (IsFound m kind bytes) bytes (behind_type m kind bytes)
unfolding behind_type
behind_outcome m kinds.ProtocolHeader bytes = version_outcome m bytes
behind_outcome m kind bytes = raw_outcome m kind bytes

-- ---- a frame that is there in full needs no byte after it

found_stays : (m : Option ℕ) (kind : AMQPFrameType) (bytes : List ℕ) (raw : Raw) (n : ℕ) → IsFound m kind bytes raw n
    → Stays (behind_type m kind) (take n bytes)
unfolding behind_type
found_stays m kinds.ProtocolHeader bytes raw n h =
    version_stays (take n bytes) (omega (arith, h.size, length-take-le n bytes (omega (arith, h.enough, h.size))))
found_stays m kind bytes raw n h =
    let len = length-take-le n bytes (omega (arith, h.enough, h.size)) in
    let piece = piece-append 2 4 (take n bytes) (drop n bytes) (omega (arith, h.size)) in
    let same : payload_length (take n bytes) ≡ payload_length bytes =
    sym (ap (from_be_bytes w32) piece) ∙ ap (λ (xs : List ℕ). payload_length xs) (take-append-drop n bytes) in
    raw_stays m kind (take n bytes) (omega (arith, h.size)) (λ _. omega (arith, h.size))

-- the payload of a frame has the length that stands in front of it
pub made-length : (m : Option ℕ) (kind : AMQPFrameType) (bytes : List ℕ) (raw : Raw) (n : ℕ) → IsMadeOf m kind bytes raw n
    → length raw.payload ≡ payload_length bytes
made-length m kind bytes raw n h =
    ap (λ r. length r.payload) h.raw_is ∙ length-take-le (payload_length bytes) (drop 6 bytes) (omega (arith, length-drop 6 bytes, h.enough))

-- a whole frame
pub record IsInBounds (m : Option ℕ) (bytes : List ℕ) (raw : Raw) (n : ℕ) : Type 0 where
  pub least : 8 ≤ n
  pub within : n ≤ length bytes
  pub payload : (k : ℕ) → m ≡ Some k → length raw.payload ≤ max 3 k
  pub limit : (k : ℕ) → m ≡ Some k → n ≤ k + 8

found_bounds : (m : Option ℕ) (kind : AMQPFrameType) (b : ℕ) (bytes : List ℕ) (raw : Raw) (n : ℕ)
    → IsFound m kind bytes raw n → IsInBounds m (b ∷ bytes) raw (suc n)
found_bounds m kinds.ProtocolHeader b bytes raw n h = record {
  least = omega (arith, h.size);
  within = omega (arith, h.size, h.enough);
  payload = λ k e. omega (arith, ap (λ r. length r.payload) h.raw_is);
  limit = λ k e. omega (arith, h.size);
}
found_bounds m kind b bytes raw n h = record {
  least = omega (arith, h.size);
  within = omega (arith, h.size, h.enough);
  payload = λ k e. omega (arith, below_limit m (payload_length bytes) k h.low e, made-length m kind bytes raw n h);
  limit = λ k e. omega (arith, h.size, below_limit m (payload_length bytes) k h.low e);
}

-- ---- the whole scan

-- what was taken after the first byte
pub record IsTyped (m : Option ℕ) (b : ℕ) (bytes : List ℕ) (raw : Raw) (n : ℕ) : Type 0 where
  pub kind : AMQPFrameType
  pub named : type_of b ≡ Some kind
  pub used : ℕ
  pub found : IsFound m kind bytes raw used
  pub count : n ≡ suc used

abbrev IsTaken : Option ℕ → List ℕ → Raw → ℕ → Type 0
IsTaken m [] raw n = ⊥
IsTaken m (b ∷ bytes) raw n = IsTyped m b bytes raw n

abbrev ScanOutcome : Option ℕ → List ℕ → Judged Raw → Type 0
ScanOutcome m bytes = Outcome 8 m (scan m) (IsTaken m bytes) bytes

one_more : (m : Option ℕ) (kind : AMQPFrameType) (b : ℕ) (bytes : List ℕ) → type_of b ≡ Some kind → (j : Judged Raw)
    → Outcome 7 m (behind_type m kind) (IsFound m kind bytes) bytes j → ScanOutcome m (b ∷ bytes) (behind_byte j)
one_more m kind b bytes e past h = λ k limit. omega (arith, h k limit)
one_more m kind b bytes e (fault bad) h = (
  h.0,
  record { same = λ more. scan-behind m kind b (bytes ++ more) e ∙ ap behind_byte (h.1.same more) ∙ sym (scan-behind m kind b bytes e) },
)
one_more m kind b bytes e (took raw n) h = record { kind = kind; named = e; used = n; found = h; count = omega arith }

typed_outcome : (m : Option ℕ) (o : Option AMQPFrameType) (b : ℕ) (bytes : List ℕ) → type_of b ≡ o → ScanOutcome m (b ∷ bytes) (typed m o bytes)
typed_outcome m None b bytes e = (
  λ none h. absurd cc,
  record { same = λ more. typed_by m None b (bytes ++ more) e ∙ sym (typed_by m None b bytes e) },
)
typed_outcome m (Some kind) b bytes e = one_more m kind b bytes e (behind_type m kind bytes) (behind_outcome m kind bytes)

scan_outcome : (m : Option ℕ) (bytes : List ℕ) → ScanOutcome m bytes (scan m bytes)
scan_outcome m [] = subst (ScanOutcome m []) (sym (scan-none m)) (λ k e. omega arith)
scan_outcome m (b ∷ bytes) = subst (ScanOutcome m (b ∷ bytes)) (sym (scan-typed m b bytes)) (typed_outcome m (type_of b) b bytes refl)

-- What the header scan takes stands after a byte that names its type.
pub scan-took : (m : Option ℕ) (b : ℕ) (bytes : List ℕ) (raw : Raw) (n : ℕ) → scan m (b ∷ bytes) ≡ took raw n → IsTyped m b bytes raw n
scan-took m b bytes raw n e = subst (ScanOutcome m (b ∷ bytes)) e (scan_outcome m (b ∷ bytes))

-- A frame that the header scan takes has at least eight bytes, all of which are there, and is within the limit.
pub scan-in_bounds : (m : Option ℕ) (bytes : List ℕ) (raw : Raw) (n : ℕ) → scan m bytes ≡ took raw n → IsInBounds m bytes raw n
scan-in_bounds m [] raw n e = absurd (let none = scan-none m in cc)
scan-in_bounds m (b ∷ bytes) raw n e =
    let t = scan-took m b bytes raw n e in
    subst (IsInBounds m (b ∷ bytes) raw) (sym t.count) (found_bounds m t.kind b bytes raw t.used t.found)

-- undecided bytes are fewer than a largest frame has
pub scan-past_few : (m : ℕ) (bytes : List ℕ) → scan (Some m) bytes ≡ past → length bytes < m + 8
scan-past_few m bytes e = subst (ScanOutcome (Some m) bytes) e (scan_outcome (Some m) bytes) m refl

-- Without a limit the header scan finds no payload that is too large.
pub never_large : (bytes : List ℕ) → scan None bytes ≡ fault too_large → ⊥
never_large bytes e = (subst (ScanOutcome None bytes) e (scan_outcome None bytes)).0 refl refl

-- a frame that is there in full is there whatever follows it
pub scan-exact : (m : Option ℕ) (bytes rest : List ℕ) (raw : Raw) (n : ℕ) → scan m bytes ≡ took raw n → scan m (take n bytes ++ rest) ≡ took raw n
scan-exact m [] rest raw n e = absurd (let none = scan-none m in cc)
scan-exact m (b ∷ bytes) rest raw n e =
    let t = scan-took m b bytes raw n e in
    let stays = found_stays m t.kind bytes raw t.used t.found in
    ap (λ k. scan m (take k (b ∷ bytes) ++ rest)) t.count
    ∙ scan-behind m t.kind b (take t.used bytes ++ rest) t.named
    ∙ ap behind_byte (stays.same rest ∙ sym (stays.same (drop t.used bytes)) ∙ ap (behind_type m t.kind) (take-append-drop t.used bytes))
    ∙ sym (scan-behind m t.kind b bytes t.named) ∙ e

decided : (m : Option ℕ) (bytes more : List ℕ) (j : Judged Raw) → scan m bytes ≡ j → j ≢ past → scan m (bytes ++ more) ≡ j
decided m bytes more past e h = absurd (h refl)
decided m bytes more (fault bad) e h = (subst (ScanOutcome m bytes) e (scan_outcome m bytes)).1.same more ∙ e
decided m bytes more (took raw n) e h =
    ap (λ (xs : List ℕ). scan m (xs ++ more)) (sym (take-append-drop n bytes))
    ∙ ap (scan m) (append_assoc (take n bytes) (drop n bytes) more) ∙ scan-exact m bytes (drop n bytes ++ more) raw n e

-- A header scan that is not incomplete gives the same where more bytes come.
pub scan-append : (m : Option ℕ) (bytes more : List ℕ) → scan m bytes ≢ past → scan m (bytes ++ more) ≡ scan m bytes
scan-append m bytes more h = decided m bytes more (scan m bytes) refl h
