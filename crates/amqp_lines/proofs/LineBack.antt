-- What is read of a line is its frame, so a text that is not the line of what is read of it is the line of no frame.
use Rattle.amqp_lines.proofs
use proofs.Names.{◌≡◌, ◌≢◌, ℕ, ◌+◌, ◌-◌, ◌^◌, ◌<◌, ◌≤◌, ◌↔◌, Bool, true, false, List, [], ◌∷◌, length, take, None, Result, Ok, Err, refl, sym, ap, ◌∙◌}
use proofs.Names.{append-nil, arith, ne_eqb, NoMemory, plain, strict, IsBytes, payload_bytes, content_header_bytes, payloads_lawful, content_headers_lawful}
use proofs.Names.{AMQPFrameType, Frame, Proto, Meth, Head, Body, BadBeat, Raw, Spells, SpellsFrames, canon, payload_of, decode_raw, decode_payload, one_strict}
use proofs.Names.{StreamError, cause_of, line, HasNoLine, PutsBoth, RendersLine, IsStrictWithin, IsNoLine, read_words, numbers}
use proofs.Names.kinds
use Rattle.std.proofs.Common.{IsTrue}
use Rattle.amqp_types.specs.ValueJudging.{read_map}
use Rattle.amqp_wire.specs.Spelling.{bytes_as}
use Rattle.amqp_wire.proofs.Encoded.{spells_as}
use Rattle.amqp_wire.proofs.Typed.{method_whole, header_whole}
use Rattle.amqp_lines.specs.Reading.{ReadsWords}
use proofs.TextFronts.{first_is_canon}
use proofs.Deciding.{raw_in, line_back}
use proofs.LinesApart.{payload_is}
use Rattle.amqp_stream.specs.declared.errors.StreamError.TheVariants as errors

-- ---- the payload of a strict frame is its own

whole_back : (f : Frame) → Spells strict (canon f) f → decode_raw (raw_in f) ≡ Ok f
unfolding decode_payload
whole_back (Proto a b c) h = refl
whole_back (Meth channel m) h = ap (read_map (λ x. Meth channel x)) (method_whole strict (payload_bytes m) m (payload_is (Meth channel m) h))
whole_back (Head channel header) h =
    ap (read_map (λ x. Head channel x)) (header_whole strict (content_header_bytes header) header (payload_is (Head channel header) h))
whole_back (BadBeat channel) h = rw (ne_eqb channel 0 (λ e. absurd (omega (arith, h.0)))) refl
whole_back f h = refl

-- its length is one that four bytes hold
payload_few : (f : Frame) → Spells strict (canon f) f → length (payload_of f) < 2 ^ 32
payload_few (Meth channel m) h = omega (arith, h.is_framed.length_fits, ap length (payloads_lawful.strict_is_canonical h.payload m h.spelled))
payload_few (Head channel header) h =
    omega (arith, h.is_framed.length_fits, ap length (content_headers_lawful.strict_is_canonical h.payload header h.spelled))
payload_few (Body channel content) h = h.length_fits
payload_few f h = omega arith

-- ---- texts that are lines of no frame

abbrev found_raw : AMQPFrameType × ℕ → List ℕ → Raw
found_raw found payload = record { kind = found.0; channel = found.1; payload = payload }

-- ---- a text that is the line of a frame

spells_plain : (kind : AMQPFrameType) (channel : ℕ) (payload : List ℕ) (f : Frame) → IsBytes payload → channel < 2 ^ 16
    → length payload < 2 ^ 32 → decode_payload kind channel payload ≡ Ok f → Spells plain (bytes_as kind channel payload) f
unfolding decode_payload
spells_plain kinds.ProtocolHeader channel (x ∷ y ∷ z ∷ []) f fits c l h = let is : Proto x y z ≡ f = cc in rw (← is) refl
spells_plain kinds.ProtocolHeader channel payload f fits c l h = absurd cc
spells_plain kind channel payload f fits c l h =
    spells_as plain _ kind channel payload f fits
    (record { channel_fits = c; length_fits = l; bytes_are = refl }) h refl (λ e. absurd cc)

pub strict_read : (kind : AMQPFrameType) (channel : ℕ) (payload : List ℕ) (f : Frame) → IsBytes payload
    → channel < 2 ^ 16 → length payload < 2 ^ 32 → decode_payload kind channel payload ≡ Ok f → Spells strict (canon f) f
strict_read kind channel payload f fits c l h =
    let bytes = bytes_as kind channel payload in
    let sequence : SpellsFrames plain None bytes (f ∷ []) = (bytes, [], sym (append-nil bytes), spells_plain kind channel payload f fits c l h, tt, refl) in
    let canonical = (one_strict plain None bytes (f ∷ []) sequence).canonical in
    rw (first_is_canon f canonical.3) at canonical.3

faulty_not : (raw : Raw) {f : Frame} (error : StreamError) → error ≢ errors.NoMemory → decode_raw raw ≡ Ok f → HasNoLine raw (cause_of error) → ⊥
faulty_not raw errors.NoMemory other e h = other refl
faulty_not raw errors.CutShort other e h = h
faulty_not raw errors.TurnsSpent other e h = h
faulty_not raw errors.ReadFault other e h = h
faulty_not raw errors.WriteFault other e h = h
faulty_not raw error other e h = let x = h.judged_bad 0 in let y = rw e at x in cc

module _ (m : ℕ) (text payload : List ℕ) (found : AMQPFrameType × ℕ)
    (h : ReadsWords (read_words (take (length text - 1) text)) [] payload (Ok found)) where
  -- what is found of a line
  found_back : (f : Frame) → IsStrictWithin m f → text ≡ line f → found_raw found payload ≡ raw_in f
  found_back f good e =
      let same : ReadsWords (raw_in f) [] payload (Ok found) = rw (line_back good.is_strict e) at h in
      rw (same.0, same.1, same.2) refl

  decoded_back : (f : Frame) → IsStrictWithin m f → text ≡ line f → decode_raw (found_raw found payload) ≡ Ok f
  decoded_back f good e = cc (found_back f good e, whole_back f good.is_strict.encodes)

  -- A text whose words are read as a payload of 2^32 bytes or more is the line of no frame within the limit.
  pub none_long : 2 ^ 32 ≤ length payload → IsNoLine m text
  none_long long f good e =
      absurd (omega (arith, ap (λ r. length r.payload) (found_back f good e), payload_few f good.is_strict.encodes))

  -- Where what was read of a text has no line, the text is rendered as the line of no frame, or memory ran out.
  pub refused_line : (canonical : List ℕ) (error : StreamError) (r : Result Bool NoMemory) → HasNoLine (found_raw found payload) (cause_of error)
      → r ≢ Ok true → (r ≡ Ok false → error ≢ errors.NoMemory) → RendersLine m text canonical r
  refused_line canonical error (Ok true) u never none = absurd (never refl)
  refused_line canonical error (Ok false) u never none = λ f good e. absurd (faulty_not _ error (none refl) (decoded_back f good e) u)
  refused_line canonical error (Err bad) u never none = tt

  -- the frame of a line is the one that is put
  same_frame : (g : Frame) → decode_raw (found_raw found payload) ≡ Ok g → (f : Frame) → IsStrictWithin m f → text ≡ line f → f ≡ g
  same_frame g is f good e = let x = sym (decoded_back f good e) ∙ is in cc

  -- A text whose words are read as a frame with more canonical bytes than the limit allows is the line of no frame within it.
  pub none_large : (canonical lined : List ℕ) (done : Unit {0}) → PutsBoth (found_raw found payload) canonical lined (Ok done)
      → m + 8 < length canonical → IsNoLine m text
  none_large canonical lined done p large f good e =
      absurd (omega (arith, large, good.within, ap length p.2, ap (λ x. length (canon x)) (same_frame p.0 p.1 f good e)))

  -- Where what was read of a text has a line, the text is the line of a frame exactly where both are equal.
  pub rendered_line : (canonical lined : List ℕ) (done : Unit {0}) (same : Bool) → IsBytes payload → found.1 < 2 ^ 16
      → length payload < 2 ^ 32 → PutsBoth (found_raw found payload) canonical lined (Ok done) → IsBytes canonical
      → length canonical ≤ m + 8 → (IsTrue same ↔ lined ≡ text) → RendersLine m text canonical (Ok same)
  rendered_line canonical lined done true fits c l p bytes within same = record {
    frame = p.0;
    strict_within = record {
      is_strict = record { are_bytes = rw p.2 at bytes; encodes = strict_read found.0 found.1 payload p.0 fits c l p.1 };
      within = rw p.2 at within;
    };
    is_line = sym (same.0 refl) ∙ p.3;
    is_canonical = p.2;
  }
  rendered_line canonical lined done false fits c l p bytes within same = λ f good e.
      absurd (let x = same.1 (cc (p.3, same_frame p.0 p.1 f good e, e)) in cc)

-- canonical bytes above the limit
pub large_by : (b : Bool) (n m : ℕ) → (IsTrue b ↔ n ≤ m) → b ≡ false → m < n
large_by b n m h e = grind numbers

-- Where a test says that a number is within a limit, an equal number is.
pub within_by : {b : Bool} {n : ℕ} (m : ℕ) {k : ℕ} → (IsTrue b ↔ n ≤ m) → b ≡ true → n ≡ k → k ≤ m
within_by {b = true} m h e same = omega (arith, h.0 refl, same)
within_by {b = false} m h e same = absurd cc
