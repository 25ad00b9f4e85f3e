-- Canonical bytes are read as the frame that they were written for.
use Rattle.std.proofs.Common.{◌≡◌, ◌≢◌, ℕ, false, Result, Ok, Err, IsOk, List, [], ◌++◌, length, append-nil, None, refl, sym, ap, subst, ◌∙◌, arith, inl, inr}
use Rattle.std.proofs.lemmas.Bool.{cases_eq, eq-eqb, ne_eqb}
use Rattle.std.proofs.lemmas.List.{length-append, nil_from_length}
use Rattle.amqp_types.specs.Levels.{Level, strict}
use Rattle.amqp_types.specs.declared.errors.GenError.{GenError}
use Rattle.amqp_types.specs.Judging.{Judged, past, fault, took}
use Rattle.amqp_types.proofs.Exact.{took_count}
use Rattle.amqp_types.specs.SlotBytes.{any_long}
use Rattle.amqp_types.specs.Methods.{payload_bytes}
use Rattle.amqp_types.specs.PropertyBytes.{any_long_option}
use Rattle.amqp_types.specs.ContentHeaders.{content_header_bytes}
use Rattle.amqp_laws.proofs.SlotLaws.{either}
use Rattle.amqp_laws.proofs.ValueLaws.{sized}
use Rattle.amqp_laws.proofs.MethodLaws.{payload_held}
use Rattle.amqp_laws.proofs.HeaderLaws.{header_held}
use Rattle.amqp_wire.specs.Frames.{Frame, Proto, Meth, Head, Body, Beat, BadBeat}
use Rattle.amqp_wire.specs.Verdicts.{judge_frame}
use Rattle.amqp_wire.specs.Spelling.{framed, Spells}
use Rattle.amqp_wire.specs.Canonical.{canon, is_deep, is_long, is_long_for, size_of, read_back}
use Rattle.amqp_wire.specs.Laws.{IsFrameHeld, ReadsBack}
use Rattle.amqp_wire.proofs.Cuts.{verdict-append, verdict-got_within}
use Rattle.amqp_wire.proofs.Holding.{held_fields}
use Rattle.amqp_wire.proofs.Sizes.{countable, SizeIs, size_is_length}
use Rattle.amqp_wire.proofs.Spelled.{verdict-spelled_before}
use Rattle.amqp_wire.proofs.Strictness.{empty_beat, frame_from_strict}

canon_spells : (f : Frame) → IsFrameHeld f → is_deep f ≡ false → is_long f ≡ false → Spells strict (canon f) (read_back f)
unfolding canon
canon_spells (Proto major minor revision) held deep long = refl
canon_spells (Meth channel m) held deep long =
    let fields = held_fields m held.1 in
    let short = either (any_long m.items) (is_long_for (payload_bytes m)) long in
    record {
      payload = payload_bytes m;
      is_framed = record { channel_fits = held.0; length_fits = countable (payload_bytes m) short.1; bytes_are = refl };
      spelled = payload_held m fields.slots fields.known fields.held deep short.0;
    }
canon_spells (Head channel header) held deep long =
    let short = either (any_long_option header.options) (is_long_for (content_header_bytes header)) long in
    record {
      payload = content_header_bytes header;
      is_framed = record { channel_fits = held.0; length_fits = countable (content_header_bytes header) short.1; bytes_are = refl };
      spelled = header_held header held.1 deep short.0;
    }
canon_spells (Body channel content) held deep long = record { channel_fits = held; length_fits = countable content long; bytes_are = refl }
canon_spells Beat held deep long = empty_beat 0 (omega arith)
canon_spells (BadBeat channel) held deep long = elim (cases_eq channel 0) [
  | inl none ↦ rw (eq-eqb channel 0 none) (subst (λ n. Spells strict (framed 8 n []) Beat) (sym none) (empty_beat 0 (omega arith)))
  | inr some ↦ rw (ne_eqb channel 0 some) (omega arith, empty_beat channel held)
]

-- a front that is decoded is not shorter than what all the bytes are decoded to be
judged_front : (level : Level) (first rest : List ℕ) (f : Frame) (j : Judged Frame) → judge_frame level None first ≡ j
    → judge_frame level None (first ++ rest) ≡ took f (length (first ++ rest)) → rest ≢ [] → j ≡ past
judged_front level first rest f past e whole some = refl
judged_front level first rest f (fault bad) e whole some = absurd (let same = verdict-append level None first rest (λ h. absurd cc) in cc)
judged_front level first rest f (took g n) e whole some =
    let same = verdict-append level None first rest (λ h. absurd cc) in
    let count : n ≡ length (first ++ rest) = took_count (judge_frame level None (first ++ rest)) g f n (length (first ++ rest)) (same ∙ e) whole in
    let within = (verdict-got_within level None first g n e).1 in
    absurd (some (nil_from_length rest (omega (arith, length-append first rest, count, within))))

-- Canonical bytes of a frame that is neither long nor too deep are decoded to it, whatever follows; fewer are incomplete.
pub reads_back : (level : Level) (f : Frame) → IsFrameHeld f → size_of f ≡ Ok (length (canon f)) → ReadsBack level f
unfolding size_of
reads_back level f held size =
    let ok = sized (is_deep f) (is_long f) (canon f) size in
    let spelled = canon_spells f held ok.0 ok.1 in
    let whole : (rest : List ℕ) → judge_frame level None (canon f ++ rest) ≡ took (read_back f) (length (canon f)) =
    λ rest. verdict-spelled_before level None (canon f) rest (read_back f) (frame_from_strict level (canon f) (read_back f) spelled) tt in
    record {
      whole = whole;
      fewer = λ first rest parts some.
          let all : judge_frame level None (first ++ rest) ≡ took (read_back f) (length (first ++ rest)) =
          subst (λ (xs : List ℕ). judge_frame level None xs ≡ took (read_back f) (length xs)) parts
          (subst (λ (xs : List ℕ). judge_frame level None xs ≡ took (read_back f) (length (canon f))) (append-nil (canon f)) (whole [])) in
          judged_front level first rest (read_back f) (judge_frame level None first) refl all some;
    }

sized_ok : (size : Result ℕ GenError) (bytes : List ℕ) → SizeIs size bytes → IsOk size → size ≡ Ok (length bytes)
sized_ok (Ok n) bytes is fits = ap Ok is
sized_ok (Err error) bytes is fits = absurd cc

-- of a frame that can be written
pub written_reads_back : (level : Level) (f : Frame) → IsFrameHeld f → IsOk (size_of f) → ReadsBack level f
written_reads_back level f held fits = reads_back level f held (sized_ok (size_of f) (canon f) (size_is_length f).1 fits)
