-- The levels, the one strict encoding, and that it is shortest.
use Rattle.std.proofs.Common.{◌≡◌, subst, sym, ◌↔◌, ℕ, ◌-◌, ◌^◌, ◌<◌, ◌≤◌, false, List, [], ◌∷◌, ◌++◌, length, Option, Some, None, refl, ap, ap₂, ◌∙◌, arith}
use Rattle.std.proofs.Common.{append-nil}
use Rattle.std.proofs.lemmas.Bool.{le-ltb}
use Rattle.std.proofs.lemmas.List.{length-append}
use Rattle.std.proofs.lemmas.List.Concat.{flat_map-append}
use Rattle.amqp_types.specs.Levels.{Level, plain, tidy, strict}
use Rattle.amqp_types.specs.Judging.{Judge, IsBytes}
use Rattle.amqp_types.specs.FormLaws.{IsLawful}
use Rattle.amqp_types.specs.ValueLaws.{IsNoLonger as IsSizedWithin}
use Rattle.amqp_types.specs.Methods.{Method, judge_payload, payload_bytes}
use Rattle.amqp_types.specs.MethodSpelling.{SpellsPayload}
use Rattle.amqp_types.specs.ContentHeaders.{ContentHeader, judge_content_header, content_header_bytes, SpellsContentHeader}
use Rattle.amqp_laws.proofs.MethodLaws.{payloads_lawful, payloads_bounded}
use Rattle.amqp_laws.proofs.HeaderLaws.{content_headers_lawful, content_headers_bounded}
use Rattle.amqp_wire.specs.Frames.{Frame, Proto, Meth, Head, Body, Beat, BadBeat}
use Rattle.amqp_wire.specs.Spelling.{framed, IsBeatPayload, IsBeat, Carries, Spells, IsWithin, SpellsFrames}
use Rattle.amqp_wire.specs.Canonical.{canon, canon_frames, is_deep, is_long, is_long_for, size_of}
use Rattle.amqp_wire.specs.Fronts.{front, place}
use Rattle.amqp_wire.specs.Laws.{LevelsNest, HasOneStrict, IsShortest, GivesItself}
use Rattle.amqp_wire.proofs.Sequences.{sequence_front, sequence_place, front-is_sequence, one_sequence}
use Rattle.amqp_wire.proofs.Sizes.{framed_length}
use Rattle.amqp_laws.proofs.Bounded.{neither}

-- ---- what is strict is tidy, and what is tidy is plain

-- what encodes something at the first level encodes it at the second
record Eases (one other : Level) : Type 0 where
  method : (payload : List ℕ) (m : Method) → SpellsPayload one payload m → SpellsPayload other payload m
  header : (payload : List ℕ) (header : ContentHeader) → SpellsContentHeader one payload header → SpellsContentHeader other payload header
  beat : (payload : List ℕ) → IsBeatPayload one payload → IsBeatPayload other payload

strict_tidy : Eases strict tidy
strict_tidy = record { method = payloads_lawful.strict_is_tidy; header = content_headers_lawful.strict_is_tidy; beat = λ payload h. h }

tidy_plain : Eases tidy plain
tidy_plain = record { method = payloads_lawful.tidy_is_plain; header = content_headers_lawful.tidy_is_plain; beat = λ payload h. tt }

module _ (one other : Level) (eases : Eases one other) where
  beat_eases : (bytes : List ℕ) (channel : ℕ) → IsBeat one bytes channel → IsBeat other bytes channel
  beat_eases bytes channel s = record { payload = s.payload; is_framed = s.is_framed; at_level = eases.beat s.payload s.at_level }

  frame_eases : (bytes : List ℕ) (f : Frame) → Spells one bytes f → Spells other bytes f
  frame_eases bytes (Meth channel m) s = record { payload = s.payload; is_framed = s.is_framed; spelled = eases.method s.payload m s.spelled }
  frame_eases bytes (Head channel header) s = record { payload = s.payload; is_framed = s.is_framed; spelled = eases.header s.payload header s.spelled }
  frame_eases bytes Beat s = beat_eases bytes 0 s
  frame_eases bytes (BadBeat channel) s = (s.0, beat_eases bytes channel s.1)
  frame_eases bytes f s = s

  sequence_eases : (m : Option ℕ) (bytes : List ℕ) (frames : List Frame) → SpellsFrames one m bytes frames → SpellsFrames other m bytes frames
  sequence_eases m bytes [] r = r
  sequence_eases m bytes (f ∷ fs) r = (r.0, r.1, r.2, frame_eases r.0 f r.3, r.4, sequence_eases m r.1 fs r.5)

-- Strictly encoded sequences are encoded at level tidy, and those at level plain.
pub levels_nest : LevelsNest
levels_nest = record { strict_is_tidy = sequence_eases strict tidy strict_tidy; tidy_is_plain = sequence_eases tidy plain tidy_plain }

-- A frame that is encoded strictly is encoded at each level.
pub frame_from_strict : (level : Level) (bytes : List ℕ) (f : Frame) → Spells strict bytes f → Spells level bytes f
frame_from_strict plain bytes f s = frame_eases tidy plain tidy_plain bytes f (frame_eases strict tidy strict_tidy bytes f s)
frame_from_strict tidy bytes f s = frame_eases strict tidy strict_tidy bytes f s
frame_from_strict strict bytes f s = s

-- A sequence of frames that is encoded at any level is encoded at level plain.
pub sequence_is_plain : (level : Level) (m : Option ℕ) (bytes : List ℕ) (frames : List Frame)
    → SpellsFrames level m bytes frames → SpellsFrames plain m bytes frames
sequence_is_plain plain m bytes frames r = r
sequence_is_plain tidy m bytes frames r = levels_nest.tidy_is_plain m bytes frames r
sequence_is_plain strict m bytes frames r = levels_nest.tidy_is_plain m bytes frames (levels_nest.strict_is_tidy m bytes frames r)

-- ---- the canonical bytes of a frame that was read

-- a heartbeat on this channel that carries nothing
pub empty_beat : (channel : ℕ) → channel < 2 ^ 16 → IsBeat strict (framed 8 channel []) channel
empty_beat channel fits = record {
  payload = [];
  is_framed = record { channel_fits = fits; length_fits = omega arith; bytes_are = refl };
  at_level = refl;
}

-- the canonical bytes of something that a frame carries
record Recarried {A : Type 0} (Spelled : Level → List ℕ → A → Type 0) (canonical : A → List ℕ) (type : ℕ) (bytes : List ℕ) (channel : ℕ) (x : A) : Type 0 where
  strictly : Carries (Spelled strict) type (framed type channel (canonical x)) channel x
  short : length (framed type channel (canonical x)) ≤ length bytes
  countable : is_long_for (canonical x) ≡ false

recarried : {A : Type 0} (judge : Judge A) (Spelled : Level → List ℕ → A → Type 0) (canonical : A → List ℕ) → IsLawful judge Spelled canonical
    → (type : ℕ) (bytes : List ℕ) (channel : ℕ) (x : A) → Carries (Spelled plain) type bytes channel x → Recarried Spelled canonical type bytes channel x
recarried judge Spelled canonical lawful type bytes channel x s =
    let shorter = lawful.shortest s.payload x s.spelled in
    let fits : length (canonical x) < 2 ^ 32 = omega (arith, shorter, s.is_framed.length_fits) in
    record {
      strictly = record {
        payload = canonical x;
        is_framed = record { channel_fits = s.is_framed.channel_fits; length_fits = fits; bytes_are = refl };
        spelled = lawful.canonical_is_strict s.payload x s.spelled;
      };
      short = omega (arith, shorter, ap length s.is_framed.bytes_are, framed_length type channel s.payload, framed_length type channel (canonical x));
      countable = le-ltb (2 ^ 32 - 1) (length (canonical x)) (omega arith);
    }

-- the canonical bytes of a frame that these bytes encode
record HasCanon (bytes : List ℕ) (f : Frame) : Type 0 where
  strictly : Spells strict (canon f) f
  short : length (canon f) ≤ length bytes
  not_deep : is_deep f ≡ false
  not_long : is_long f ≡ false

beat_length : (bytes : List ℕ) (channel : ℕ) → IsBeat plain bytes channel → length (framed 8 channel []) ≤ length bytes
beat_length bytes channel s = omega (arith, ap length s.is_framed.bytes_are, framed_length 8 channel s.payload)

has_canon : (bytes : List ℕ) (f : Frame) → Spells plain bytes f → HasCanon bytes f
unfolding canon
has_canon bytes (Proto major minor revision) s = record { strictly = refl; short = omega (arith, ap length s); not_deep = refl; not_long = refl }
has_canon bytes (Meth channel m) s =
    let c = recarried judge_payload SpellsPayload payload_bytes payloads_lawful 1 bytes channel m s in
    let b = payloads_bounded plain s.payload m s.spelled in
    record { strictly = c.strictly; short = c.short; not_deep = b.0; not_long = neither _ _ b.1 c.countable }
has_canon bytes (Head channel header) s =
    let c = recarried judge_content_header SpellsContentHeader content_header_bytes content_headers_lawful 2 bytes channel header s in
    let b = content_headers_bounded plain s.payload header s.spelled in
    record { strictly = c.strictly; short = c.short; not_deep = b.0; not_long = neither _ _ b.1 c.countable }
has_canon bytes (Body channel content) s = record {
  strictly = record { channel_fits = s.channel_fits; length_fits = s.length_fits; bytes_are = refl };
  short = omega (arith, ap length s.bytes_are);
  not_deep = refl;
  not_long = le-ltb (2 ^ 32 - 1) (length content) (omega (arith, s.length_fits));
}
has_canon bytes Beat s =
    record { strictly = empty_beat 0 s.is_framed.channel_fits; short = beat_length bytes 0 s; not_deep = refl; not_long = refl }
has_canon bytes (BadBeat channel) s = record {
  strictly = (s.0, empty_beat channel s.1.is_framed.channel_fits);
  short = beat_length bytes channel s.1;
  not_deep = refl;
  not_long = refl;
}

-- The one strict encoding of a frame is its canonical bytes.
pub strict_canon : (bytes : List ℕ) (f : Frame) → Spells strict bytes f → bytes ≡ canon f
unfolding canon
strict_canon bytes (Proto major minor revision) s = s
strict_canon bytes (Meth channel m) s = s.is_framed.bytes_are ∙ ap (framed 1 channel) (payloads_lawful.strict_is_canonical s.payload m s.spelled)
strict_canon bytes (Head channel header) s =
    s.is_framed.bytes_are ∙ ap (framed 2 channel) (content_headers_lawful.strict_is_canonical s.payload header s.spelled)
strict_canon bytes (Body channel content) s = s.bytes_are
strict_canon bytes Beat s = s.is_framed.bytes_are ∙ ap (framed 8 0) s.at_level
strict_canon bytes (BadBeat channel) s = s.1.is_framed.bytes_are ∙ ap (framed 8 channel) s.1.at_level

-- what was encoded has a size, which is no more than its encoding's
pub spelled_sized : (bytes : List ℕ) (f : Frame) → Spells plain bytes f → IsSizedWithin (size_of f) (canon f) (length bytes)
unfolding size_of
spelled_sized bytes f s = let c = has_canon bytes f s in record { sized = rw (c.not_deep, c.not_long) refl; shorter = c.short }

within_short : (m : Option ℕ) (short bytes : List ℕ) → length short ≤ length bytes → IsWithin m bytes → IsWithin m short
within_short None short bytes h w = tt
within_short (Some m) short bytes h w = omega arith

-- ---- sequences

-- one more frame at the end
pub canon_frames-more : (frames : List Frame) (f : Frame) → canon_frames (frames ++ f ∷ []) ≡ canon_frames frames ++ canon f
canon_frames-more frames f = flat_map-append canon frames (f ∷ []) ∙ ap (λ (xs : List ℕ). canon_frames frames ++ xs) (append-nil (canon f))

canon_frames_strict : (m : Option ℕ) (bytes : List ℕ) (frames : List Frame)
    → SpellsFrames plain m bytes frames → SpellsFrames strict m (canon_frames frames) frames
canon_frames_strict m bytes [] r = refl
canon_frames_strict m bytes (f ∷ fs) r =
    let c = has_canon r.0 f r.3 in
    (canon f, canon_frames fs, refl, c.strictly, within_short m (canon f) r.0 c.short r.4, canon_frames_strict m r.1 fs r.5)

strict_canon_frames : (m : Option ℕ) (bytes : List ℕ) (frames : List Frame) → SpellsFrames strict m bytes frames → bytes ≡ canon_frames frames
strict_canon_frames m bytes [] r = r
strict_canon_frames m bytes (f ∷ fs) r = r.2 ∙ ap₂ (λ a b. a ++ b) (strict_canon r.0 f r.3) (strict_canon_frames m r.1 fs r.5)

-- Frames that are encoded at any level have one strict encoding, their canonical bytes, within the same limit.
pub one_strict : (level : Level) (m : Option ℕ) (bytes : List ℕ) (frames : List Frame) → SpellsFrames level m bytes frames → HasOneStrict m frames
one_strict level m bytes frames r = record {
  canonical = canon_frames_strict m bytes frames (sequence_is_plain level m bytes frames r);
  only = λ other s. strict_canon_frames m other frames s;
}

plain_shortest : (m : Option ℕ) (bytes : List ℕ) (frames : List Frame) → SpellsFrames plain m bytes frames → IsShortest bytes frames
plain_shortest m bytes [] r = record { shortest = omega arith; none_is_deep = tt; none_is_long = tt }
plain_shortest m bytes (f ∷ fs) r =
    let c = has_canon r.0 f r.3 in
    let rest = plain_shortest m r.1 fs r.5 in
    record {
      shortest = omega (arith, c.short, rest.shortest, ap length r.2, length-append r.0 r.1, length-append (canon f) (canon_frames fs));
      none_is_deep = (c.not_deep, rest.none_is_deep);
      none_is_long = (c.not_long, rest.none_is_long);
    }

-- The canonical bytes of frames are as short as any encoding of them.
pub sequence_shortest : (level : Level) (m : Option ℕ) (bytes : List ℕ) (frames : List Frame) → SpellsFrames level m bytes frames → IsShortest bytes frames
sequence_shortest level m bytes frames r = plain_shortest m bytes frames (sequence_is_plain level m bytes frames r)

-- the canonical bytes of the front are no more than the bytes
pub canon_front-short : (level : Level) (m : Option ℕ) (bytes : List ℕ) → IsBytes bytes → length (canon_frames (front level m bytes)) ≤ length bytes
canon_front-short level m bytes fits =
    let cut = front-is_sequence level m bytes fits in
    omega
    (arith, (sequence_shortest level m cut.used (front level m bytes) cut.sequence).shortest, ap length cut.parts, length-append cut.used (place level m bytes))

-- what was written, given again
pub gives_itself : (level : Level) (m : Option ℕ) (bytes : List ℕ) → IsBytes bytes → GivesItself m (canon_frames (front level m bytes))
gives_itself level m bytes fits =
    let cut = front-is_sequence level m bytes fits in
    let frames = front level m bytes in
    let again = sequence_is_plain strict m (canon_frames frames) frames (one_strict level m cut.used frames cut.sequence).canonical in
    record {
      whole = sequence_place plain m (canon_frames frames) frames again;
      same = ap canon_frames (sequence_front plain m (canon_frames frames) frames again);
    }

-- sequences with equal canonical bytes are encoded by them strictly, and so are one
pub same_frames : (level : Level) (m : Option ℕ) (a b : List ℕ) (fs gs : List Frame)
    → SpellsFrames level m a fs → SpellsFrames level m b gs → (canon_frames fs ≡ canon_frames gs) ↔ (fs ≡ gs)
same_frames level m a b fs gs r s = (
  λ e. one_sequence strict m (canon_frames fs) fs gs (one_strict level m a fs r).canonical
      (rw e (one_strict level m b gs s).canonical),
  λ e. ap canon_frames e,
)
