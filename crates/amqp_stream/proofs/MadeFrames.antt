-- The frames that are generated, of which two are methods, and the sequence that they are.
use Rattle.amqp_stream.proofs
use Rattle.amqp_types.specs as types
use Rattle.amqp_wire.specs as wire
use proofs.Names.{◌≡◌, ℕ, zero, suc, ◌+◌, ◌-◌, ◌%◌, ◌<◌, Bool, true, List, [], ◌∷◌, ◌++◌, take, refl, arith, ◌==◌, if◌then◌else◌, nat_tests, plain, took}
use proofs.Names.{IsBytes, Frame, Body, made_channel, made_payload, made_frame, select_payload, declare_payload, made_from}
use Rattle.std.proofs.Common.{◌&&◌, rules}
use Rattle.std.specs.Prelude.{nat_lt}
use Rattle.std.specs.Str.{is_utf8}
use Rattle.std.proofs.lemmas.Str.{is_utf8-from_IsUtf8, IsUtf8-from_ascii}
use types.Flags.{judge_flags}
use types.Strings.{judge_short_string, judge_long_string}
use types.Values.{boolean_value}
use types.ValueJudging.{filled, judge_entry, judge_table, judge_behind, judge_tagged, nested, judge_value}
use types.Slots.{Item, flag_item, text_item, entries_item}
use types.SlotJudging.{judge_form, judge_dropped, judge_slots}
use types.Rows.{rows_of, slots_at}
use types.Methods.{Method, method, judge_method, judge_in_class, judge_payload}
use types.MethodSpelling.{SpellsPayload}
use Rattle.amqp_laws.proofs.MethodLaws.{payloads_lawful}
use wire.Frames.{Meth, Beat}
use wire.Spelling.{Spells}
use Rattle.amqp_stream.specs.Made.{MadeIsASequence, IsSequenceOf}
use proofs.MadeSizes.{by_four, made_frame-short}

-- where each frame is encoded, the frames one after another are a sequence
pub made_sequence : (frame : ℕ → Frame) → ((i : ℕ) → Spells plain (made_frame i) (frame i)) → (i n : ℕ) → IsSequenceOf n (made_from i n)
made_sequence frame spelled i zero = record { frames = []; spelled = refl; count = refl }
made_sequence frame spelled i (suc n) =
    let more = made_sequence frame spelled (i + 1) n in
    record {
      frames = frame i ∷ more.frames;
      spelled = (made_frame i, made_from (i + 1) n, refl, spelled i, omega (arith, made_frame-short i), more.spelled);
      count = omega arith;
    }

-- ---- payloads that are decoded by computing

-- each of these numbers is a byte
abbrev are_bytes : List ℕ → Bool
are_bytes [] = true
are_bytes (b ∷ bytes) = nat_lt b 256 && are_bytes bytes

byte_by : (b : ℕ) (others : Bool) → (nat_lt b 256 && others) ≡ true → (b < 256) × (others ≡ true)
byte_by b others h = (grind (arith, nat_tests), grind (arith, nat_tests))

bytes_by : (bytes : List ℕ) → are_bytes bytes ≡ true → IsBytes bytes
bytes_by [] h i = omega arith
bytes_by (b ∷ bytes) h zero = (byte_by b (are_bytes bytes) h).0
bytes_by (b ∷ bytes) h (suc i) = bytes_by bytes (byte_by b (are_bytes bytes) h).1 i

abbrev select : Method
select = method 85 10 (flag_item true ∷ [])

select_judged : judge_payload select_payload ≡ took select 5
unfolding judge_payload judge_in_class judge_method rows_of slots_at judge_slots judge_form judge_flags
select_judged = refl

-- ---- the payload with strings: `is_utf8` computes nothing here

empty_utf8 : is_utf8 [] ≡ true
empty_utf8 = is_utf8-from_IsUtf8 [] (IsUtf8-from_ascii [] (search rules))

key_utf8 : is_utf8 (97 ∷ []) ≡ true
key_utf8 = is_utf8-from_IsUtf8 (97 ∷ []) (IsUtf8-from_ascii (97 ∷ []) (search rules))

abbrev flags : List Item
flags = flag_item true ∷ flag_item true ∷ flag_item true ∷ flag_item true ∷ flag_item true ∷ []

abbrev declare : Method
declare = method 50 10 (text_item [] ∷ flags ++ entries_item ((97 ∷ [], boolean_value true) ∷ []) ∷ [])

declare_judged : judge_payload declare_payload ≡ took declare 20
unfolding judge_payload judge_in_class judge_method rows_of slots_at judge_slots judge_form judge_flags judge_dropped
    judge_short_string judge_long_string judge_table judge_entry judge_value judge_tagged nested judge_behind filled
declare_judged = simp (empty_utf8, key_utf8)

-- ---- what they encode

spelled_by : {payload : List ℕ} {m : Method} {n : ℕ}
    → judge_payload payload ≡ took m n → are_bytes payload ≡ true → take n payload ≡ payload → SpellsPayload plain payload m
spelled_by judged bytes whole = rw whole at ((payloads_lawful.exact.spelled _ _ _ (bytes_by _ bytes) judged).0)

-- ---- the frames

frame_at : ℕ → Frame
frame_at i =
    if i % 4 == 0 then Beat
    else (if i % 4 == 1 then Body (made_channel i) (made_payload i)
    else (if i % 4 == 2 then Meth (made_channel i) select
    else Meth (made_channel i) declare))

frame_spelled : (i : ℕ) → Spells plain (made_frame i) (frame_at i)
unfolding made_frame frame_at
frame_spelled i =
    by_four (Spells plain) (i % 4 == 0) (i % 4 == 1) (i % 4 == 2) _ _ _ _ _ _ _ _
    (record { payload = made_payload i; is_framed = search arith; at_level = tt })
    (search arith)
    (record { payload = select_payload; is_framed = search arith; spelled = spelled_by select_judged refl refl })
    (record { payload = declare_payload; is_framed = search arith; spelled = spelled_by declare_judged refl refl })

-- The generated stream is a sequence of frames at each level.
pub all_made : MadeIsASequence
all_made = made_sequence frame_at frame_spelled 0
