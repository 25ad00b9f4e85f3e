-- What is written is no longer than what was read.
use Rattle.std.proofs.Common.{◌≤◌, ℕ, List, length, take, ap, arith}
use Rattle.std.proofs.lemmas.List.{length-take-le}
use Rattle.amqp_types.specs.Levels.{Level, plain}
use Rattle.amqp_types.specs.Judging.{Judge, IsExact}
use Rattle.amqp_types.specs.FormLaws.{IsLawful}
use Rattle.amqp_types.specs.ValueBytes.{array_bytes, table_bytes, tagged_bytes}
use Rattle.amqp_types.specs.ValueJudging.{judge_value, judge_array, judge_table}
use Rattle.amqp_types.specs.ValueSpelling.{SpellsValue}
use Rattle.amqp_types.specs.SlotJudging.{judge_slots}
use Rattle.amqp_types.specs.SlotBytes.{slots_bytes}
use Rattle.amqp_types.specs.SlotSpelling.{SpellsSlots}
use Rattle.amqp_types.specs.Methods.{judge_payload, payload_bytes}
use Rattle.amqp_types.specs.MethodSpelling.{SpellsPayload}
use Rattle.amqp_types.specs.ContentHeaders.{judge_content_header, content_header_bytes, SpellsContentHeader}
use Rattle.amqp_laws.proofs.Filled.{array_exact, table_exact}
use Rattle.amqp_laws.proofs.Exactly.{value_exact, value_some}
use Rattle.amqp_laws.proofs.Bounded.{value_bounded, array_bounded, table_bounded}
use Rattle.amqp_laws.proofs.SlotLaws.{slots_lawful}
use Rattle.amqp_laws.proofs.MethodLaws.{payloads_lawful}
use Rattle.amqp_laws.proofs.HeaderLaws.{content_headers_lawful}
use Rattle.amqp_canonical.specs.Writes.{canonical_of}
use Rattle.amqp_canonical.specs.WritingLaws.{WritesNoLonger, ValuesAreNoLonger, ArraysAreNoLonger, TablesAreNoLonger, SlotsAreNoLonger, PayloadsAreNoLonger}
use Rattle.amqp_canonical.specs.WritingLaws.{ContentHeadersAreNoLonger}
use Rattle.amqp_canonical.proofs.ReadParts.{took_of}
use Rattle.amqp_types.specs.Tidiness.{used_by}

no_longer : {A : Type 0} (judge : Judge A) (Spells : List ℕ → A → Type 0) (canonical : A → List ℕ) → IsExact judge Spells
    → ((bytes : List ℕ) (x : A) → Spells bytes x → length (canonical x) ≤ length bytes) → WritesNoLonger judge canonical
no_longer judge Spells canonical exact shorter bytes fits h =
    let one = took_of (judge bytes) h in
    let spelled = exact.spelled bytes one.0 one.1 fits one.2 in
    let less = shorter (take one.1 bytes) one.0 spelled.0 in
    omega (arith, less, length-take-le one.1 bytes spelled.1, ap (λ j. length (canonical_of canonical j)) one.2, ap used_by one.2)

lawful : {A : Type 0} (judge : Judge A) (Spells : Level → List ℕ → A → Type 0) (canonical : A → List ℕ)
    → IsLawful judge Spells canonical → WritesNoLonger judge canonical
lawful judge Spells canonical laws = no_longer judge (Spells plain) canonical laws.exact laws.shortest

-- The canonical bytes of a decoded value, with its tag, are at most the bytes that it took.
pub values_no_longer : ValuesAreNoLonger
values_no_longer room = no_longer (judge_value room) _ tagged_bytes (value_exact room) (λ bytes v s. (value_bounded room bytes v s).shorter)

-- The canonical bytes of a decoded array are at most the bytes that it took.
pub arrays_no_longer : ArraysAreNoLonger
arrays_no_longer room =
    let Plain = SpellsValue plain room in
    no_longer (judge_array (judge_value room)) _ array_bytes (array_exact (judge_value room) Plain (value_exact room) (value_some plain room))
    (λ bytes vs s. (array_bounded room Plain (value_bounded room) bytes vs s).shorter)

-- The canonical bytes of a decoded table are at most the bytes that it took.
pub tables_no_longer : TablesAreNoLonger
unfolding table_bytes
tables_no_longer room =
    let Plain = SpellsValue plain room in
    no_longer (judge_table (judge_value room)) _ table_bytes (table_exact (judge_value room) Plain (value_exact room) (value_some plain room))
    (λ bytes es s. (table_bounded room Plain (value_bounded room) bytes es s).shorter)

-- The canonical bytes of decoded fields, whose constants are least, are at most the bytes that they took.
pub slots_no_longer : SlotsAreNoLonger
slots_no_longer slots least = lawful (judge_slots slots) (λ level. SpellsSlots level slots) (slots_bytes slots) (slots_lawful slots least)

-- The canonical bytes of the method in a payload are at most the bytes that were taken.
pub payloads_no_longer : PayloadsAreNoLonger
payloads_no_longer = lawful judge_payload SpellsPayload payload_bytes payloads_lawful

-- The canonical bytes of a decoded content header are at most the bytes that it took.
pub content_headers_no_longer : ContentHeadersAreNoLonger
content_headers_no_longer = lawful judge_content_header SpellsContentHeader content_header_bytes content_headers_lawful
