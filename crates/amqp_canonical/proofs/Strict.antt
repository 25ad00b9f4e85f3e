-- Canonical bytes are the strict encoding.
use Rattle.std.proofs.Common.{◌≡◌, ◌↔◌, ℕ, List, take}
use Rattle.amqp_types.specs.Levels.{Level, plain, strict}
use Rattle.amqp_types.specs.Judging.{Judge, took, IsBytes, IsExact}
use Rattle.amqp_types.specs.FormLaws.{IsLawful}
use Rattle.amqp_types.specs.ValueJudging.{judge_value}
use Rattle.amqp_types.specs.ValueSpelling.{SpellsValue}
use Rattle.amqp_laws.proofs.Filled.{array_exact, table_exact}
use Rattle.amqp_laws.proofs.Exactly.{value_exact, value_some}
use Rattle.amqp_laws.proofs.Bounded.{value_bounded, array_bounded, table_bounded}
use Rattle.amqp_laws.proofs.Strictly.{value_only, only_array, only_table, value_again, array_again, table_again}
use Rattle.amqp_laws.proofs.ValueLaws.{values_lawful}
use Rattle.amqp_canonical.specs.CanonicalLaws.{CanonicalIsStrict, CanonicalValuesAreStrict, CanonicalArraysAreStrict, CanonicalTablesAreStrict}

-- of what is decoded exactly, whose canonical bytes are its only strict encoding
exactly_strict : {A : Type 0} {judge : Judge A} {Plain Strict : List ℕ → A → Type 0} {canonical : A → List ℕ} → IsExact judge Plain
    → ((bytes : List ℕ) (x : A) → Plain bytes x → Strict (canonical x) x) → ((bytes : List ℕ) (x : A) → Strict bytes x → bytes ≡ canonical x)
    → (bytes : List ℕ) (x : A) (n : ℕ) → IsBytes bytes → judge bytes ≡ took x n → (take n bytes ≡ canonical x) ↔ Strict (take n bytes) x
exactly_strict exact again only bytes x n fits h =
    let one = exact.spelled bytes x n fits h in
    (λ e. rw e (again (take n bytes) x one.0), only (take n bytes) x)

-- what is lawful
pub lawful_strict : {A : Type 0} {judge : Judge A} {Spells : Level → List ℕ → A → Type 0} {canonical : A → List ℕ}
    → IsLawful judge Spells canonical → CanonicalIsStrict judge Spells (λ bytes x. bytes ≡ canonical x)
lawful_strict law = exactly_strict law.exact law.canonical_is_strict law.strict_is_canonical

-- The bytes of a decoded value are its canonical bytes exactly where they are its strict encoding.
pub value_strict : CanonicalValuesAreStrict
value_strict room = lawful_strict (values_lawful room)

-- The bytes of a decoded array are its canonical bytes exactly where they are its strict encoding.
pub array_strict : CanonicalArraysAreStrict
array_strict room =
    let Plain = SpellsValue plain room in
    let Strict = SpellsValue strict room in
    exactly_strict (array_exact (judge_value room) Plain (value_exact room) (value_some plain room)) (λ bytes vs h.
    let b = array_bounded room Plain (value_bounded room) bytes vs h in
    array_again Plain Strict (value_again room) bytes vs b.not_long h) (only_array Strict (value_only room))

-- The bytes of a decoded table are its canonical bytes exactly where they are its strict encoding.
pub table_strict : CanonicalTablesAreStrict
table_strict room =
    let Plain = SpellsValue plain room in
    let Strict = SpellsValue strict room in
    exactly_strict (table_exact (judge_value room) Plain (value_exact room) (value_some plain room)) (λ bytes es h.
    let b = table_bounded room Plain (value_bounded room) bytes es h in
    table_again Plain Strict (value_again room) bytes es b.not_long h) (only_table Strict (value_only room))
