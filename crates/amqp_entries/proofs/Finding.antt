-- What a content was found to be.
use Rattle.std.proofs.Common.{◌≡◌, ℕ, ◌<◌, ◌≤◌, ◌^◌, List, [], length, Bool, IsTrue, Option, None, Result, Ok, refl, sym, ap, ◌∙◌, arith}
use Rattle.amqp_types.specs.Answers.{RefusesWhole}
use Rattle.amqp_types.specs.Judging.{Fault}
use Rattle.amqp_types.specs.Settling.{settled}
use Rattle.amqp_types.specs.declared.errors.ParserError.{ParserError}
use Rattle.amqp_types.specs.declared.errors.ParserError.TheVariants as errors
use Rattle.amqp_laws.proofs.Strictly.{in_order}
use Rattle.amqp_canonical.specs.Judgements.{Fills, AreCanonicalEntries, AreCanonicalValues, MayRefuse}
use Rattle.amqp_canonical.specs.Writes.{array_content, items_of, table_content}
use Rattle.amqp_entries.specs.Contents.{array_flaw, array_in, read_entries, read_values, table_flaw, table_in}
use Rattle.amqp_entries.specs.Flaws.{content_flaw}
use Rattle.amqp_entries.specs.Found.{IsFound}
use Rattle.amqp_entries.specs.declared.contents.Found.{Found}
use Rattle.amqp_entries.specs.declared.errors.PutError.{PutError}
use Rattle.amqp_entries.proofs.Flawless.{flawless, no_flaw}

-- content that was judged canonical is its canonical bytes
pub canonical_table : (room : ℕ) (content : List ℕ) (canonical : Bool) → Fills AreCanonicalEntries canonical content (read_entries room content)
    → IsTrue canonical → content ≡ table_content (table_in room content)
canonical_table room content canonical h tidy =
    let is = h.decides.0 tidy in
    is.0 ∙ ap table_content (sym (in_order [] h.thing is.1) ∙ sym (ap (λ r. settled (items_of r)) h.is))

-- the content of an array that is called canonical is its canonical bytes
pub canonical_array : (room : ℕ) (content : List ℕ) (canonical : Bool) → Fills AreCanonicalValues canonical content (read_values room content)
    → IsTrue canonical → content ≡ array_content (array_in room content)
canonical_array room content canonical h tidy = h.decides.0 tidy ∙ ap array_content (sym (ap items_of h.is))

-- what was judged of the content of a table, and its size
pub table_found : (room : ℕ) (content : List ℕ) (canonical : Bool) (copied size : ℕ) → length content < 2 ^ 32
    → Fills AreCanonicalEntries canonical content (read_entries room content) → size ≡ length (table_content (table_in room content)) → size < 2 ^ 32
    → (copied ≡ 1 → IsTrue canonical)
    → IsFound (table_flaw room content) content (table_content (table_in room content)) (record { canonical = copied; size = size })
table_found room content canonical copied size few h is low tidy = record {
  size_is = λ none. is;
  few = λ none. low;
  flawless = λ below. no_flaw content (read_entries room content) h.thing few h.is;
  copied = λ none one. canonical_table room content canonical h (tidy one);
}

-- what was judged of the content of an array, and its size
pub array_found : (room : ℕ) (content : List ℕ) (canonical : Bool) (copied size : ℕ) → length content < 2 ^ 32
    → Fills AreCanonicalValues canonical content (read_values room content) → size ≡ length (array_content (array_in room content)) → size < 2 ^ 32
    → (copied ≡ 1 → IsTrue canonical)
    → IsFound (array_flaw room content) content (array_content (array_in room content)) (record { canonical = copied; size = size })
array_found room content canonical copied size few h is low tidy = record {
  size_is = λ none. is;
  few = λ none. low;
  flawless = λ below. no_flaw content (read_values room content) h.thing few h.is;
  copied = λ none one. canonical_array room content canonical h (tidy one);
}

not_filled : {A : Type 0} (error : ParserError) (read : Result A Fault) (x : A) → MayRefuse error → RefusesWhole error read → read ≡ Ok x → ⊥
not_filled errors.Incomplete read x may h e = h
not_filled errors.UnknownFrameType read x may h e = absurd cc
not_filled errors.BadProtocolHeader read x may h e = absurd cc
not_filled errors.BadFrameEnd read x may h e = absurd cc
not_filled errors.UnknownClass read x may h e = absurd cc
not_filled errors.UnknownMethod read x may h e = absurd cc
not_filled errors.ShortPayload read x may h e = absurd cc
not_filled errors.TrailingBytes read x may h e = absurd cc
not_filled errors.NotUtf8 read x may h e = absurd cc
not_filled errors.UnknownTag read x may h e = absurd cc
not_filled errors.TooDeep read x may h e = absurd cc
not_filled errors.NoMemory read x may h e = may refl

found_none : (flaw : Option PutError) (content canonical : List ℕ) (found : Found) → found ≡ record { canonical = 0; size = 2 ^ 32 } → (flaw ≡ None → ⊥)
    → IsFound flaw content canonical found
found_none flaw content canonical found is some = record {
  size_is = λ none. absurd (some none);
  few = λ none. absurd (some none);
  flawless = λ below. absurd (omega (arith, below, ap (λ (f : Found). f.size) is));
  copied = λ none. absurd (some none);
}

-- content with a fault is not put
pub fault_found : {A : Type 0} (content canonical : List ℕ) (read : Result A Fault) (error : ParserError) (found : Found)
    → found ≡ record { canonical = 0; size = 2 ^ 32 } → MayRefuse error × RefusesWhole error read → IsFound (content_flaw content read) content canonical found
fault_found content canonical read error found is h =
    found_none (content_flaw content read) content canonical found is
    (λ none. let f = flawless content read none in not_filled error read f.thing h.0 h.1 f.is)

-- content of too many bytes is not put
pub long_found : {A : Type 0} (content canonical : List ℕ) (read : Result A Fault) (found : Found) → found ≡ record { canonical = 0; size = 2 ^ 32 }
    → 2 ^ 32 ≤ length content → IsFound (content_flaw content read) content canonical found
long_found content canonical read found is many =
    found_none (content_flaw content read) content canonical found is (λ none. let f = flawless content read none in omega (arith, f.few, many))
