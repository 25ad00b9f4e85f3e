-- What is refused.
use Rattle.std.proofs.Common.{◌≡◌, ℕ, List, Result, Ok, Err, subst, sym}
use Rattle.std.specs.Result.{IsErrAnd}
use Rattle.amqp_types.specs.Judging.{Judged, Fault, ◌>>=◌}
use Rattle.amqp_types.specs.Values.{Entry}
use Rattle.amqp_types.specs.Answers.{AnswersFully, Refuses, RefusesWhole}
use Rattle.amqp_types.specs.ValueJudging.{took_all, inside_error}
use Rattle.amqp_types.specs.declared.errors.ParserError.{ParserError}
use Rattle.amqp_types.specs.declared.errors.ParserError.TheVariants as errors
use Rattle.amqp_types.proofs.Judged.{refuses_next}
use Rattle.amqp_laws.proofs.Filling.{refuses_whole}
use Rattle.amqp_canonical.specs.declared.values.ValueJudgement.{ValueJudgement}
use Rattle.amqp_canonical.specs.Judgements.{MayRefuse, Judges, JudgesEntry}

-- a refusal that is not out of memory
abbrev pub Fails : {A : Type 0} → ParserError → Judged A → Type 0
Fails error judged = MayRefuse error × Refuses error judged

-- Where decoding returns an error, which is never out of memory here, that error is refused.
pub fully : {A B : Type 0} (view : A → B) (e : ParserError) (j : Judged B) → AnswersFully view (Err e) j → Fails e j
fully view errors.NoMemory j h = absurd h
fully view _ j h = (λ e. cc, h)

-- a refusal inside is not out of memory either
inside_refused : (error : ParserError) → MayRefuse error → MayRefuse (inside_error error)
inside_refused errors.Incomplete h = λ e. cc
inside_refused _ h = h

-- The error inside of another one is not out of memory, where the other is not.
pub refused_inside : (error inside : ParserError) → inside ≡ inside_error error → MayRefuse error → MayRefuse inside
refused_inside error inside is h = subst (λ e. MayRefuse e) (sym is) (inside_refused error h)

-- What a decoding step refuses, the steps after it refuse with the same error.
pub fails_next : {A B : Type 0} (e : ParserError) (j : Judged A) (f : A × ℕ → Judged B) → Fails e j → Fails e (j >>= f)
fails_next e j f h = (h.0, refuses_next e j f h.1)

-- An error of the whole content is the error of what holds the content.
pub fails_whole : {A : Type 0} (e : ParserError) (n : ℕ) (r : Result A Fault) → MayRefuse e × RefusesWhole e r → Fails e (took_all n r)
fails_whole e n r h = (h.0, refuses_whole e n r h.1)

-- A refused value is decoded as the error that is returned says.
pub err_judged : {A : Type 0} (IsCanonical : List ℕ → A → Type 0) (bytes : List ℕ) (r : Result ValueJudgement ParserError) (e : ParserError) (j : Judged A)
    → IsErrAnd r (λ x. x ≡ e) → Fails e j → Judges IsCanonical bytes r j
err_judged IsCanonical bytes (Ok w) e j is h = absurd is
err_judged IsCanonical bytes (Err x) e j is h = let P : ParserError → Type 0 = λ y. Fails y j in subst P (sym is) h

-- A refused entry is decoded as the error that is returned says.
pub entry_err : {K : Type 0} (view : K → List ℕ) (bytes : List ℕ) (r : Result (ValueJudgement × K) ParserError) (e : ParserError) (j : Judged Entry)
    → IsErrAnd r (λ x. x ≡ e) → Fails e j → JudgesEntry view bytes r j
entry_err view bytes (Ok w) e j is h = absurd is
entry_err view bytes (Err x) e j is h = let P : ParserError → Type 0 = λ y. Fails y j in subst P (sym is) h
