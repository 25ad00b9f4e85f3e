-- What is refused first is refused, whatever was to follow.
use Rattle.std.proofs.Common.{ℕ, ap}
use Rattle.amqp_types.specs.Judging.{Judged, ◌>>=◌}
use Rattle.amqp_types.specs.Answers.{Refuses}
use Rattle.amqp_types.specs.declared.errors.ParserError.{ParserError}
use Rattle.amqp_types.specs.declared.errors.ParserError.TheVariants as errors

-- What a decoding step refuses, the steps after it refuse with the same error.
pub refuses_next : {A B : Type 0} (error : ParserError) (j : Judged A) (f : A × ℕ → Judged B) → Refuses error j → Refuses error (j >>= f)
refuses_next errors.Incomplete j f h = ap (λ x. x >>= f) h
refuses_next errors.UnknownFrameType j f h = ap (λ x. x >>= f) h
refuses_next errors.BadProtocolHeader j f h = ap (λ x. x >>= f) h
refuses_next errors.BadFrameEnd j f h = ap (λ x. x >>= f) h
refuses_next errors.UnknownClass j f h = ap (λ x. x >>= f) h
refuses_next errors.UnknownMethod j f h = ap (λ x. x >>= f) h
refuses_next errors.ShortPayload j f h = ap (λ x. x >>= f) h
refuses_next errors.TrailingBytes j f h = ap (λ x. x >>= f) h
refuses_next errors.NotUtf8 j f h = ap (λ x. x >>= f) h
refuses_next errors.UnknownTag j f h = ap (λ x. x >>= f) h
refuses_next errors.TooDeep j f h = ap (λ x. x >>= f) h
refuses_next errors.NoMemory j f h = tt
