-- Codes and errors name each other.
use Rattle.std.proofs.Common.{◌≡◌, ℕ, List, [], ◌∷◌, Option, Some, None, refl, sym, ap, ◌∙◌, inl, inr}
use Rattle.std.specs.Prelude.{◌≢◌, if◌then◌else◌}
use Rattle.std.proofs.lemmas.Bool.{cases_eq, eq-eqb, ne_eqb}
use Rattle.amqp_protocol.specs.declared.errors.AMQPSoftError.{AMQPSoftError}
use Rattle.amqp_protocol.specs.declared.errors.AMQPSoftError.TheVariants as soft
use Rattle.amqp_protocol.specs.declared.errors.AMQPHardError.{AMQPHardError}
use Rattle.amqp_protocol.specs.declared.errors.AMQPHardError.TheVariants as hard
use Rattle.amqp_protocol.specs.declared.errors.AMQPErrorKind.{AMQPErrorKind}
use Rattle.amqp_protocol.specs.declared.errors.AMQPErrorKind.TheVariants as kinds
use Rattle.amqp_protocol.specs.ErrorCodes.{soft_code, soft_errors, soft_at, hard_code, hard_errors, hard_at, error_among, kind_code, kind_else, kind_at}
use Rattle.amqp_protocol.specs.ProtocolLaws.{CodesNameErrors}

-- what is found among errors has the code
among_code : {E : Type 0} (code : E → ℕ) (errors : List E) (id : ℕ) (error : E) → error_among code errors id ≡ Some error → code error ≡ id
among_code code [] id error h = cc
among_code code (first ∷ others) id error h = elim (cases_eq id (code first)) [
  | inl same ↦
      let found : Some first ≡ Some error = sym (ap (λ b. if b then Some first else error_among code others id) (eq-eqb id (code first) same)) ∙ h in
      let is : first ≡ error = cc in
      sym (ap code is) ∙ sym same
  | inr other ↦ among_code code others id error (sym (ap (λ b. if b then Some first else error_among code others id) (ne_eqb id (code first) other)) ∙ h)
]

else_code : (id : ℕ) (one : Option AMQPSoftError) (other : Option AMQPHardError) (kind : AMQPErrorKind)
    → ((error : AMQPSoftError) → one ≡ Some error → soft_code error ≡ id) → ((error : AMQPHardError) → other ≡ Some error → hard_code error ≡ id)
    → kind_else one other ≡ Some kind → kind_code kind ≡ id
else_code id (Some error) other kind p q h = let is : kinds.Soft error ≡ kind = cc in sym (ap kind_code is) ∙ p error refl
else_code id None (Some error) kind p q h = let is : kinds.Hard error ≡ kind = cc in sym (ap kind_code is) ∙ q error refl
else_code id None None kind p q h = cc

of_code : (id : ℕ) (kind : AMQPErrorKind) → kind_at id ≡ Some kind → kind_code kind ≡ id
of_code id kind h = else_code id (soft_at id) (hard_at id) kind (among_code soft_code soft_errors id) (among_code hard_code hard_errors id) h

of_error : (kind : AMQPErrorKind) → kind_at (kind_code kind) ≡ Some kind
of_error (kinds.Soft soft.CONTENTTOOLARGE) = refl
of_error (kinds.Soft soft.NOROUTE) = refl
of_error (kinds.Soft soft.NOCONSUMERS) = refl
of_error (kinds.Soft soft.ACCESSREFUSED) = refl
of_error (kinds.Soft soft.NOTFOUND) = refl
of_error (kinds.Soft soft.RESOURCELOCKED) = refl
of_error (kinds.Soft soft.PRECONDITIONFAILED) = refl
of_error (kinds.Hard hard.CONNECTIONFORCED) = refl
of_error (kinds.Hard hard.INVALIDPATH) = refl
of_error (kinds.Hard hard.FRAMEERROR) = refl
of_error (kinds.Hard hard.SYNTAXERROR) = refl
of_error (kinds.Hard hard.COMMANDINVALID) = refl
of_error (kinds.Hard hard.CHANNELERROR) = refl
of_error (kinds.Hard hard.UNEXPECTEDFRAME) = refl
of_error (kinds.Hard hard.RESOURCEERROR) = refl
of_error (kinds.Hard hard.NOTALLOWED) = refl
of_error (kinds.Hard hard.NOTIMPLEMENTED) = refl
of_error (kinds.Hard hard.INTERNALERROR) = refl

no_error : (id : ℕ) → kind_at id ≡ None → (kind : AMQPErrorKind) → kind_code kind ≢ id
no_error id none kind is =
    let found : Some kind ≡ None = sym (of_error kind) ∙ ap kind_at is ∙ none in
    cc

found_none : (id : ℕ) (found : Option AMQPErrorKind) → ((kind : AMQPErrorKind) → found ≡ Some kind → kind_code kind ≡ id)
    → ((kind : AMQPErrorKind) → kind_code kind ≢ id) → found ≡ None
found_none id None p q = refl
found_none id (Some kind) p q = absurd (q kind (p kind refl))

-- The code of an error names that error, a named code is that of its error, and a code names none exactly where no error has it.
pub codes_are_names : CodesNameErrors
codes_are_names = record {
  of_error = of_error;
  of_code = of_code;
  of_none = λ id. (no_error id, found_none id (kind_at id) (of_code id));
}
