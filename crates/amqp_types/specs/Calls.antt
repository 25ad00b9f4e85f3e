-- What the calls of a type promise.
use Rattle.std.specs.Prelude.{◌≢◌, ◌≡◌, ◌≤◌, ◌+◌, ◌^◌, ℕ, List, length, Result, IfOk, IfErr, IsOk}
use Rattle.amqp_types.specs.Judging.{Judge}
use Rattle.amqp_types.specs.Answers.{Answers}
use Rattle.amqp_types.specs.declared.errors.ParserError.{ParserError}
use Rattle.amqp_types.specs.declared.errors.ParserError.TheVariants as parser_errors
use Rattle.amqp_types.specs.declared.errors.GenError.{GenError}

-- a parse call returns what is decoded, and has used bytes that are there
pub record Parses {A B : Type 0} (view : A → B) (result : Result (ℕ × A) ParserError)
    (bytes : List ℕ) (judge : Judge B) : Type 0 where
  pub judged : Answers view result (judge bytes)
  pub used : IfOk result (λ found. found.0 ≤ length bytes)

-- a call that takes no memory, and so never returns that it is out of memory
abbrev pub NeedsNoMemory : {A : Type 0} → Result A ParserError → Type 0
NeedsNoMemory result = IfErr result (λ error. error ≢ parser_errors.NoMemory)

-- a size call returns the size, which is small enough to be added to others
pub record Measures (result size : Result ℕ GenError) : Type 0 where
  pub measured : result ≡ size
  pub bound : IfOk result (λ n. n ≤ 2 ^ 40)

-- what a put call needs: the bytes have a size, and the buffer has room for them
pub record HasRoom (buf : List ℕ) (at : ℕ)
    (size : Result ℕ GenError) (bytes : List ℕ) : Type 0 where
  pub fits : IsOk size
  pub room : at + length bytes ≤ length buf
