-- A text that is read to its end.
use Rattle.std.specs.Prelude.{◌≡◌, ℕ, ◌+◌, ◌<◌, ◌≤◌, List, length, Result, Ok, Err, Vec}
use Rattle.std.specs.declared.alloc.Global.{Global}
use Rattle.amqp_stream.specs.Ends.{Supply, Takes, Rises, IsEmpty}
use Rattle.amqp_program.specs.declared.text.InputError.{InputError}
use Rattle.amqp_program.specs.declared.text.InputError.TheVariants as errors

-- the most bytes that a text may have, a final newline counted
abbrev pub longest : ℕ
longest = 16777216

-- When each result of reading a text comes, by the bytes taken: Ok with all of them at the end of
-- input, TooLong where they are more than the longest text.
abbrev pub TextEnds : List ℕ → Supply → Supply → Result (List ℕ) InputError → Type 0
TextEnds taken old new (Ok text) = (text ≡ taken) × (length taken ≤ longest) × IsEmpty new.left
TextEnds taken old new (Err (errors.ReadFault after)) =
    (after ≡ length taken) × (length taken ≤ longest) × Rises old.faults new.faults
TextEnds taken old new (Err errors.TooLong) = longest < length taken
TextEnds taken old new (Err errors.NoMemory) = length taken ≤ longest

-- a text was read to its end, or it is reported why not
pub record ReadsText (old new : Supply) (result : Result (List ℕ) InputError) : Type 0 where
  pub taken : List ℕ
  pub reads : ℕ
  pub takes : Takes old new taken reads
  pub at_most : reads ≤ longest + 1
  pub ends : TextEnds taken old new result

-- the result of a call that reads a text, with the text as a list of bytes
abbrev pub text_read : Result (Vec ℕ Global) InputError → Result (List ℕ) InputError
text_read (Ok text) = Ok text.items
text_read (Err error) = Err error
