-- What is reported of writing is what was made.
use Rattle.std.proofs.Common.{◌≡◌, ℕ, List, take, Some, None, Result, Ok, Err, arith}
use Rattle.std.specs.Prelude.{IfOk}
use Rattle.std.proofs.lemmas.Bool.Decides.{nat_tests}
use Rattle.amqp_fields_write.specs.declared.refusals.WriteError.{WriteError}
use Rattle.amqp_fields_write.specs.declared.refusals.WriteError.TheVariants as failures
use Rattle.amqp_fields_write.specs.Canonical.{AreCanonicalInOrder}
use Rattle.amqp_fields_write.specs.Making.{EncodesEntries, EncodesFrames, EncodesUnless, EncodesValues, RefusesFirst, Writes}
use Rattle.amqp_fields_write.specs.Meant.{TellFrames}
use Rattle.amqp_types.specs.Levels.{plain}
use Rattle.amqp_wire.specs.Frames.{Frame}
use Rattle.amqp_wire.specs.Spelling.{SpellsFrames}
use Rattle.amqp_fields.specs.declared.head.Head.{Head}
use Rattle.amqp_fields.specs.declared.node.Node.{Node}
use Rattle.amqp_c.specs.declared.writing.Written.{Written}
use Rattle.amqp_c.specs.Making.{Reports, ReportsMeant, all_written, refused_at, report_of}
use Rattle.amqp_c.specs.Statuses.{bad_argument}

-- What is reported of writing is the bytes that were made, or the error, with the buffer as it was.
pub made_reported : (made : Result (List ℕ) WriteError) (old new : List ℕ) (written : Result ℕ WriteError) (report : Written)
    → Writes made old new written → report ≡ report_of written → Reports made old new report
made_reported made old new (Ok count) report h is = rw h.made_is (record {
  fits = λ room. (h.written_is, cc (is, h.count_is));
  too_short = λ short. absurd (omega (arith, short, h.within, h.count_is));
})
made_reported made old new (Err (failures.Refused head place why)) report h is = rw h.0 (h.1, is)
made_reported made old new (Err (failures.TooSmall needed)) report h is = rw h.made_is (record {
  fits = λ room. absurd (grind (arith, nat_tests, room, h.more, h.needed_is));
  too_short = λ short. (h.unchanged, cc (is, h.needed_is));
})

-- what is said of bytes that are written holds where all is reported as written
abbrev SaysOfWritten : (ℕ → Type 0) → Result ℕ WriteError → Written → Type 0
SaysOfWritten Means written report = IfOk written Means → report ≡ report_of written → (count : ℕ) → report ≡ all_written count → Means count

written_means : (Means : ℕ → Type 0) (written : Result ℕ WriteError) (report : Written) → SaysOfWritten Means written report
written_means Means written report h is count all = grind arith

module _ (pool : List ℕ) (nodes : List Node) where
  -- what is reported as written encodes the frames that are meant
  pub frames_encoded : (heads : List Head) (m : ℕ) (old new : List ℕ) (written : Result ℕ WriteError) (report : Written)
      → SaysOfWritten (EncodesFrames pool nodes heads m old new) written report
  frames_encoded heads m old new = written_means (EncodesFrames pool nodes heads m old new)

  -- and is canonical, where keys ascend and content in the pool is canonical
  pub frames_canonical : (heads : List Head) (new : List ℕ) (written : Result ℕ WriteError) (report : Written)
      → SaysOfWritten (λ count. AreCanonicalInOrder pool nodes heads (take count new)) written report
  frames_canonical heads new = written_means (λ n. AreCanonicalInOrder pool nodes heads (take n new))

  -- where frames are meant, nothing is refused but what is too long, and that is reported
  pub meant_reported : (m : ℕ) (heads : List Head) (new : List ℕ) (written : Result ℕ WriteError) (report : Written)
      → ((frames : List Frame) → TellFrames pool nodes heads frames
      → EncodesUnless (RefusesFirst plain pool nodes m 0 heads frames) (SpellsFrames plain (Some m)) frames new written)
      → report ≡ report_of written
      → (frames : List Frame) → TellFrames pool nodes heads frames → ReportsMeant pool nodes m heads frames new report
  meant_reported m heads new written report h is frames meant = grind arith

  -- what is reported as written encodes the entries that are meant
  pub entries_encoded : (old new : List ℕ) (written : Result ℕ WriteError) (report : Written)
      → SaysOfWritten (EncodesEntries pool nodes old new) written report
  entries_encoded old new = written_means (EncodesEntries pool nodes old new)

  -- the same of values
  pub values_encoded : (old new : List ℕ) (written : Result ℕ WriteError) (report : Written)
      → SaysOfWritten (EncodesValues pool nodes old new) written report
  values_encoded old new = written_means (EncodesValues pool nodes old new)

-- a kind that is neither a table's nor an array's is not reported as written
pub no_content : (report : Written) (count : ℕ) → report ≡ refused_at 0 None bad_argument → report ≡ all_written count → ⊥
no_content report count is all = grind arith
