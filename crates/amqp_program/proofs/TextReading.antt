-- A text is read on.
use Rattle.std.proofs.Common.{◌≡◌, ℕ, ◌+◌, ◌<◌, ◌≤◌, List, [], ◌++◌, length, Result, Ok, Err, sym, ap, arith, append-nil}
use Rattle.std.proofs.lemmas.List.{length-append}
use Rattle.amqp_stream.specs.Ends.{Supply, Takes, Rises, IsEmpty}
use Rattle.amqp_stream.proofs.Adding.{Takes-then, Rises-later}
use Rattle.amqp_program.specs.declared.text.InputError.{InputError}
use Rattle.amqp_program.specs.declared.text.InputError.TheVariants as errors
use Rattle.amqp_program.specs.Texts.{longest, ReadsText, TextEnds}

-- what was read so far: each read took a byte at least
pub record ReadSoFar (a b : Supply) (text : List ℕ) : Type 0 where
  pub reads : ℕ
  pub takes : Takes a b text reads
  pub few : reads ≤ length text
  pub fits : length text ≤ longest

module _ {a b c : Supply} {text piece : List ℕ} (s : ReadSoFar a b text) (t : Takes b c piece 1) where
  reads_by : {result : Result (List ℕ) InputError} → TextEnds (text ++ piece) a c result → ReadsText a c result
  reads_by ends = record {
    taken = text ++ piece;
    reads = s.reads + 1;
    takes = Takes-then a b c text piece s.reads 1 s.takes t;
    at_most = omega (arith, s.few, s.fits);
    ends = ends;
  }

  -- a read failed after so many bytes
  pub reads_fault : (after : ℕ) → piece ≡ [] → after ≡ length text → Rises b.faults c.faults → ReadsText a c (Err (errors.ReadFault after))
  reads_fault after none e r =
      let same = length-append text piece in
      reads_by
      (omega (arith, e, same, ap length none), omega (arith, s.fits, same, ap length none), Rises-later a.faults b.faults c.faults s.takes.faults t.faults r)

  -- the text ended
  pub reads_end : piece ≡ [] → IsEmpty c.left → ReadsText a c (Ok text)
  reads_end none e =
      let same : text ++ piece ≡ text = rw (none, append-nil) in
      reads_by (sym same, omega (arith, ap length same, s.fits), e)

  -- the text is too long
  pub reads_long : longest < length text + length piece → ReadsText a c (Err errors.TooLong)
  reads_long h = grind (arith, reads_by, length-append)

  -- memory ran out as the text was kept
  pub reads_no_memory : length text + length piece ≤ longest → ReadsText a c (Err errors.NoMemory)
  reads_no_memory h = grind (arith, reads_by, length-append)

  -- a further piece of the text was read
  pub reads_on : (now : List ℕ) → now ≡ text ++ piece → 0 < length piece → length text + length piece ≤ longest → ReadSoFar a c now
  reads_on now e some h = rw e (record {
    reads = s.reads + 1;
    takes = Takes-then a b c text piece s.reads 1 s.takes t;
    few = omega (arith, length-append text piece, s.few);
    fits = omega (arith, length-append text piece);
  })
