-- From the clauses of one run follow those of another.
use Rattle.amqp_stream.proofs
use proofs.Names.{arith, ◌≡◌, ℕ, List, Result, Err, Frame, canon_frames, StreamError, Change, Supply, Store, Call, Manner, as_run, WriterRun}
use Rattle.amqp_stream.specs.Runs.{Claims, Runs, TextRun, CanonicalRun}
use proofs.Transcribing.{Transcriber, canonicalizes, transcribes, transcribes_exactly, is_done, welcome}
use proofs.Names.errors
use proofs.Names.ends

-- each clause by its own
pub run_by : {S K : Type 0} {supply : S → Supply} {store : K → Store} {call : Call S K} {claims other : Claims}
    → (claims.Goes → other.Goes) → (claims.IsSpent → other.IsSpent) → ((bytes : List ℕ) → claims.Exactly bytes → other.Exactly bytes)
    → ((bytes : List ℕ) → other.Accepts bytes → claims.Accepts bytes) → (claims.Goes → claims.IsDone → other.IsDone)
    → Runs supply store call claims → Runs supply store call other
run_by goes spent exact accepts done run = search (run.spent, run.exact, run.complete)

-- the error of a run in which nothing is refused
pub stream_error : {E : Type 0} (r : Result (Unit {0}) StreamError) (error : StreamError) → as_run {E = E} r ≡ Err (ends.Stream error) → r ≡ Err error
stream_error r error e = grind arith

-- a writer that has a text for frames and refuses none
pub text_run : {T E S K : Type 0} {w : Manner T E} {writer : Change T} {f : List Frame → List ℕ} {supply : S → Supply}
    {store : K → Store} {call : Call S K} {r : Result (Unit {0}) StreamError}
    → Transcriber w writer.old f → WriterRun w writer supply store call (as_run r) → TextRun f w.level supply store call r
text_run {E = E} {f = f} {call = call} {r = r} is run =
    run_by (λ goes. transcribes is r goes.run) (stream_error r errors.TurnsSpent) (λ bytes. transcribes_exactly is r)
    (λ bytes valid. (valid, welcome is call.limit bytes)) (λ goes. is_done E f r (transcribes is r goes.run)) run

-- a writer of canonical bytes
pub canonical_run : {T E S K : Type 0} {w : Manner T E} {writer : Change T} {supply : S → Supply} {store : K → Store}
    {call : Call S K} {r : Result (Unit {0}) StreamError}
    → Transcriber w writer.old canon_frames → WriterRun w writer supply store call (as_run r) → CanonicalRun w.level supply store call r
canonical_run is run = run_by canonicalizes (λ e. e) (λ bytes e. e) (λ bytes e. e) (λ goes e. e) (text_run is run)
