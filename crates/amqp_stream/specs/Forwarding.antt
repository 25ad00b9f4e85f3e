-- What a forwarder does in a call: a run with a read budget of one, over the bytes that it holds
-- and those that its source has left.
use Rattle.std.specs.Prelude.{◌≡◌, ℕ, ◌≤◌, List, [], ◌∷◌, ◌++◌, length}
use Rattle.std.specs.Prelude.{Option, Some, None, Result, Ok, Err}
use Rattle.std.specs.List.{concat}
use Rattle.amqp_types.specs.Levels.{Level}
use Rattle.amqp_wire.specs.Fronts.{place}
use Rattle.amqp_stream.specs.declared.errors.StreamError.{StreamError}
use Rattle.amqp_stream.specs.declared.errors.StreamError.TheVariants as errors
use Rattle.amqp_stream.specs.declared.errors.RunError.{RunError}
use Rattle.amqp_stream.specs.declared.errors.RunError.TheVariants as ends
use Rattle.amqp_stream.specs.declared.forwarder.Forwarded.{Forwarded}
use Rattle.amqp_stream.specs.declared.forwarder.Forwarded.TheVariants as results
use Rattle.amqp_stream.specs.Errors.{Cause, budget_spent, write_failed, cause_of}
use Rattle.amqp_stream.specs.Changes.{Change, ◌⇒◌}
use Rattle.amqp_stream.specs.Ends.{Supply, Store, Takes, counted}
use Rattle.amqp_stream.specs.Calls.{call_of}
use Rattle.amqp_stream.specs.Canonicalizing.{Canonicalizes, canon_of}
use Rattle.amqp_stream.specs.Steps.{Manner}
use Rattle.amqp_stream.specs.Streaming.{Ending, finished, stopped_by, error_ending}
use Rattle.amqp_stream.specs.Resuming.{with_ahead, Resumes}

-- A forwarder: the limit on payloads, the bytes that it holds, how many came, and the error that it
-- returns from now on.
pub record Forwarding : Type 0 where
  pub limit : ℕ
  pub held : List ℕ
  pub came : ℕ
  pub fault : Option StreamError

-- A call after which more may come ends as a run whose read budget is spent.
abbrev pub forward_ending : {E : Type 0} → Result Forwarded (RunError E) → Ending E
forward_ending (Ok results.More) = stopped_by budget_spent
forward_ending (Ok results.Ended) = finished
forward_ending (Err error) = error_ending error

-- an error that is returned from then on; the others leave what is held to the next call
abbrev pub lasting : StreamError → Option StreamError
lasting errors.CutShort = None
lasting errors.TurnsSpent = None
lasting errors.ReadFault = None
lasting error = Some error

-- the error is returned from then on
abbrev pub Lasts : StreamError → Type 0
Lasts error = lasting error ≡ Some error

abbrev pub fault_after : {E : Type 0} → Result Forwarded (RunError E) → Option StreamError
fault_after (Ok forwarded) = None
fault_after (Err (ends.Stream error)) = lasting error
fault_after (Err (ends.Refused why)) = None

-- a call, by any writer
pub record ForwardsBy {S E : Type 0} (w : Manner S E) (writer : Change S)
    (forwarder : Change Forwarding) (source : Change Supply) (sink : Change Store)
    (result : Result Forwarded (RunError E)) : Type 0 where
  pub run : Resumes w writer (call_of forwarder.old.limit 1 source sink)
      (forwarder.old.held ⇒ forwarder.new.held)
      (forwarder.old.came ⇒ forwarder.new.came) (forward_ending result)
  pub limit : forwarder.new.limit ≡ forwarder.old.limit
  pub fault : forwarder.new.fault ≡ fault_after result

-- ---- canonical bytes

-- the result of a call, as one of a run with a read budget of one
abbrev pub forward_result : Result Forwarded StreamError → Result (Unit {0}) StreamError
forward_result (Ok results.More) = Err errors.TurnsSpent
forward_result (Ok results.Ended) = Ok tt
forward_result (Err error) = Err error

-- the result of a call that writes canonical bytes, as one of any writer
abbrev pub as_forward : {E : Type 0} → Result Forwarded StreamError → Result Forwarded (RunError E)
as_forward (Ok forwarded) = Ok forwarded
as_forward (Err error) = Err (ends.Stream error)

abbrev pub lasting_after : Result Forwarded StreamError → Option StreamError
lasting_after (Ok forwarded) = None
lasting_after (Err error) = lasting error

-- what is held after a call that ended early: what follows the frames at the front; only after a
-- failed write it is not known
abbrev pub HeldUnless : Level → ℕ → List ℕ → List ℕ → Cause → Type 0
HeldUnless level m bytes held write_failed = Unit {0}
HeldUnless level m bytes held cause = held ≡ place level (Some m) bytes

-- what is held after a call: what follows the frames at the front
abbrev pub HeldAfter : Level → ℕ → List ℕ → List ℕ → Result (Unit {0}) StreamError → Type 0
HeldAfter level m bytes held (Ok done) = held ≡ place level (Some m) bytes
HeldAfter level m bytes held (Err error) = HeldUnless level m bytes held (cause_of error)

-- A call that writes the canonical bytes of the frames held and read. What is said of a run holds
-- of it: nothing is pending after it.
pub record Forwards (level : Level) (forwarder : Change Forwarding) (source : Change Supply)
    (sink : Change Store) (result : Result Forwarded StreamError) : Type 0 where
  pub call : Canonicalizes level
      (with_ahead forwarder.old.held (call_of forwarder.old.limit 1 source sink))
      (forward_result result)
  pub piece : List ℕ
  pub parts : call.run.taken ≡ forwarder.old.held ++ piece
  pub takes : Takes source.old source.new piece call.run.reads
  pub counts : Some forwarder.new.came ≡ counted (length piece) (Some forwarder.old.came)
  pub some : result ≡ Ok results.More → 1 ≤ length piece
  pub held : HeldAfter level forwarder.old.limit
      call.run.taken forwarder.new.held (forward_result result)
  pub limit : forwarder.new.limit ≡ forwarder.old.limit
  pub fault : forwarder.new.fault ≡ lasting_after result

-- ---- calls one after another

-- what was written, and what is held
pub record Fed : Type 0 where
  pub text : List ℕ
  pub held : List ℕ

-- What calls write one after another, each of which has one of the pieces, and what is held
-- after them. By `Forwards` a call writes the canonical bytes of what was held and came, and
-- holds the rest.
abbrev pub fed_after : Level → ℕ → Fed → List (List ℕ) → Fed
fed_after level m done [] = done
fed_after level m done (piece ∷ pieces) =
    fed_after level m
    (record {
      text = done.text ++ canon_of level m (done.held ++ piece);
      held = place level (Some m) (done.held ++ piece);
    })
    pieces

-- Fed in pieces, whatever they are, bytes give what they give at once.
abbrev pub PiecesAreWhole : Type 0
PiecesAreWhole =
    (level : Level) (m : ℕ) (pieces : List (List ℕ))
    → fed_after level m (record { text = []; held = [] }) pieces
    ≡ record {
      text = canon_of level m (concat pieces);
      held = place level (Some m) (concat pieces);
    }
