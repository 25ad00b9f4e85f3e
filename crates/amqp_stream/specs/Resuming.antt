-- A run that begins with bytes that are held already, and holds what follows the frames
-- that it wrote for.
use Rattle.std.specs.Prelude.{◌≡◌, ◌⊎◌, ℕ, ◌+◌, ◌≤◌, List, [], ◌++◌}
use Rattle.std.specs.Prelude.{length, None, Some, Err, IsTrue}
use Rattle.amqp_types.specs.Judging.{took}
use Rattle.amqp_wire.specs.Frames.{Frame}
use Rattle.amqp_wire.specs.Fronts.{place}
use Rattle.amqp_wire.specs.HeaderScan.{BeginsWith}
use Rattle.amqp_wire.specs.Verdicts.{judge_frame}
use Rattle.amqp_stream.specs.Errors.{budget_spent, write_failed, out_of_memory}
use Rattle.amqp_stream.specs.Changes.{Change, ◌⇒◌}
use Rattle.amqp_stream.specs.Ends.{Supply, Store, Takes, prepended, counted}
use Rattle.amqp_stream.specs.Calls.{Call, call_of}
use Rattle.amqp_stream.specs.Causes.{IsSequence}
use Rattle.amqp_stream.specs.Steps.{Manner}
use Rattle.amqp_stream.specs.Streaming.{Ending, refused_by, stopped_by, text_of}
use Rattle.amqp_stream.specs.Streaming.{refused_of, state_of, plan_of, HasState, Streams}

-- a source with these bytes in front of those that it has left
abbrev pub ahead : List ℕ → Supply → Supply
ahead held a = record { left = prepended held a.left; reads = a.reads; faults = a.faults }

-- a call over such a source
abbrev pub with_ahead : List ℕ → Call Supply Store → Call Supply Store
with_ahead held call = record call { source = ahead held call.source.old ⇒ call.source.new }

-- Of some bytes those in front are frames that were written for, from the writer's state s to t,
-- and the rest is held.
pub record Rests {S E : Type 0} (w : Manner S E) (s t : S)
    (m : ℕ) (bytes written held : List ℕ) : Type 0 where
  pub used : List ℕ
  pub parts : bytes ≡ used ++ held
  pub is_sequence : IsSequence w.level m used
  pub none_refused : refused_of w s m used ≡ None
  pub text_is : written ≡ text_of w s m used
  pub state_is : t ≡ state_of w s m used

-- The same, and none of the held bytes are a frame.
pub record RestsAt {S E : Type 0} (w : Manner S E) (s t : S)
    (m : ℕ) (bytes written held : List ℕ) : Type 0 where
  pub rests : Rests w s t m bytes written held
  pub place_is : held ≡ place w.level (Some m) bytes

-- The frame at the front of some bytes is refused in this state.
pub record IsRefusedThere {S E : Type 0} (w : Manner S E)
    (t : S) (m : ℕ) (bytes : List ℕ) (why : E) : Type 0 where
  pub frame : Frame
  pub used : ℕ
  pub found : judge_frame w.level (Some m) bytes ≡ took frame used
  pub refuses : w.step t frame ≡ Err why

-- The refused frame is held and what follows it; or all was written for, and the end of
-- input is refused.
pub record RestsRefused {S E : Type 0} (w : Manner S E) (s t : S)
    (m : ℕ) (bytes written held : List ℕ) (why : E) : Type 0 where
  pub rests : Rests w s t m bytes written held
  pub refused : IsRefusedThere w t m held why ⊎ ((held ≡ []) × (w.end t ≡ Some why))

-- Of some bytes those in front are frames of which none is refused, and the rest is held.
pub record RestsAfter {S E : Type 0} (w : Manner S E)
    (s : S) (m : ℕ) (bytes held : List ℕ) : Type 0 where
  pub used : List ℕ
  pub parts : bytes ≡ used ++ held
  pub is_sequence : IsSequence w.level m used
  pub none_refused : refused_of w s m used ≡ None

-- The same, and the held bytes begin with a frame at which memory may run out.
pub record RestsWanting {S E : Type 0} (w : Manner S E)
    (s : S) (m : ℕ) (bytes held : List ℕ) : Type 0 where
  pub rests : RestsAfter w s m bytes held
  pub wanting : BeginsWith (λ kind. IsTrue (w.wants kind)) (Some m) held

-- What is held after a run: what follows the frames that were written for, or after a failed write
-- those that were taken.
abbrev pub RestsBy : {S E : Type 0} → Manner S E → S → S
    → ℕ → List ℕ → List ℕ → List ℕ → Ending E → Type 0
RestsBy w s t m bytes written held (stopped_by write_failed) = RestsAfter w s m bytes held
RestsBy w s t m bytes written held (stopped_by out_of_memory) = RestsWanting w s m bytes held
RestsBy w s t m bytes written held (refused_by why) = RestsRefused w s t m bytes written held why
RestsBy w s t m bytes written held ending = RestsAt w s t m bytes written held

-- A run over a source with the held bytes in front. The count of bytes that came stays at
-- its last value.
pub record Resumes {S E : Type 0} (w : Manner S E) (writer : Change S) (call : Call Supply Store)
    (held : Change (List ℕ)) (came : Change ℕ) (ending : Ending E) : Type 0 where
  pub run : Streams (plan_of w writer.old call.limit) (with_ahead held.old call) ending
  pub state_is : HasState w writer call.limit run.taken ending
  pub piece : List ℕ
  pub parts : run.taken ≡ held.old ++ piece
  pub takes : Takes call.source.old call.source.new piece run.reads
  pub counts : Some came.new ≡ counted (length piece) (Some came.old)
  pub some : ending ≡ stopped_by budget_spent → call.budget ≤ length piece
  pub rests : RestsBy w writer.old writer.new call.limit run.taken run.written held.new ending

-- Two runs one after another are one run, with both read budgets, where the first has spent its
-- own. So are any number of them.
abbrev pub RunsAddUp : {S E : Type 0} → Manner S E → Type 0
RunsAddUp {S = S} {E = E} w =
    (s t u : S) (m budget more : ℕ) (h0 h1 h2 : List ℕ)
    (c0 c1 c2 : ℕ) (a b c : Supply) (k l n : Store) (e : Ending E)
    → Resumes w (s ⇒ t) (call_of m budget (a ⇒ b) (k ⇒ l))
    (h0 ⇒ h1) (c0 ⇒ c1) (stopped_by budget_spent)
    → Resumes w (t ⇒ u) (call_of m more (b ⇒ c) (l ⇒ n)) (h1 ⇒ h2) (c1 ⇒ c2) e
    → Resumes w (s ⇒ u) (call_of m (budget + more) (a ⇒ c) (k ⇒ n)) (h0 ⇒ h2) (c0 ⇒ c2) e
