-- The frames at the front of some bytes, and what follows them.
use Rattle.std.specs.Prelude.{◌≡◌, ◌≢◌, ℕ, zero, suc, List, [], ◌∷◌, ◌++◌, length, drop, Option}
use Rattle.amqp_types.specs.Levels.{Level}
use Rattle.amqp_types.specs.Judging.{Judged, past, fault, took}
use Rattle.amqp_wire.specs.Frames.{Frame}
use Rattle.amqp_wire.specs.Verdicts.{judge_frame}

-- one cut: the frame that a verdict is, and then what `next` cuts from the rest
abbrev pub cut_at : Judged Frame → List ℕ → (List ℕ → List Frame × List ℕ) → List Frame × List ℕ
cut_at past bytes next = ([], bytes)
cut_at (fault bad) bytes next = ([], bytes)
cut_at (took frame used) bytes next =
    (frame ∷ (next (drop used bytes)).0, (next (drop used bytes)).1)

-- the frames that are cut from the front, so many at most, and what is left
unfoldable pub cut : Level → Option ℕ → ℕ → List ℕ → List Frame × List ℕ
cut level m zero bytes = ([], bytes)
cut level m (suc n) bytes = cut_at (judge_frame level m bytes) bytes (cut level m n)

-- The frames at the front. Each frame has a byte at least, so as many cuts as there are
-- bytes are enough.
unfoldable pub front : Level → Option ℕ → List ℕ → List Frame
front level m bytes = (cut level m (length bytes) bytes).0

-- the place: what follows the frames at the front
unfoldable pub place : Level → Option ℕ → List ℕ → List ℕ
place level m bytes = (cut level m (length bytes) bytes).1

-- some bytes are there, and they end inside a frame
abbrev pub IsUndecided : Level → Option ℕ → List ℕ → Type 0
IsUndecided level m bytes = (bytes ≢ []) × (judge_frame level m bytes ≡ past)

-- Whatever follows, the bytes are these frames, and then come those at the front of the rest.
pub record ComesBefore (level : Level) (m : Option ℕ)
    (bytes : List ℕ) (frames : List Frame) : Type 0 where
  pub sequence : (rest : List ℕ) → front level m (bytes ++ rest) ≡ frames ++ front level m rest
  pub after : (rest : List ℕ) → place level m (bytes ++ rest) ≡ place level m rest
