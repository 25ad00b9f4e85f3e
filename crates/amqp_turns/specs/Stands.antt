-- What is kept of a channel after some frames.
use Rattle.std.specs.Prelude.{◌≡◌, ◌≢◌, ℕ, ◌≤◌, List, [], ◌∷◌, Option, IsSome}
use Rattle.std.specs.Map.{lookup}
use Rattle.std.specs.Ordering.{nat_cmp}
use Rattle.std.specs.BTreeMap.{is_at}
use Rattle.amqp_wire.specs.declared.outline.FrameOutline.{FrameOutline}
use Rattle.amqp_turns.specs.Units.{Begun, Reading}

-- what has begun, or that a fault has come
pub data State (X : Type 0) : Type 0 where
  At : (begun : Begun X) → State X
  Lost : State X

-- frames that come after what has begun are a fault
abbrev pub state_after : {X : Type 0} → Begun X → List X → State X
state_after begun [] = At begun
state_after begun (x ∷ xs) = Lost

-- the state that stands for frames of one channel: the begun unit at the end of their longest
-- prefix in turn, or a fault where more follows it
pub record Stands {X : Type 0} (outline : X → FrameOutline)
    (max : ℕ) (xs : List X) (state : State X) : Type 0 where
  pub reading : Reading outline max xs
  pub is : state ≡ state_after reading.begun reading.rest

-- what is kept of a channel, by entries of channels and what is kept of them
abbrev pub kept_at : {K : Type 0} → List (ℕ × K) → ℕ → Option K
kept_at entries channel = lookup (is_at (nat_cmp channel)) entries

-- of all channels but one is kept what was
abbrev pub OthersStay : {K : Type 0} → ℕ → List (ℕ × K) → List (ℕ × K) → Type 0
OthersStay channel before after =
    (other : ℕ) → other ≢ channel → kept_at after other ≡ kept_at before other

-- something is kept of no channel below this one
abbrev pub NoneIsBelow : {K : Type 0} → List (ℕ × K) → ℕ → Type 0
NoneIsBelow entries channel = (other : ℕ) → IsSome (kept_at entries other) → channel ≤ other
