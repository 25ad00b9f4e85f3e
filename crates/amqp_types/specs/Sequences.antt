-- One thing after another.
use Rattle.std.specs.Prelude.{◌≡◌, ℕ, ◌+◌, List, ◌++◌, drop}
use Rattle.amqp_types.specs.Judging.{Judge, took, ◌>>=◌}

-- what is made of what was read
abbrev pub judge_map : {A B : Type 0} → (A → B) → Judge A → Judge B
judge_map make judge bytes = judge bytes >>= λ x. took (make x.0) x.1

-- The bytes are those of a thing, and y is what is made of it.
pub record SpellsMapped {A B : Type 0} (Spells : List ℕ → A → Type 0)
    (make : A → B) (bytes : List ℕ) (y : B) : Type 0 where
  pub thing : A
  pub spelled : Spells bytes thing
  pub made : y ≡ make thing

-- two things, one after the other, and what they are joined to
abbrev pub judge_both : {A B C : Type 0} → Judge A → Judge B → (A → B → C) → Judge C
judge_both first second join bytes = do
  x ← first bytes
  y ← second (drop x.1 bytes)
  took (join x.0 y.0) (x.1 + y.1)

-- The bytes are those of two things, one after the other, and z is what they are joined to.
pub record SpellsBoth {A B C : Type 0} (First : List ℕ → A → Type 0)
    (Second : List ℕ → B → Type 0) (join : A → B → C) (bytes : List ℕ) (z : C) : Type 0 where
  pub front : List ℕ
  pub behind : List ℕ
  pub one : A
  pub two : B
  pub bytes_are : bytes ≡ front ++ behind
  pub first_is : First front one
  pub second_is : Second behind two
  pub joined : z ≡ join one two
