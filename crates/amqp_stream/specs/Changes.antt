-- One thing before a call and after it.
pub record Change (A : Type 0) : Type 0 where
  pub old : A
  pub new : A

-- `old ⇒ new`: it was the one before, and is the other after
infix 15 ◌⇒◌
abbrev pub ◌⇒◌ : {A : Type 0} → A → A → Change A
old ⇒ new = record { old = old; new = new }
