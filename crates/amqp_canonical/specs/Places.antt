-- Things with a key and a place, of which those with one key stand in the order of their places.
use Rattle.std.specs.Prelude.{◌≡◌, ◌<◌, ℕ, List, [], ◌∷◌, ⊤}
use Rattle.std.specs.List.{AllByRecursion}

-- where both have one key, the first one has the lower place
abbrev pub Precedes : {A : Type 0} → (A → List ℕ) → (A → ℕ) → A → A → Type 0
Precedes key place x y = key x ≡ key y → place x < place y

-- each precedes all after it
abbrev pub ArePlaced : {A : Type 0} → (A → List ℕ) → (A → ℕ) → List A → Type 0
ArePlaced key place [] = ⊤
ArePlaced key place (x ∷ xs) = AllByRecursion (Precedes key place x) xs × ArePlaced key place xs
