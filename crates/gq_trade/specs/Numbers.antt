-- Values by their numbers.
use Rattle.std.specs.Prelude.{ℕ, suc, List, [], ◌∷◌, Option, Some, None, get_or, is_some, IsTrue}

pub record Numbers (A : Type 0) : Type 0 where
  -- the value of each number, or None where it is free
  pub values : List (Option A)
  -- how many there can be at a time
  pub room : ℕ

-- puts a value at the lowest free number
abbrev pub added : {A : Type 0} → A → List (Option A) → List (Option A)
added a [] = Some a ∷ []
added a (None ∷ rest) = Some a ∷ rest
added a (Some b ∷ rest) = Some b ∷ added a rest

-- the lowest free number
abbrev pub free_number : {A : Type 0} → List (Option A) → ℕ
free_number [] = 0
free_number (None ∷ rest) = 0
free_number (Some b ∷ rest) = suc (free_number rest)

-- there is a value of that number
abbrev pub IsTaken : {A : Type 0} → List (Option A) → ℕ → Type 0
IsTaken values k = IsTrue (is_some (get_or values k None))
