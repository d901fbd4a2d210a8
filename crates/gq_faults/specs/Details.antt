-- The details of a fault: lines, each indented by two blanks.
use Rattle.std.specs.Prelude.{◌≡◌, ◌≢◌, ℕ, List, [], ◌∷◌, ◌++◌}

-- a text without a line feed
abbrev pub IsSingle : List ℕ → Type 0
IsSingle [] = Unit {0}
IsSingle (c ∷ rest) = (c ≢ 10) × IsSingle rest

abbrev pub AreSingle : List (List ℕ) → Type 0
AreSingle [] = Unit {0}
AreSingle (words ∷ rest) = IsSingle words × AreSingle rest

-- each on a line of its own, indented by two blanks
abbrev pub indented : List (List ℕ) → List ℕ
indented [] = []
indented (words ∷ rest) = (32 ∷ 32 ∷ words ++ 10 ∷ []) ++ indented rest

-- details are such lines
pub record AreDetails (text : List ℕ) : Type 0 where
  pub details : List (List ℕ)
  pub single : AreSingle details
  pub is : text ≡ indented details
