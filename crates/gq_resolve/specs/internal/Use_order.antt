-- An order of use: a level for each leaf, above those of all leaves that it uses.
use Rattle.std.specs.Prelude.{◌<◌, ℕ, List, [], get_or, length}

-- these leaves stand below a level
abbrev pub AreBelow : List ℕ → ℕ → List ℕ → Type 0
AreBelow levels level servers = (k : ℕ) → k < length servers → get_or levels (get_or servers k 0) 0 < level

-- each leaf stands above those that it uses
abbrev pub IsOrder : List (List ℕ) → List ℕ → Type 0
IsOrder used levels = (x : ℕ) → x < length used → AreBelow levels (get_or levels x 0) (get_or used x [])
