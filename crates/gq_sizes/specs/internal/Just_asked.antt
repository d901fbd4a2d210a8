-- Whether interfaces ask up to each level just what sessions need, level by level.
use Rattle.std.specs.Prelude.{ℕ, suc, ◌+◌, ◌==◌, ◌&&◌, Bool, List, [], ◌∷◌}
use Rattle.gq_model.specs.machine.Amounts.{Ram, Amount}
use Rattle.gq_model.specs.machine.Scenario.{Interface, System}
use Rattle.gq_sizes.specs.Size.{needed}

-- so many bytes are asked up to level l, with these upgrades above it: up to each level just the number of that level
abbrev pub asks_above : (ℕ → ℕ) → ℕ → ℕ → List Amount → Bool
asks_above needs l asked [] = asked == needs l
asks_above needs l asked (a ∷ rest) = asked == needs l && asks_above needs (suc l) (asked + a.ram) rest

-- an interface asks just the numbers of its levels
abbrev pub asks_by : (ℕ → ℕ) → Interface → Bool
asks_by needs i = asks_above needs 0 i.need.ram i.upgrades

-- an interface asks just the bytes that sessions of its service need
abbrev pub asks_just : System → List ℕ × Interface → Bool
asks_just all e = asks_by (needed (λ _ _. 0) Ram all e.0 e.1) e.1
