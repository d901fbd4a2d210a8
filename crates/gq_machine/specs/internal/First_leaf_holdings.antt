-- What the first leaves hold.
use Rattle.std.specs.Prelude.{ℕ, zero, suc, ◌+◌, List, [], ◌∷◌}
use Rattle.gq_model.specs.machine.Amounts.{Resource}
use Rattle.gq_model.specs.machine.Sums.{held}
use Rattle.gq_model.specs.machine.World.{Leaf, World}

-- what the first n of these leaves hold, of which the first is the x-th
abbrev pub held_before : Resource → World → ℕ → ℕ → List Leaf → ℕ
held_before r w x zero leaves = 0
held_before r w x (suc n) [] = 0
held_before r w x (suc n) (leaf ∷ rest) = held r w x leaf + held_before r w (suc x) n rest
