-- What all leaves hold.
use Rattle.std.specs.Prelude.{ℕ, suc, ◌+◌, List, [], ◌∷◌}
use Rattle.gq_model.specs.machine.Amounts.{Resource}
use Rattle.gq_model.specs.machine.World.{Leaf, World}
use Rattle.gq_model.specs.machine.Sums.{held}

-- what these leaves hold, of which the first is the x-th
abbrev pub held_from : Resource → World → ℕ → List Leaf → ℕ
held_from r w x [] = 0
held_from r w x (leaf ∷ rest) = held r w x leaf + held_from r w (suc x) rest

-- what all leaves of a world hold
abbrev pub held_by_all : Resource → World → ℕ
held_by_all r w = held_from r w 0 w.leaves
