-- Inits that have handed out no more than they have.
use Rattle.std.specs.Prelude.{ℕ, suc, ◌+◌, ◌≤◌}
use Rattle.gq_model.specs.machine.Amounts.{Resource, part}
use Rattle.gq_model.specs.machine.Scenario.{Nodes, End, Leaf_node, Init_node, Scenario}
use Rattle.gq_model.specs.machine.World.{World}
use Rattle.gq_model.specs.machine.Accounts.{leaf_count, spent}

-- each init among these nodes has handed out no more than it has
abbrev pub AllFit : Resource → World → ℕ → Nodes → Type 0
AllFit r w x End = Unit {0}
AllFit r w x (Leaf_node node rest) = AllFit r w (suc x) rest
AllFit r w x (Init_node node children rest) = (spent r w x children ≤ part r node.quantum) × AllFit r w x children × AllFit r w (x + leaf_count children) rest

-- and so has the root
abbrev pub Fit : Resource → Scenario → World → Type 0
Fit r s w = (spent r w 0 s.nodes ≤ part r s.total) × AllFit r w 0 s.nodes
