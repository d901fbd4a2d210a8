-- Leaves by their names.
use Rattle.std.specs.Prelude.{ℕ, if◌then◌else◌, List, [], ◌∷◌, Option, Some, None}
use Rattle.gq_model.specs.machine.Program.{text_eq}
use Rattle.gq_model.specs.machine.Scenario.{LeafNode, Component}

-- the first leaf of that name
abbrev pub leaf_named : List ℕ → List Component → Option LeafNode
leaf_named name [] = None
leaf_named name (c ∷ rest) = if text_eq name c.node.name then Some c.node else leaf_named name rest
