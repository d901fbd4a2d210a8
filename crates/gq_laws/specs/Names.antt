-- What a reader of scenarios makes sure of.
use Rattle.std.specs.Prelude.{◌≡◌, ℕ, Some, slice_get}
use Rattle.gq_model.specs.machine.Scenario.{Scenario, Component, components}

-- no two leaves have the same name
abbrev pub NamesDiffer : Scenario → Type 0
NamesDiffer s = (x y : ℕ) (c d : Component) → slice_get (components s) x ≡ Some c → slice_get (components s) y ≡ Some d → c.node.name ≡ d.node.name → x ≡ y
