use Rattle.std.proofs.Common.{◌≡◌, ℕ, Some, length}
use Rattle.std.specs.Prelude.{slice_get}
use Rattle.gq_model.specs.machine.Routes.{server_of}
use Rattle.gq_model.specs.machine.Scenario.{Component, components, system}
use Rattle.gq_outcomes.specs.internal.Asks.{AreOfSections}
use Rattle.gq_outcomes.proofs.choices.all_asks.Given as goal

-- the tables so far
abbrev pub invariant-loop-number : goal.invariant-loop-number
invariant-loop-number l = record {
  count : length l.all.items ≡ l.number;
  each : (x : ℕ) (c : Component) (asks : _) → slice_get (components l.table) x ≡ Some c → slice_get l.all.items x ≡ Some asks
      → AreOfSections (server_of (system l.table) c) c.node.program.sections asks.items;
}
