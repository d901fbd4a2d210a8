-- What a table of nodes keeps.
use Rattle.std.specs.Prelude.{◌≡◌, ◌≤◌, List, length, map}
use Rattle.gq_model.specs.machine.Program.{Program}
use Rattle.gq_model.specs.machine.Scenario.{Scenario, components}
use Rattle.gq_resolve.specs.NodeTables.{Rows, all_rows}

-- these are the programs of a scenario's leaves, of which there are at most 64, its nodes and its leaves
pub record IsTableOf (s : Scenario) (programs : List Program) (rows : Rows) : Type 0 where
  pub programs_are : programs ≡ map (λ c. c.node.program) (components s)
  pub rows_are : rows ≡ all_rows s
  pub few : length (components s) ≤ 64
