-- What the lines of steps are made from.
use Rattle.std.specs.Prelude.{◌≡◌, ℕ, ◌<◌, ◌^◌, if◌then◌else◌, List, [], Some, None, length, slice_get}
use Rattle.gq_model.specs.declared.section.Section.{Section}
use Rattle.gq_model.specs.machine.Routes.{server_of}
use Rattle.gq_model.specs.machine.Scenario.{Component, Scenario, System, components, system}
use Rattle.gq_model.specs.rules.Accept.{Budget, budgets}
use Rattle.gq_model.specs.rules.Use.{Cause, The_start, A_signal, is_there}
use Rattle.gq_resolve.specs.Served.{AreServers}
use Rattle.gq_budget.specs.Leaf_section_counts.{AreCountsOf, Counted}
use Rattle.gq_budget.specs.Leaf_routes.{leaves_of}
use Rattle.gq_budget.specs.Times.{times_table}
use Rattle.gq_load.specs.Unsized_judgement.{unsized_fault}
use Rattle.gq_why.specs.Why.{asker_lines}

-- these are the leaves of a scenario without a fault but for quantities, what is counted of each, who serves whom, and the budgets
pub record AreCounts (s : Scenario) (cs : List Component) (ns : List Counted) (routes : List (List (List ℕ × ℕ))) (bs : List Budget) : Type 0 where
  pub leaves : cs ≡ components s
  pub few : length cs < 2 ^ 32
  pub counted : AreCountsOf ns (leaves_of (system s))
  pub servers : AreServers s routes
  pub budgets : bs ≡ budgets s
  pub faultless : unsized_fault s ≡ None

-- how often each section of each leaf runs for one cause
pub record Runs : Type 0 where
  pub cause : Cause
  pub table : List (List ℕ)

-- the start, or a signal that one of these leaves has
abbrev pub IsCauseOf : List Component → Cause → Type 0
IsCauseOf cs The_start = Unit {0}
IsCauseOf cs (A_signal y i) = (d : Component) × (slice_get cs y ≡ Some d) × (i < d.node.signals)

pub record AreRunsOf (s : Scenario) (r : Runs) : Type 0 where
  pub there : IsCauseOf (components s) r.cause
  pub table : r.table ≡ times_table r.cause (system s)

-- the lines of those that ask in the y-th leaf, where its route leads to the x-th
abbrev pub user_lines : Cause → System → ℕ → List ℕ → Section → ℕ → Component → List ℕ
user_lines cause all x service section y c =
    if is_there x (server_of all c service) then asker_lines cause all y c service section c.node.program.sections else []
