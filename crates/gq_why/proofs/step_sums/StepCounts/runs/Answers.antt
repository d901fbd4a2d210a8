use Rattle.std.proofs.Common.{◌∙◌, ap}
use Rattle.gq_model.specs.machine.Scenario.{Scenario, system}
use Rattle.gq_budget.specs.Causes.{cause_of}
use Rattle.gq_budget.specs.Times.{times_table}
use Rattle.gq_why.proofs.step_sums.StepCounts.runs.Goals as goal

pub returns-clause-runs : goal.returns-clause-runs
returns-clause-runs c = record {
  there = c.requires;
  table = c.in_ok-times.ensures ∙ ap (λ (s : Scenario). times_table (cause_of c.args.cause) (system s)) c.self.view_is;
}
