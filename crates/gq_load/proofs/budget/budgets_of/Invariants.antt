use Rattle.std.proofs.Common.{◌≡◌, ◌++◌, drop}
use Rattle.gq_scenario.specs.Component_trees.{version_number}
use Rattle.gq_load.specs.internal.Saturated_budgets.{budgets_with}
use Rattle.gq_load.proofs.budget.budgets_of.Given as goal

-- the budgets so far, with those that are left, are all
abbrev pub invariant-loop-own : goal.invariant-loop-own
invariant-loop-own l =
    record {
      made : l.budgets.items ++ budgets_with (version_number l.version) (drop l.own-index l.owns) (drop l.own-index l.fn.steps.items)
          ≡ budgets_with (version_number l.version) l.owns l.fn.steps.items;
      left : l.left.items ≡ drop l.own-index l.fn.steps.items;
    }
