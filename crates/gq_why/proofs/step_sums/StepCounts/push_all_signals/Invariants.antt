use Rattle.std.proofs.Common.{◌≡◌, ◌++◌, drop}
use Rattle.gq_model.specs.machine.Scenario.{components, system}
use Rattle.gq_why.specs.Why.{parts_of_leaves}
use Rattle.gq_why.proofs.step_sums.StepCounts.push_all_signals.Given as goal

-- the parts so far, with those of the leaves that are left, are all
abbrev pub invariant-loop-reacting : goal.invariant-loop-reacting
invariant-loop-reacting l =
    l.text.items ++ parts_of_leaves (system l.self) l.leaf l.component l.reacting (drop l.reacting (components l.self))
    ≡ l.fn.text.items ++ parts_of_leaves (system l.self) l.leaf l.component 0 (components l.self)
