use Rattle.std.proofs.Common.{◌≡◌, ◌++◌, drop}
use Rattle.gq_model.specs.machine.Scenario.{components, system}
use Rattle.gq_why.specs.Why.{askers_from}
use Rattle.gq_why.proofs.step_sums.StepCounts.push_users.Given as goal

-- the lines so far, with those of the leaves that are left, are all
abbrev pub invariant-loop-user : goal.invariant-loop-user
invariant-loop-user l =
    l.text.items ++ askers_from l.runs.cause (system l.self) l.leaf l.service l.asked l.user (drop l.user (components l.self))
    ≡ l.fn.text.items ++ askers_from l.runs.cause (system l.self) l.leaf l.service l.asked 0 (components l.self)
