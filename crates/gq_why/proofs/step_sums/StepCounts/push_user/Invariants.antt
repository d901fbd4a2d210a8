use Rattle.std.proofs.Common.{◌≡◌, ◌++◌, drop}
use Rattle.gq_model.specs.machine.Scenario.{system}
use Rattle.gq_why.specs.Why.{asker_lines}
use Rattle.gq_why.proofs.step_sums.StepCounts.push_user.Given as goal

-- the lines so far, with those of the sections that are left, are all
abbrev pub invariant-loop-part : goal.invariant-loop-part
invariant-loop-part l =
    l.text.items ++ asker_lines l.runs.cause (system l.self) l.user l.component l.service l.asked (drop l.part l.component.node.program.sections)
    ≡ l.fn.text.items ++ asker_lines l.runs.cause (system l.self) l.user l.component l.service l.asked l.component.node.program.sections
