use Rattle.std.proofs.Common.{◌≡◌, drop}
use Rattle.gq_model.specs.machine.Scenario.{components}
use Rattle.gq_why.specs.Why_written.{leaf_number}
use Rattle.gq_why.proofs.why.numbered.Given as goal

-- none of those so far has the name
abbrev pub invariant-loop-place : goal.invariant-loop-place
invariant-loop-place l =
    let all = components l.scenario in leaf_number l.name 0 all ≡ leaf_number l.name l.place (drop l.place all)
