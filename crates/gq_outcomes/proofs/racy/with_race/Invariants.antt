use Rattle.std.proofs.Common.{◌≡◌, ◌++◌, List, drop, map}
use Rattle.gq_model.specs.machine.Scenario.{Component}
use Rattle.gq_outcomes.specs.internal.Racy.{with_race}
use Rattle.gq_outcomes.proofs.racy.with_race.Given as goal

-- the marks so far, with those of the leaves that are left, are all
abbrev pub invariant-loop-place : goal.invariant-loop-place
invariant-loop-place l =
    (cs : List Component) → l.programs ≡ map (λ (c : Component). c.node.program) cs
    → l.all.items ++ with_race l.shared l.place (drop l.place cs) ≡ with_race l.shared 0 cs
