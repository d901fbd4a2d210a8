use Rattle.std.proofs.Common.{List, map, take}
use Rattle.gq_model.specs.machine.Scenario.{Component}
use Rattle.gq_traces.specs.Step_positions.{start_aheads}
use Rattle.gq_traces.specs.internal.Flat.{AreAheads, ArePrograms}
use Rattle.gq_traces.proofs.tracker.first_aheads.Given as goal

-- the leaves so far stand at the start of their programs
abbrev pub invariant-loop-numbered : goal.invariant-loop-numbered
invariant-loop-numbered l =
    (cs : List Component) → ArePrograms l.programs (map (λ c. c.node.program) cs)
    → AreAheads (take l.numbered-index l.programs) l.aheads.items (start_aheads (take l.numbered-index cs))
