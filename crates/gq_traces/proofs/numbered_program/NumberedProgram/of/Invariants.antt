use Rattle.std.proofs.Common.{take}
use Rattle.gq_traces.specs.internal.Flat.{AreParts}
use Rattle.gq_traces.proofs.numbered_program.NumberedProgram.of.Given as goal

-- the sections so far were put
abbrev pub invariant-loop-section : goal.invariant-loop-section
invariant-loop-section l = AreParts l.numbered (take l.section-index l.section-items)
