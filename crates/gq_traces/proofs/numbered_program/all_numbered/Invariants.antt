use Rattle.std.proofs.Common.{take}
use Rattle.gq_traces.specs.internal.Flat.{ArePrograms}
use Rattle.gq_traces.proofs.numbered_program.all_numbered.Given as goal

-- the programs so far are numbered
abbrev pub invariant-loop-program : goal.invariant-loop-program
invariant-loop-program l = ArePrograms l.all.items (take l.program-index l.program-items)
