use Rattle.gq_traces.proofs.Sections_put.{IsLeft}
use Rattle.gq_traces.proofs.numbered_program.NumberedProgram.part.Given as goal

abbrev pub invariant-loop-k : goal.invariant-loop-k
invariant-loop-k l = IsLeft l.self l.section l.k
