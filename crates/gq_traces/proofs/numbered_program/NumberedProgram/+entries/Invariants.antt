use Rattle.std.proofs.Common.{◌+◌, ◌*◌, ◌≤◌, ◌∷◌, [], drop, length}
use Rattle.gq_model.specs.machine.Program.{size}
use Rattle.gq_program.specs.Statement_trees.{tree_of}
use Rattle.gq_traces.specs.internal.Flat.{Puts}
use Rattle.gq_traces.proofs.numbered_program.NumberedProgram.+entries.Given as goal

abbrev pub decreases-put : goal.decreases-put
decreases-put l = 2 * size (tree_of (l.statement.now ∷ []))

abbrev pub decreases-put_all : goal.decreases-put_all
decreases-put_all l = 2 * size l.body.now + 1

-- the statements from this one on were put
abbrev pub invariant-put_all-loop-rest : goal.invariant-put_all-loop-rest
invariant-put_all-loop-rest l = record {
  few : l.rest ≤ length l.statements;
  puts : Puts l.fn.self l.self (tree_of (drop l.rest l.statements)) l.fn.next l.next;
}

abbrev pub decreases-put_all-loop-rest : goal.decreases-put_all-loop-rest
decreases-put_all-loop-rest l = l.rest
