use Rattle.std.proofs.Common.{List, ap, ◌∙◌, arith}
use Rattle.gq_model.specs.machine.Program.{size}
use Rattle.gq_program.specs.Statement_trees.{tree_of}
use Rattle.gq_program.specs.declared.program_tree.Statement.{Statement}
use Rattle.gq_program.proofs.Statement_list_sizes.{size_last}
use Rattle.gq_program.proofs.spare.Spare.+spares.Goals as goal

pub give_all-give_blocks-requires : goal.give_all-give_blocks-requires
give_all-give_blocks-requires t c =
    let split = ap (λ (l : List Statement). size (tree_of l)) c.in-Some.ensures.items ∙ size_last c.pop.new.self.items c.in-Some.statement in
    (omega (arith, c.decreases, c.loop-statement.invariant, split), tt)

pub give_all-loop-statement-preserved : goal.give_all-loop-statement-preserved
give_all-loop-statement-preserved t c =
    let split = ap (λ (l : List Statement). size (tree_of l)) c.in-Some.ensures.items ∙ size_last c.pop.new.self.items c.in-Some.statement in
    omega (arith, c.loop-statement.invariant, split)
