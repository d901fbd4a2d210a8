use Rattle.std.proofs.Common.{arith}
use Rattle.gq_program.specs.Notes.{is_quiet, is_still}
use Rattle.gq_program.specs.declared.program_tree.Statement.TheVariants.{If}
use Rattle.gq_program.proofs.Statement_summary_step.{of_two, noted}
use Rattle.gq_program.proofs.notes.StatementSummary.add_if.Goals as goal

pub returns : goal.returns
returns c items h =
    let arm = c.args.arm.now in
    let other = c.args.other.now in
    noted items (If arm other) c.args.self.now _ c.both-are_quiet.result c.both-are_still.result h
    (omega (arith, h.further, c.cost.ensures, c.cost-2.ensures, c.max-more.ensures, c.saturating_add.ensures))
    c.both.ensures (of_two (is_quiet arm) (is_quiet other) _ _ _ c.is_quiet.ensures c.is_quiet-2.ensures c.both-are_quiet.ensures)
    c.both-2.ensures (of_two (is_still arm) (is_still other) _ _ _ c.is_still.ensures c.is_still-2.ensures c.both-are_still.ensures)
