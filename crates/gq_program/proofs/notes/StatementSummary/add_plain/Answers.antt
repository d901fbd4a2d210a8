use Rattle.std.proofs.Common.{arith}
use Rattle.gq_program.specs.Notes.{asks_nothing, keeps_slots}
use Rattle.gq_program.specs.declared.program_tree.Statement.TheVariants.{Plain}
use Rattle.gq_program.proofs.Statement_summary_step.{of_one, noted}
use Rattle.gq_program.proofs.notes.StatementSummary.add_plain.Goals as goal

pub returns : goal.returns
returns c items h =
    let i = c.args.instruction.now in
    noted items (Plain i) c.args.self.now _ c.asks_nothing.result c.keeps_slots.result h (omega (arith, h.further))
    c.both-is_quiet.ensures (of_one (asks_nothing i) c.asks_nothing.result c.asks_nothing.ensures)
    c.both-is_still.ensures (of_one (keeps_slots i) c.keeps_slots.result c.keeps_slots.ensures)
