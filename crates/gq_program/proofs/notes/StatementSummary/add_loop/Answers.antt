use Rattle.std.proofs.Common.{◌∙◌, ◌-◌, ◌*◌, ◌^◌, min, ap, arith}
use Rattle.gq_model.specs.rules.Budgets.{cost}
use Rattle.gq_program.specs.Notes.{is_quiet, is_still}
use Rattle.gq_program.specs.declared.program_tree.Statement.TheVariants.{Loop}
use Rattle.gq_program.proofs.Statement_summary_step.{of_one, rounds, noted}
use Rattle.gq_program.proofs.notes.StatementSummary.add_loop.Goals as goal

pub returns : goal.returns
returns c items h =
    let body = c.args.body.now in
    let all = rounds (2 ^ 64 - 1) c.args.count (cost body) c.cost.result c.saturating_add-round.result c.saturating_mul-rounds.result c.cost.ensures
    c.saturating_add-round.ensures
    (c.saturating_mul-rounds.ensures ∙ ap (λ n. min (c.saturating_add-round.result * n) (2 ^ 64 - 1)) c.from.ensures) in
    noted items (Loop c.args.count body) c.args.self.now _ c.is_quiet.result c.is_still.result h
    (omega (arith, h.further, all, c.saturating_add.ensures))
    c.both.ensures (of_one (is_quiet body) c.is_quiet.result c.is_quiet.ensures)
    c.both-2.ensures (of_one (is_still body) c.is_still.result c.is_still.ensures)
