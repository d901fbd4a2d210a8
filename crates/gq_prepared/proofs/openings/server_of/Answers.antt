use Rattle.std.proofs.Common.{ℕ, IfSome, Some, None, sym, subst}
use Rattle.std.specs.Prelude.{slice_get}
use Rattle.gq_model.specs.machine.Scenario.{components}
use Rattle.gq_prepared.specs.internal.Open_targets.{IsServed}
use Rattle.gq_prepared.proofs.Open_statement_servers.{served_row}
use Rattle.gq_prepared.proofs.openings.server_of.Goals as goal

pub returns-in-None : goal.returns-in-None
returns-in-None c = served_row c.args.table.now c.args.leaf c.args.number None c.requires.leaf c.requires.number c.in-None.ensures

pub returns-in-Some : goal.returns-in-Some
returns-in-Some c =
    let s = c.args.table.now in
    subst (λ (y : ℕ). IfSome (slice_get (components s) c.args.leaf) (λ d. IsServed s d c.args.number (Some y))) (sym c.index.ensures)
    (served_row s c.args.leaf c.args.number (Some c.in-Some.server) c.requires.leaf c.requires.number c.in-Some.ensures)
