use Rattle.std.proofs.Common.{◌≡◌, ◌∙◌, Option, IfSome, ap, sym, subst}
use Rattle.gq_resolve.specs.NodeTables.{LeafRow}
use Rattle.gq_resolve.proofs.Node_table_rows.{row_at}
use Rattle.gq_unverified.specs.Tested.{name_at}
use Rattle.gq_unverified.proofs.step.WrongStep.of.Goals as goal

pub returns : goal.returns
returns c =
    let name = c.name.result.now in
    let row = row_at c.args.table.now c.args.leaf c.requires in
    let named : name ≡ row.component.node.name = subst (λ (o : Option LeafRow). IfSome o (λ r. name ≡ r.name)) row.row c.name.ensures in
    λ i. ((c.copied.ensures ∙ named ∙ ap name_at (sym row.there)) i, c.args.wrong)
