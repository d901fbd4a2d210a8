use Rattle.std.proofs.Common.{◌∙◌, ap, length, codes, arith}
use Rattle.gq_resolve.proofs.Node_table_rows.{length-rows_of}
use Rattle.gq_resolve.proofs.node_table.NodeTable.node_count.Goals as goal

pub returns-clause-few : goal.returns-clause-few
returns-clause-few c =
    let s = c.self.inside.scenario in
    let all = c.nodes.ensures ∙ ap (λ r. r.nodes) c.self.invariant.rows_are in
    omega (arith, ap length all, length-rows_of (codes "init") 0 1 0 s.nodes, c.bounds.ensures.nodes)
