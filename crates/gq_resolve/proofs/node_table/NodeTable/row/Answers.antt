use Rattle.std.proofs.Common.{◌∙◌, ℕ, length, get_or, ap, arith}
use Rattle.gq_resolve.specs.NodeTables.{leaf_rows}
use Rattle.gq_resolve.proofs.Node_table_rows.{leaf_rows-count, row_here, node_here, inputs_here, signals_here, servers_here}
use Rattle.gq_resolve.proofs.node_table.NodeTable.row.Goals as goal

pub bounds-leaves-index : goal.bounds-leaves-index
bounds-leaves-index c =
    let all = c.leaves.ensures ∙ (ap (λ r. r.leaves) c.self.invariant.rows_are ∙ ap leaf_rows c.self.view_is) in
    omega (arith, c.requires, c.index.ensures, ap length all, leaf_rows-count c.args.self.now)

pub returns-clause-row : goal.returns-clause-row
returns-clause-row c =
    let all = c.leaves.ensures ∙ (ap (λ r. r.leaves) c.self.invariant.rows_are ∙ ap leaf_rows c.self.view_is) in
    let row = c.index-leaves-index.result in
    row_here c.args.self.now c.leaves.result.now c.args.leaf row all c.requires
    (c.index-leaves-index.is ∙ ap (λ (n : ℕ). get_or c.leaves.result.now n row) c.index.ensures)

pub returns-clause-node : goal.returns-clause-node
returns-clause-node c =
    let all = c.leaves.ensures ∙ (ap (λ r. r.leaves) c.self.invariant.rows_are ∙ ap leaf_rows c.self.view_is) in
    let row = c.index-leaves-index.result in
    node_here c.args.self.now c.leaves.result.now c.args.leaf row all c.requires
    (c.index-leaves-index.is ∙ ap (λ (n : ℕ). get_or c.leaves.result.now n row) c.index.ensures)

pub returns-clause-inputs : goal.returns-clause-inputs
returns-clause-inputs c =
    let all = c.leaves.ensures ∙ (ap (λ r. r.leaves) c.self.invariant.rows_are ∙ ap leaf_rows c.self.view_is) in
    let row = c.index-leaves-index.result in
    inputs_here c.args.self.now c.leaves.result.now c.args.leaf row all c.requires
    (c.index-leaves-index.is ∙ ap (λ (n : ℕ). get_or c.leaves.result.now n row) c.index.ensures)

pub returns-clause-signals : goal.returns-clause-signals
returns-clause-signals c =
    let all = c.leaves.ensures ∙ (ap (λ r. r.leaves) c.self.invariant.rows_are ∙ ap leaf_rows c.self.view_is) in
    let row = c.index-leaves-index.result in
    signals_here c.args.self.now c.leaves.result.now c.args.leaf row all c.requires
    (c.index-leaves-index.is ∙ ap (λ (n : ℕ). get_or c.leaves.result.now n row) c.index.ensures)

pub returns-clause-servers : goal.returns-clause-servers
returns-clause-servers c =
    let all = c.leaves.ensures ∙ (ap (λ r. r.leaves) c.self.invariant.rows_are ∙ ap leaf_rows c.self.view_is) in
    let row = c.index-leaves-index.result in
    servers_here c.args.self.now c.leaves.result.now c.args.leaf row all c.requires
    (c.index-leaves-index.is ∙ ap (λ (n : ℕ). get_or c.leaves.result.now n row) c.index.ensures)
