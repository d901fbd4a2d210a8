use Rattle.std.proofs.Common.{◌≡◌, ◌+◌, ◌-◌, ◌<◌, ◌==◌, ◌++◌, ◌∷◌, [], ◌∙◌, refl, Some, None, false, map, drop, sym, ap, arith, append-nil}
use Rattle.std.specs.Prelude.{codes}
use Rattle.toml.specs.Data.{as_table}
use Rattle.toml.specs.View.{view, items_view, table_view}
use Rattle.gq_output.proofs.Written_byte_facts.{on_ok}
use Rattle.gq_scenario.specs.Document.{list_at}
use Rattle.gq_scenario.specs.Table_keys.{listed}
use Rattle.gq_faults.specs.Documents.{in_table, in_tables, nodes_below, DocumentNode}
use Rattle.gq_faults.specs.Document_nodes.{node_of}
use Rattle.std.proofs.lemmas.Bool.Decides.{nat_tests}
use Rattle.gq_faults.proofs.Document_value_views.{in_table_at, in_table_none, values_next, node_step, one_more}
use Rattle.gq_faults.proofs.Joined_fault_lists.{map-append, then_more}
use Rattle.gq_faults.proofs.document_nodes.+nodes.Goals as goal

pub push_nodes-loop-index-preserved : goal.push_nodes-loop-index-preserved
push_nodes-loop-index-preserved t c =
    let f = nodes_below c.args.levels in
    let vs = c.args.values.now in
    let i = c.loop-index.index in
    let v = c.index-values-index.result in
    then_more _ (map node_of c.loop-index.nodes.items) _ (in_tables f (listed (items_view (drop i vs)))) (in_table f (view v))
    (in_tables f (listed (items_view (drop (i + 1) vs)))) c.in_ok-push_value.ensures (values_next f vs i v c.loop-index-test.true c.index-values-index.is)
    c.loop-index.invariant

pub push_value-returns-in-None : goal.push_value-returns-in-None
push_value-returns-in-None t c =
    let none : as_table (view c.args.value.now) ≡ None = sym (rw c.in-None.is at c.as_table.ensures) in
    rw (in_table_none (nodes_below c.args.levels) (view c.args.value.now) none) (sym (append-nil (map node_of c.args.nodes.now.items)))

pub push_value-returns-in-Some : goal.push_value-returns-in-Some
push_value-returns-in-Some t c =
    let is : as_table (view c.args.value.now) ≡ Some (table_view c.in-Some.table.now) = sym (rw c.in-Some.is at c.as_table.ensures) in
    rw (in_table_at (nodes_below c.args.levels) (view c.args.value.now) (table_view c.in-Some.table.now) is) c.push_node.ensures

pub push_node-returns : goal.push_node-returns
push_node-returns t c =
    let old = map node_of c.args.nodes.now.items in
    let mid = map node_of c.push.new.self.items in
    let new = map node_of c.push_nodes.new.nodes.items in
    let entries = table_view c.args.table.now in
    let some : 0 < c.args.levels = omega arith in
    let a : DocumentNode = record { deep = false; entries = entries } in
    let rest = in_tables (nodes_below (c.args.levels - 1)) (list_at (codes "start") entries) in
    let deep : (c.args.levels == 0) ≡ false = grind (arith, nat_tests) in
    let pushed : mid ≡ old ++ a ∷ [] = rw (c.in_ok-push.ensures.items, map-append node_of c.args.nodes.now.items, deep) refl in
    on_ok _ (new ≡ old ++ nodes_below c.args.levels entries) c.push_nodes.result
    (λ (e : new ≡ mid ++ in_tables (nodes_below (c.args.levels - 1)) (listed (items_view c.list_at.result.now))).
    one_more old new mid (nodes_below c.args.levels entries) rest a pushed
    (e ∙ ap (λ ds. mid ++ in_tables (nodes_below (c.args.levels - 1)) ds) c.list_at.ensures) (node_step c.args.levels entries some))
    c.push_nodes.ensures
