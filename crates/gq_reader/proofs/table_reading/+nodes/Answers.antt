use Rattle.std.proofs.Common.{◌≡◌, ◌<◌, List, ◌∷◌, length, refl, sym, ap, subst, ◌∙◌, arith}
use Rattle.std.specs.Vec.Iter.{into_iter_items}
use Rattle.toml.specs.View.{table_view, items_view}
use Rattle.toml.specs.declared.value.Value.{Value}
use Rattle.gq_scenario.specs.Table_keys.{listed}
use Rattle.gq_scenario.specs.Document.{node_onto, nodes_by}
use Rattle.gq_scenario.specs.Component_trees.{onto}
use Rattle.gq_reader.specs.internal.Faultless_tables.{AreNodes}
use Rattle.gq_reader.proofs.Nodes_read.{leaf_passed, init_passed, below_passed, init_before, all_tables, node_passed, rest_passed, node_read, no_items}
use Rattle.gq_reader.proofs.table_reading.+nodes.Goals as goal

pub read_node-read_leaf-requires : goal.read_node-read_leaf-requires
read_node-read_leaf-requires t c =
    let some : 0 < c.args.levels = omega arith in
    leaf_passed c.args.levels some (table_view c.args.table) c.requires (sym c.has.ensures ∙ c.if-not-has.true)

pub read_node-read_init-requires : goal.read_node-read_init-requires
read_node-read_init-requires t c =
    let some : 0 < c.args.levels = omega arith in
    init_passed c.args.levels some (table_view c.args.table) c.requires (sym c.has.ensures ∙ c.if-not-has.false)

pub read_node-read_nodes-requires : goal.read_node-read_nodes-requires
read_node-read_nodes-requires t c =
    let some : 0 < c.args.levels = omega arith in
    (omega (arith, c.decreases), below_passed c.args.levels some (table_view c.args.table) c.requires _ c.take_list.ensures)

pub read_node-returns : goal.read_node-returns
read_node-returns t c =
    let some : 0 < c.args.levels = omega arith in
    let below = rw c.take_list.ensures at c.in_ok-children.ensures in
    init_before c.args.levels some (table_view c.args.table) c.in_ok-init.init c.in_ok-children.children (sym c.has.ensures
    ∙ c.if-not-has.false) c.in_ok-init.ensures below

pub read_nodes-loop-value-init : goal.read_nodes-loop-value-init
read_nodes-loop-value-init t c =
    let gives = c.into_iter-value-iterator.ensures.into_iter_gives in
    record {
      read = rw (c.new-nodes.ensures.items, gives.0) refl;
      count = omega (arith, gives.1, ap length gives.0, c.args.values.ok.0);
      rest = rw gives.0 c.requires;
    }

pub read_nodes-unreachable-requires : goal.read_nodes-unreachable-requires
read_nodes-unreachable-requires t c =
    let rest = subst (λ (vs : List Value). AreNodes c.args.levels (listed (items_view vs))) c.in-Some.ensures.steps.0 c.loop-value.invariant.rest in
    all_tables c.args.levels (c.in-Some.value ∷ into_iter_items c.next.new.self) 0 c.in-Some.value (omega arith) refl
    (sym (rw c.in_default.is at c.table_of.ensures)) rest

pub read_nodes-read_node-requires : goal.read_nodes-read_node-requires
read_nodes-read_node-requires t c =
    let rest = subst (λ (vs : List Value). AreNodes c.args.levels (listed (items_view vs))) c.in-Some.ensures.steps.0 c.loop-value.invariant.rest in (
      omega (arith, c.decreases),
      node_passed c.args.levels (c.in-Some.value ∷ into_iter_items c.next.new.self) 0 c.in-Some.value (omega arith) refl (table_view c.in-Some-table_of.table)
          (sym (rw c.in-Some-table_of.is at c.table_of.ensures)) rest,
    )

pub read_nodes-loop-value-preserved : goal.read_nodes-loop-value-preserved
read_nodes-loop-value-preserved t c =
    let steps = c.in-Some.ensures.steps in
    let rest = subst (λ (vs : List Value). AreNodes c.args.levels (listed (items_view vs))) steps.0 c.loop-value.invariant.rest in
    let before = subst (λ (vs : List Value). onto c.loop-value.nodes.items (nodes_by (node_onto c.args.levels) (listed (items_view vs))) ≡
    nodes_by (node_onto c.args.levels) (listed (items_view c.args.values.items))) steps.0 c.loop-value.invariant.read in
    let read = node_read c.args.levels (c.in-Some.value ∷ into_iter_items c.next.new.self) 0 c.in-Some.value (omega arith) refl c.loop-value.nodes.items
    c.in_ok-read_node.field-0 (table_view c.in-Some-table_of.table) (sym (rw c.in-Some-table_of.is at c.table_of.ensures)) c.in_ok-read_node.ensures in
    record {
      read = rw c.in_ok-push.ensures.items (read ∙ before);
      count = omega (arith, steps.1, ap length steps.0, c.loop-value.invariant.count);
      rest = rest_passed c.args.levels (c.in-Some.value ∷ into_iter_items c.next.new.self) 0 c.in-Some.value (omega arith) refl rest;
    }

pub read_nodes-returns : goal.read_nodes-returns
read_nodes-returns t c =
    let none = no_items (into_iter_items c.loop-value.value-iterator) (omega (arith, c.in-None.ensures.steps.0, c.loop-value.invariant.count)) in
    c.new.ensures ∙ subst (λ (vs : List Value). onto c.loop-value.nodes.items (nodes_by (node_onto c.args.levels) (listed (items_view vs))) ≡
    nodes_by (node_onto c.args.levels) (listed (items_view c.args.values.items))) none c.loop-value.invariant.read
