use Rattle.std.proofs.Common.{◌≡◌, ◌+◌, ◌∙◌, ℕ, List, ◌++◌, ◌∷◌, [], IfSome, length, drop, ap, sym, subst, arith, add-one, append_assoc}
use Rattle.std.specs.Prelude.{slice_get}
use Rattle.gq_model.specs.machine.Scenario.{Component, components}
use Rattle.gq_resolve.specs.NodeTables.{LeafRow, leaf_row, leaf_rows_of}
use Rattle.gq_resolve.proofs.Node_table_rows.{more_leaves, places-count}
use Rattle.gq_resolve.proofs.node_table.leaf_entries.Goals as goal

pub overflow_cast-number : goal.overflow_cast-number
overflow_cast-number c =
    let places = c.deref-node-items.ensures.value ∙ c.in_ok-places.ensures in
    omega (
      arith,
      c.loop-number-test.true,
      ap length places,
      places-count c.args.scenario.now,
      c.bounds.ensures.leaves,
    )

pub leaf_entry-requires-clause-there : goal.leaf_entry-requires-clause-there
leaf_entry-requires-clause-there c =
    let places = c.deref-node-items.ensures.value ∙ c.in_ok-places.ensures in
    omega (arith, c.new-leaf.ensures, c.loop-number-test.true, ap length places, places-count c.args.scenario.now, ap length c.requires.all)

pub loop-number-preserved : goal.loop-number-preserved
loop-number-preserved c =
    let s = c.args.scenario.now in
    let i = c.loop-number.number in
    let items = c.deref-node-items.result.now in
    let cs = components s in
    let places = c.deref-node-items.ensures.value ∙ c.in_ok-places.ensures in
    let same : length items ≡ length cs = ap length places ∙ places-count s in
    let entry = c.in_ok-leaf_entry.field-0 in
    let Q : List Component → ℕ → Type 0 = λ all n. IfSome (slice_get all n) (λ d. entry ≡ leaf_row s c.node-item.result d) in
    let reported : Q cs i = subst (λ (n : ℕ). Q cs n) c.new-leaf.ensures (subst (λ all. Q all c.new-leaf.result) c.requires.all c.in_ok-leaf_entry.ensures) in
    let next = more_leaves s items cs i c.node-item.result c.loop-number-test.true same c.node-item.is entry reported in
    let rest : List LeafRow = leaf_rows_of s (drop (i + 1) items) (drop (i + 1) cs) in
    let step : leaf_rows_of s (drop i items) (drop i cs) ≡ entry ∷ rest =
    next ∙ (λ j. entry ∷ leaf_rows_of s (drop (sym (add-one i) j) items) (drop (sym (add-one i) j) cs)) in
    ap (λ l. l ++ rest) c.in_ok-push.ensures.items
    ∙ (append_assoc c.loop-number.entries.items (entry ∷ []) rest ∙ (ap (λ l. c.loop-number.entries.items ++ l) (sym step) ∙ c.loop-number.invariant))
