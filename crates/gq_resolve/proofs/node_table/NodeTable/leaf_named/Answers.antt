use Rattle.std.proofs.Common.{◌<◌, ◌∙◌, Some, length, ap, sym, arith}
use Rattle.std.proofs.lemmas.List.{drop_all}
use Rattle.gq_model.specs.machine.Routes.{numbered}
use Rattle.gq_model.specs.machine.Scenario.{components}
use Rattle.gq_resolve.specs.NodeTables.{leaf_rows}
use Rattle.gq_resolve.proofs.Node_table_rows.{leaf_rows-count, found_here, found_later}
use Rattle.gq_resolve.proofs.node_table.NodeTable.leaf_named.Goals as goal

pub overflow_cast-number : goal.overflow_cast-number
overflow_cast-number c =
    let all = c.leaves-leaf-items.ensures ∙ (ap (λ r. r.leaves) c.self.invariant.rows_are ∙ ap leaf_rows c.self.view_is) in
    omega (arith, c.loop-number-test.true, ap length all, leaf_rows-count c.args.self.now, c.leaf_count-leaves.ensures.count, c.leaf_count-leaves.ensures.few)

pub loop-number-preserved : goal.loop-number-preserved
loop-number-preserved c =
    let s = c.args.self.now in
    let x = c.loop-number.number in
    let all = c.leaves-leaf-items.ensures ∙ (ap (λ r. r.leaves) c.self.invariant.rows_are ∙ ap leaf_rows c.self.view_is) in
    let less : x < length (components s) = omega (arith, c.loop-number-test.true, ap length all, leaf_rows-count s) in
    let own = c.as_bytes.ensures.bytes ∙ ap (λ r. r.name) c.leaf.view_is in
    let next = found_later s c.leaves-leaf-items.result.now x c.leaf-item.result all less c.leaf-item.is c.args.name.now c.as_bytes.result.now own
    (sym c.same_text.ensures ∙ c.if-same_text.false) in
    sym next ∙ c.loop-number.invariant

pub returns-then-same_text-clause-number : goal.returns-then-same_text-clause-number
returns-then-same_text-clause-number c =
    let s = c.args.self.now in
    let x = c.loop-number.number in
    let all = c.leaves-leaf-items.ensures ∙ (ap (λ r. r.leaves) c.self.invariant.rows_are ∙ ap leaf_rows c.self.view_is) in
    let less : x < length (components s) = omega (arith, c.loop-number-test.true, ap length all, leaf_rows-count s) in
    let own = c.as_bytes.ensures.bytes ∙ ap (λ r. r.name) c.leaf.view_is in
    let here = found_here s c.leaves-leaf-items.result.now x c.leaf-item.result all less c.leaf-item.is c.args.name.now c.as_bytes.result.now own
    (sym c.same_text.ensures ∙ c.if-same_text.true) in
    ap Some c.new.ensures ∙ (sym here ∙ c.loop-number.invariant)

pub returns-then-same_text-clause-there : goal.returns-then-same_text-clause-there
returns-then-same_text-clause-there c =
    let s = c.args.self.now in
    let all = c.leaves-leaf-items.ensures ∙ (ap (λ r. r.leaves) c.self.invariant.rows_are ∙ ap leaf_rows c.self.view_is) in
    omega (arith, c.new.ensures, c.loop-number-test.true, ap length all, leaf_rows-count s)

pub returns-clause-number : goal.returns-clause-number
returns-clause-number c =
    let s = c.args.self.now in
    let x = c.loop-number.number in
    let all = c.leaves-leaf-items.ensures ∙ (ap (λ r. r.leaves) c.self.invariant.rows_are ∙ ap leaf_rows c.self.view_is) in
    let none = drop_all x (components s) (omega (arith, c.loop-number-test.false, ap length all, leaf_rows-count s)) in
    sym (ap (numbered x c.args.name.now) none) ∙ c.loop-number.invariant
