use Rattle.std.proofs.Common.{◌≡◌, ◌<◌, ◌≤◌, ◌∙◌, ap, sym, subst, length, refl}
use Rattle.gq_model.specs.machine.Scenario.{components}
use Rattle.gq_machine.specs.Machine_world.{no_leaf}
use Rattle.gq_outcomes.specs.internal.Key_parts.{leaf_at}
use Rattle.gq_outcomes.specs.internal.Keys.{each_key}
use Rattle.gq_outcomes.proofs.Choosing_facts.{leaves_count}
use Rattle.gq_outcomes.proofs.Key_lists.{key_put, key_whole, named_by_each, named_by_one}
use Rattle.gq_outcomes.proofs.key.named_by_leaves.Goals as goal

pub loop-leaf-preserved : goal.loop-leaf-preserved
loop-leaf-preserved c =
    let l = c.loop-leaf in
    let m = c.args.machine.now in
    let count : c.leaf_count-leaf-end.result ≡ length m.world.leaves =
    c.leaf_count-leaf-end.ensures.count ∙ ap (λ s. length (components s)) c.table.ensures ∙ sym (leaves_count m c.requires) in
    key_put named_by_one m.world.leaves l.leaf no_leaf (leaf_at m.world l.leaf) l.order.items c.push_named_by.new.order.items
    (each_key named_by_one m.world.leaves) (subst (λ n. l.leaf < n) count c.loop-leaf-test.true) refl c.in_ok-push_named_by.ensures l.invariant

pub returns : goal.returns
returns c =
    let l = c.loop-leaf in
    let m = c.args.machine.now in
    let count : c.leaf_count-leaf-end.result ≡ length m.world.leaves =
    c.leaf_count-leaf-end.ensures.count ∙ ap (λ s. length (components s)) c.table.ensures ∙ sym (leaves_count m c.requires) in
    key_whole named_by_one m.world.leaves l.leaf l.order.items (each_key named_by_one m.world.leaves) (subst (λ n. n ≤ l.leaf) count c.loop-leaf-test.false)
    l.invariant
    ∙ sym (named_by_each m.world.leaves)
