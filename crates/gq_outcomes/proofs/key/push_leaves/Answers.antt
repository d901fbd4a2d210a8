use Rattle.std.proofs.Common.{◌≡◌, ◌<◌, ◌≤◌, ◌∙◌, ◌++◌, ap, sym, subst, length, refl}
use Rattle.gq_model.specs.machine.Scenario.{components}
use Rattle.gq_machine.specs.Machine_world.{no_leaf}
use Rattle.gq_outcomes.specs.internal.Key_parts.{kept_leaf_key, leaf_at}
use Rattle.gq_outcomes.specs.internal.Keys.{list_key}
use Rattle.gq_outcomes.proofs.Choosing_facts.{leaves_count}
use Rattle.gq_outcomes.proofs.Key_lists.{count_put, key_put, key_whole}
use Rattle.gq_outcomes.proofs.key.push_leaves.Goals as goal

pub loop-number-init : goal.loop-number-init
loop-number-init c =
    let m = c.args.machine.now in
    let count : c.leaf_count-count.result ≡ length m.world.leaves =
    c.leaf_count-count.ensures.count ∙ ap (λ s. length (components s)) c.table.ensures ∙ sym (leaves_count m c.requires) in
    count_put (kept_leaf_key c.args.order.now) m.world.leaves c.leaf_count-count.result c.args.key.now.items c.push_number.new.key.items count
    c.in_ok-push_number.ensures

pub loop-number-preserved : goal.loop-number-preserved
loop-number-preserved c =
    let l = c.loop-number in
    let m = c.args.machine.now in
    let key = kept_leaf_key c.args.order.now in
    let count : c.leaf_count-count.result ≡ length m.world.leaves =
    c.leaf_count-count.ensures.count ∙ ap (λ s. length (components s)) c.table.ensures ∙ sym (leaves_count m c.requires) in
    key_put key m.world.leaves l.number no_leaf (leaf_at m.world l.number) l.key.items c.push_leaf.new.key.items
    (c.args.key.now.items ++ list_key key m.world.leaves) (subst (λ n. l.number < n) count c.loop-number-test.true) refl c.in_ok-push_leaf.ensures l.invariant

pub returns : goal.returns
returns c =
    let l = c.loop-number in
    let m = c.args.machine.now in
    let key = kept_leaf_key c.args.order.now in
    let count : c.leaf_count-count.result ≡ length m.world.leaves =
    c.leaf_count-count.ensures.count ∙ ap (λ s. length (components s)) c.table.ensures ∙ sym (leaves_count m c.requires) in
    key_whole key m.world.leaves l.number l.key.items (c.args.key.now.items ++ list_key key m.world.leaves)
    (subst (λ n. n ≤ l.number) count c.loop-number-test.false) l.invariant
