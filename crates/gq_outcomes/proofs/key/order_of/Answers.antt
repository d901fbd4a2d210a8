use Rattle.std.proofs.Common.{◌≡◌, ◌<◌, ◌≤◌, ◌∙◌, ◌++◌, ap, sym, subst, length}
use Rattle.gq_model.specs.machine.Scenario.{components}
use Rattle.gq_outcomes.specs.Same.{named, named_below}
use Rattle.gq_outcomes.proofs.Choosing_facts.{leaves_count}
use Rattle.gq_outcomes.proofs.Key_lists.{level_put, levels_whole}
use Rattle.gq_outcomes.proofs.key.order_of.Goals as goal

pub loop-depth-preserved : goal.loop-depth-preserved
loop-depth-preserved c =
    let l = c.loop-depth in
    let m = c.args.machine.now in
    let count : c.leaf_count-depth-end.result ≡ length m.world.leaves =
    c.leaf_count-depth-end.ensures.count ∙ ap (λ s. length (components s)) c.table.ensures ∙ sym (leaves_count m c.requires) in
    level_put m.world (length m.world.leaves) l._depth l.order.items l.level.items c.extend_from_slice.new.self.items c.in_ok-level-2.level.items
    (named m.world) (subst (λ n. l._depth < n) count c.loop-depth-test.true)
    (c.in_ok-extend_from_slice.ensures.items ∙ ap (λ t. l.order.items ++ t) c.as_slice.ensures.value)
    (c.in_ok-level-2.ensures ∙ ap (named_below m.world) c.as_slice-in-loop-depth.ensures.value) l.invariant

pub returns : goal.returns
returns c =
    let l = c.loop-depth in
    let m = c.args.machine.now in
    let count : c.leaf_count-depth-end.result ≡ length m.world.leaves =
    c.leaf_count-depth-end.ensures.count ∙ ap (λ s. length (components s)) c.table.ensures ∙ sym (leaves_count m c.requires) in
    levels_whole m.world (length m.world.leaves) l._depth l.order.items l.level.items (named m.world)
    (subst (λ n. n ≤ l._depth) count c.loop-depth-test.false) l.invariant
