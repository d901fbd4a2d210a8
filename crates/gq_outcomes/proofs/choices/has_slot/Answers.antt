use Rattle.std.proofs.Common.{◌∙◌, ◌≤◌, ap, subst, length}
use Rattle.std.proofs.lemmas.Bool.{ltb-false}
use Rattle.gq_model.specs.machine.Scenario.{components}
use Rattle.gq_model.specs.machine.World.{slot_at}
use Rattle.gq_trade.specs.Seen_sessions.{slot_id_seen}
use Rattle.gq_outcomes.proofs.Choosing_facts.{no_bank_slot, no_leaf_slot, no_own_slot}
use Rattle.gq_outcomes.proofs.choices.has_slot.Goals as goal

pub returns-then-leaf-leaf_count-clause-none : goal.returns-then-leaf-leaf_count-clause-none
returns-then-leaf-leaf_count-clause-none c past =
    let m = c.args.machine.now in
    ap (λ s. slot_at m.world (slot_id_seen s)) c.in-InLeaf.is
    ∙ no_own_slot m c.requires c.in-InLeaf.leaf c.in-InLeaf.slot (subst (λ n. 64 ≤ n) c.from.ensures (ltb-false c.from.result 64 past))

pub returns-else-leaf-leaf_count-clause-none : goal.returns-else-leaf-leaf_count-clause-none
returns-else-leaf-leaf_count-clause-none c past =
    let m = c.args.machine.now in
    ap (λ s. slot_at m.world (slot_id_seen s)) c.in-InLeaf.is
    ∙ no_leaf_slot m c.requires c.in-InLeaf.leaf c.in-InLeaf.slot
    (subst (λ n. n ≤ c.in-InLeaf.leaf) (c.leaf_count.ensures.count ∙ ap (λ s. length (components s)) c.table.ensures) c.if-leaf-leaf_count.false)

pub returns-then-is_some-clause-none : goal.returns-then-is_some-clause-none
returns-then-is_some-clause-none c past =
    let m = c.args.machine.now in
    ap (λ s. slot_at m.world (slot_id_seen s)) c.in-InSession.is
    ∙ no_bank_slot m c.requires c.in-InSession.session c.in-InSession.slot (subst (λ n. 8 ≤ n) c.from-then-is_some.ensures (ltb-false
    c.from-then-is_some.result 8 past))
