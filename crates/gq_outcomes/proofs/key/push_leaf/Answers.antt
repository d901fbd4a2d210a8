use Rattle.std.proofs.Common.{◌∙◌, ◌++◌, ap, sym}
use Rattle.std.proofs.lemmas.Result.{on_ok_weaker}
use Rattle.gq_outcomes.specs.internal.Key_parts.{kept_head_key, kept_slot_key, leaf_at}
use Rattle.gq_outcomes.specs.internal.Keys.{list_key}
use Rattle.gq_outcomes.proofs.Kept_parts.{leaf_parts}
use Rattle.gq_outcomes.proofs.Key_lists.{behind}
use Rattle.gq_outcomes.proofs.key.push_leaf.Goals as goal

pub returns : goal.returns
returns c =
    let order = c.args.order.now in
    let leaf = leaf_at c.args.machine.now.world c.args.leaf in
    let head = c.in_ok-push_head.ensures ∙ ap (λ x. c.args.key.now.items ++ kept_head_key order (leaf_at c.args.machine.now.world x)) c.new.ensures in
    on_ok_weaker c.push_own_slots.result
    (λ put. behind _ _ _ (kept_head_key order leaf) (list_key (kept_slot_key order) leaf.slots) head put
    ∙ ap (λ t. c.args.key.now.items ++ t) (sym (leaf_parts order leaf))) c.push_own_slots.ensures
