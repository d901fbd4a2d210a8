use Rattle.std.proofs.Common.{◌<◌, ◌≤◌, ◌∙◌, ◌++◌, ap, sym, subst, length, get_or}
use Rattle.gq_outcomes.specs.internal.Key_parts.{leaf_at}
use Rattle.gq_outcomes.specs.internal.Keys.{number_key, text_key}
use Rattle.gq_outcomes.proofs.Kept_readers.{get_is, operands_are}
use Rattle.gq_outcomes.proofs.Key_lists.{count_put, key_put, key_whole}
use Rattle.gq_outcomes.proofs.key.push_operands.Goals as goal

pub loop-place-init : goal.loop-place-init
loop-place-init c =
    let m = c.args.machine.now in
    let same = operands_are m c.requires.sound c.args.leaf c.requires.leaf c.registers-registers.result.now c.registers-registers.ensures in
    count_put number_key (leaf_at m.world c.args.leaf).operands c.count-count.result c.args.key.now.items c.push_number.new.key.items
    (c.count-count.ensures.count ∙ ap length (sym same)) c.in_ok-push_number.ensures

pub loop-place-preserved : goal.loop-place-preserved
loop-place-preserved c =
    let l = c.loop-place in
    let m = c.args.machine.now in
    let operands = (leaf_at m.world c.args.leaf).operands in
    let same = operands_are m c.requires.sound c.args.leaf c.requires.leaf c.registers-registers.result.now c.registers-registers.ensures in
    let a = c.operand.result in
    key_put number_key operands l.place a a l.key.items c.push_number-in-loop-place.new.key.items (c.args.key.now.items ++ text_key operands)
    (subst (λ n. l.place < n) (c.count-count.ensures.count ∙ ap length (sym same)) c.loop-place-test.true)
    (get_is c.registers-registers.result.now.operands l.place a c.operand.ensures ∙ ap (λ t. get_or t l.place a) (sym same))
    (c.in_ok-push_number-2.ensures ∙ ap (λ n. l.key.items ++ number_key n) c.from.ensures) l.invariant

pub returns : goal.returns
returns c =
    let l = c.loop-place in
    let m = c.args.machine.now in
    let operands = (leaf_at m.world c.args.leaf).operands in
    let same = operands_are m c.requires.sound c.args.leaf c.requires.leaf c.registers-registers.result.now c.registers-registers.ensures in
    key_whole number_key operands l.place l.key.items (c.args.key.now.items ++ text_key operands)
    (subst (λ n. n ≤ l.place) (c.count-count.ensures.count ∙ ap length (sym same)) c.loop-place-test.false) l.invariant
