use Rattle.std.proofs.Common.{◌≡◌, ◌++◌, drop, true}
use Rattle.gq_model.specs.texts.Text.{in_order}
use Rattle.gq_asm.specs.internal.Section_order.{is_distinct}
use Rattle.gq_asm.proofs.text.in_order.Given as goal

abbrev pub invariant-loop-section : goal.invariant-loop-section
invariant-loop-section l =
    (l.sections.items ++ in_order l.given.items (drop l.section-index l.order) ≡ in_order l.fn.given.items l.order) ×
    (is_distinct (drop l.section-index l.order) ≡ true)
