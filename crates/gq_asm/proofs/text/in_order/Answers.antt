use Rattle.std.proofs.Common.{◌∙◌, ap}
use Rattle.gq_asm.proofs.Sections_taken_out.{order_some, order_none}
use Rattle.gq_asm.proofs.text.in_order.Goals as goal
use Rattle.gq_asm.proofs.text.in_order.Goals.{in-Some+in_ok-push, in_default}

pub loop-section-preserved : goal.loop-section-preserved
loop-section-preserved c =
    elim c.match-take_section.branch [
      | in-Some+in_ok-push w ↦
          order_some c.loop-section.given.items c.take_section.new.given.items c.loop-section.sections.items c.match-take_section.sections.items _
          c.args.order.now c.loop-section.section-index w.in-Some.body c.loop-section-test.true c.loop-section.invariant w.in-Some.ensures.body
          c.take_section.ensures.rest (ap (λ v. v.items) w.sections-is ∙ w.in_ok-push.ensures.items)
      | in_default w ↦
          order_none c.loop-section.given.items c.take_section.new.given.items c.loop-section.sections.items c.match-take_section.sections.items _
          c.args.order.now c.loop-section.section-index c.loop-section-test.true c.loop-section.invariant w.in_default.ensures.body
          c.take_section.ensures.rest (ap (λ v. v.items) w.sections-is)
    ]
