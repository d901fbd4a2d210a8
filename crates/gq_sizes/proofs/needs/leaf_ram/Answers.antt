use Rattle.std.proofs.Common.{◌≡◌, ◌∙◌, max, ap, sym}
use Rattle.std.specs.Prelude.{if◌then◌else◌}
use Rattle.gq_model.specs.machine.Amounts.{Ram}
use Rattle.gq_model.specs.machine.Lists.{greatest}
use Rattle.gq_model.specs.machine.Program.{section_in}
use Rattle.gq_sizes.specs.Size.{is_up_to, section_points, session_cost}
use Rattle.gq_sizes.specs.Needing.{section_needed}
use Rattle.gq_sizes.proofs.Maximum_search.{counts, counts_not, most_more, most_none}
use Rattle.gq_verify.proofs.Sections_by_name.{there_now}
use Rattle.gq_sizes.proofs.needs.leaf_ram.Goals as goal
use Rattle.gq_sizes.proofs.needs.leaf_ram.Goals.{then-is_up_to, else-is_up_to}

pub most_ram-requires : goal.most_ram-requires
most_ram-requires c =
    let items = c.sections-section-items.result.now in
    (there_now items items c.loop-section.section-index c.loop-section-item.result c.loop-section-test.true c.loop-section-item.is
    c.loop-section.invariant.there).0.fits

pub loop-section-preserved : goal.loop-section-preserved
loop-section-preserved c =
    let items = c.sections-section-items.result.now in
    let i' = c.loop-section.section-index in
    let p = c.loop-section-item.result in
    let v = c.args.verified.now in
    let now = there_now items items i' p c.loop-section-test.true c.loop-section-item.is c.loop-section.invariant.there in
    let found = ap (section_in p.0) (sym c.sections-section-items.ensures.sections) ∙ now.0.found in
    record {
      most =
          let need = greatest (session_cost (λ _ _. 0) Ram c.args.interface.now) (section_points v p.0) in
          let next : c.if-is_up_to.most ≡ max c.loop-section.most (if is_up_to c.args.level p.0 then need else 0) =
          elim c.if-is_up_to.branch [
            | then-is_up_to w ↦
                counts (is_up_to c.args.level p.0) need w.most_ram.result c.loop-section.most c.if-is_up_to.most
                (sym c.is_up_to.ensures ∙ w.if-is_up_to.true) (w.most_ram.ensures p.1 found) (w.most-is ∙ w.max-most.ensures)
            | else-is_up_to w ↦
                counts_not (is_up_to c.args.level p.0) need c.loop-section.most c.if-is_up_to.most
                (sym c.is_up_to.ensures ∙ w.if-is_up_to.false) w.most-is
          ] in
          most_more (section_needed (λ _ _. 0) Ram v c.args.interface.now c.args.level) items i' p c.loop-section.most c.if-is_up_to.most _
          c.loop-section-test.true c.loop-section-item.is next c.loop-section.invariant.most;
      there = now.1;
    }

pub returns : goal.returns
returns c =
    let items = c.sections-section-items.result.now in
    let needed = section_needed (λ _ _. 0) Ram c.args.verified.now c.args.interface.now c.args.level in
    most_none needed items c.loop-section.section-index c.loop-section.most _ c.loop-section-test.false c.loop-section.invariant.most
    ∙ ap (greatest needed) c.sections-section-items.ensures.sections
