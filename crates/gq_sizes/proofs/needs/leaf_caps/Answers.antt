use Rattle.std.proofs.Common.{◌≡◌, ◌∙◌, max, ap, sym}
use Rattle.std.specs.Prelude.{if◌then◌else◌}
use Rattle.gq_model.specs.machine.Amounts.{Caps}
use Rattle.gq_model.specs.machine.Lists.{greatest}
use Rattle.gq_model.specs.machine.Program.{section_in}
use Rattle.gq_verify.specs.Saturated_numbers.{saturated}
use Rattle.gq_sizes.specs.Size.{is_up_to, section_points, session_cost}
use Rattle.gq_sizes.specs.Point_maxima.{given_in}
use Rattle.gq_sizes.specs.Needing.{section_needed}
use Rattle.gq_sizes.proofs.Maximum_search.{counts_kept, counts_kept_not, kept_more, kept_none}
use Rattle.gq_verify.proofs.Sections_by_name.{there_now}
use Rattle.gq_sizes.proofs.needs.leaf_caps.Goals as goal
use Rattle.gq_sizes.proofs.needs.leaf_caps.Goals.{then-is_up_to, else-is_up_to}

pub most_caps-requires : goal.most_caps-requires
most_caps-requires c =
    let items = c.sections-section-items.result.now in
    (there_now items items c.loop-section.section-index c.loop-section-item.result c.loop-section-test.true c.loop-section-item.is
    c.loop-section.invariant.there).0.fits

pub loop-section-preserved : goal.loop-section-preserved
loop-section-preserved c =
    let items = c.sections-section-items.result.now in
    let i' = c.loop-section.section-index in
    let p = c.loop-section-item.result in
    let v = c.args.verified.now in
    let given = given_in c.args.given.now.interfaces.now c.args.given.now.sums.now in
    let now = there_now items items i' p c.loop-section-test.true c.loop-section-item.is c.loop-section.invariant.there in
    let found = ap (section_in p.0) (sym c.sections-section-items.ensures.sections) ∙ now.0.found in
    record {
      most = λ i.
          let need = greatest (session_cost given Caps i) (section_points v p.0) in
          let next : c.if-is_up_to.most ≡ max c.loop-section.most (saturated (if is_up_to c.args.level p.0 then need else 0)) =
          elim c.if-is_up_to.branch [
            | then-is_up_to w ↦
                counts_kept (is_up_to c.args.level p.0) need w.most_caps.result c.loop-section.most c.if-is_up_to.most
                (sym c.is_up_to.ensures ∙ w.if-is_up_to.true) (w.most_caps.ensures p.1 i found) (w.most-is ∙ w.max-most.ensures)
            | else-is_up_to w ↦
                counts_kept_not (is_up_to c.args.level p.0) need c.loop-section.most c.if-is_up_to.most
                (sym c.is_up_to.ensures ∙ w.if-is_up_to.false) w.most-is
          ] in
          kept_more (section_needed given Caps v i c.args.level) items i' p c.loop-section.most c.if-is_up_to.most _ c.loop-section-test.true
          c.loop-section-item.is next
          (c.loop-section.invariant.most i);
      there = now.1;
    }

pub returns : goal.returns
returns c i =
    let items = c.sections-section-items.result.now in
    let given = given_in c.args.given.now.interfaces.now c.args.given.now.sums.now in
    let needed = section_needed given Caps c.args.verified.now i c.args.level in
    kept_none needed items c.loop-section.section-index c.loop-section.most _ c.loop-section-test.false (c.loop-section.invariant.most i)
    ∙ ap (λ l. saturated (greatest needed l)) c.sections-section-items.ensures.sections
