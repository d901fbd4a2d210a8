-- A section more, and at the end all.
use Rattle.std.proofs.Common.{◌∙◌, ap, map}
use Rattle.gq_verify.proofs.Sections_by_name.{there_now}
use Rattle.gq_sizes.specs.Donated.{section_donated, section_list}
use Rattle.gq_sizes.specs.Point_maxima.{given_in}
use Rattle.gq_sizes.proofs.Donated_lists.{list_all, list_more}
use Rattle.gq_sizes.proofs.donations.leaf_donations.Goals as goal

pub section_donations-requires : goal.section_donations-requires
section_donations-requires c =
    let items = c.sections-section-items.result.now in
    (there_now items items c.loop-section.section-index c.loop-section-item.result c.loop-section-test.true c.loop-section-item.is
    c.loop-section.invariant.there).0.fits

pub loop-section-preserved : goal.loop-section-preserved
loop-section-preserved c =
    let items = c.sections-section-items.result.now in
    let f = given_in c.args.needs.now.interfaces.now c.args.needs.now.sums.now in
    let d = c.in_ok-section_donations in
    record {
      made =
          list_more section_list (section_donated f c.args.verified.now) items c.loop-section.section-index c.loop-section-item.result
          c.loop-section.sections.items c.push.new.self.items d.field-0 c.loop-section-test.true c.loop-section-item.is c.in_ok-push.ensures.items
          (λ j. (d.ensures.section j, d.ensures.amounts j)) c.loop-section.invariant.made;
      there =
          (there_now items items c.loop-section.section-index c.loop-section-item.result c.loop-section-test.true c.loop-section-item.is
          c.loop-section.invariant.there).1;
    }

pub returns : goal.returns
returns c =
    let items = c.sections-section-items.result.now in
    let f = given_in c.args.needs.now.interfaces.now c.args.needs.now.sums.now in
    list_all section_list (section_donated f c.args.verified.now) items c.loop-section.section-index c.loop-section.sections.items
    c.loop-section-test.false c.loop-section.invariant.made
    ∙ ap (map (section_donated f c.args.verified.now)) c.sections-section-items.ensures.sections
