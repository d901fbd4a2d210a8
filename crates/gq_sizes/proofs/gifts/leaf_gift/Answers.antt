use Rattle.std.proofs.Common.{◌∙◌, ◌+◌, List, ap, sym, drop}
use Rattle.gq_model.specs.declared.section.Section.{Section}
use Rattle.gq_model.specs.machine.Program.{Statements, section_in}
use Rattle.gq_sizes.specs.Size.{gifts_in, least_gift}
use Rattle.gq_sizes.specs.Needing.{least_of}
use Rattle.gq_sizes.proofs.Least_gifts.{least_none, section_more}
use Rattle.gq_verify.proofs.List_remainders.{next_left, none_left}
use Rattle.gq_verify.proofs.Sections_by_name.{there_now}
use Rattle.gq_sizes.proofs.gifts.leaf_gift.Goals as goal

pub section_gift-least-requires : goal.section_gift-least-requires
section_gift-least-requires c =
    let items = c.sections-section-items.result.now in
    (there_now items items c.loop-section.section-index c.loop-section-item.result c.loop-section-test.true c.loop-section-item.is
    c.loop-section.invariant.there).0.fits

pub loop-section-preserved : goal.loop-section-preserved
loop-section-preserved c =
    let items = c.sections-section-items.result.now in
    let i = c.loop-section.section-index in
    let p = c.loop-section-item.result in
    let v = c.args.verified.now in
    let now = there_now items items i p c.loop-section-test.true c.loop-section-item.is c.loop-section.invariant.there in
    let found = ap (section_in p.0) (sym c.sections-section-items.ensures.sections) ∙ now.0.found in
    record {
      least =
          section_more c.args.service.now c.args.level v p (drop (i + 1) items) c.loop-section.least c.section_gift-least.result
          (least_of c.args.least (least_gift c.args.service.now c.args.level (gifts_in v items))) found c.section_gift-least.ensures
          (ap (λ (l : List (Section × Statements)). least_of c.loop-section.least (least_gift c.args.service.now c.args.level (gifts_in v l)))
          (sym (next_left items i p c.loop-section-test.true c.loop-section-item.is)) ∙ c.loop-section.invariant.least);
      there = now.1;
    }

pub returns : goal.returns
returns c =
    let items = c.sections-section-items.result.now in
    let v = c.args.verified.now in
    let least = λ (l : List (Section × Statements)). least_gift c.args.service.now c.args.level (gifts_in v l) in
    sym (least_none c.loop-section.least)
    ∙ (ap (λ (l : List (Section × Statements)). least_of c.loop-section.least (least l))
    (sym (none_left items c.loop-section.section-index c.loop-section-test.false))
    ∙ (c.loop-section.invariant.least ∙ ap (λ (l : List (Section × Statements)). least_of c.args.least (least l)) c.sections-section-items.ensures.sections))
