-- All sections give what is asked, or one does not.
use Rattle.std.proofs.Common.{◌∙◌, ap, sym}
use Rattle.gq_model.specs.declared.section.Section.{Section}
use Rattle.gq_model.specs.machine.Lists.{all_of}
use Rattle.gq_model.specs.machine.Program.{Statements}
use Rattle.gq_verify.specs.Visits.{section_sights}
use Rattle.gq_verify.proofs.Sections_by_name.{there_now}
use Rattle.gq_sizes.specs.Gives.{gives_right}
use Rattle.gq_sizes.proofs.Giving_right.{all_end, all_here, all_next}
use Rattle.gq_sizes.proofs.gives.leaf_gives.Goals as goal

pub section_gives-requires : goal.section_gives-requires
section_gives-requires c =
    let items = c.sections-section-items.result.now in
    (there_now items items c.loop-section.section-index c.loop-section-item.result c.loop-section-test.true c.loop-section-item.is
    c.loop-section.invariant.there).0.fits

pub loop-section-preserved : goal.loop-section-preserved
loop-section-preserved c =
    let items = c.sections-section-items.result.now in
    let i = c.loop-section.section-index in
    let f = λ (p : Section × Statements). all_of (gives_right c.args.interfaces.now) (section_sights c.args.verified.now p.0) in
    record {
      right =
          all_next f items i (all_of f items) c.loop-section-item.result c.loop-section-test.true c.loop-section-item.is
          (sym c.section_gives.ensures ∙ c.if-not-section_gives.false) c.loop-section.invariant.right;
      there = (there_now items items i c.loop-section-item.result c.loop-section-test.true c.loop-section-item.is c.loop-section.invariant.there).1;
    }

pub returns-then-not-section_gives : goal.returns-then-not-section_gives
returns-then-not-section_gives c =
    let items = c.sections-section-items.result.now in
    let f = λ (p : Section × Statements). all_of (gives_right c.args.interfaces.now) (section_sights c.args.verified.now p.0) in
    all_here f items c.loop-section.section-index (all_of f items) c.loop-section-item.result c.loop-section-test.true c.loop-section-item.is
    (sym c.section_gives.ensures ∙ c.if-not-section_gives.true) c.loop-section.invariant.right
    ∙ ap (all_of f) c.sections-section-items.ensures.sections

pub returns : goal.returns
returns c =
    let items = c.sections-section-items.result.now in
    let f = λ (p : Section × Statements). all_of (gives_right c.args.interfaces.now) (section_sights c.args.verified.now p.0) in
    all_end f items c.loop-section.section-index (all_of f items) c.loop-section-test.false c.loop-section.invariant.right
    ∙ ap (all_of f) c.sections-section-items.ensures.sections
