-- Each section fits.
use Rattle.std.proofs.Common.{◌∙◌, ◌++◌, ◌∷◌, [], sym, ap, subst, take}
use Rattle.std.proofs.lemmas.List.{take_all, take_more}
use Rattle.gq_traces.specs.internal.Flat.{AreParts}
use Rattle.gq_traces.proofs.Sections_put.{AllFit, fits_at, program_fits}
use Rattle.gq_traces.proofs.numbered_program.NumberedProgram.of.Goals as goal

pub put_section-requires-clause-few : goal.put_section-requires-clause-few
put_section-requires-clause-few c =
    (fits_at c.sections-section-items.result.now c.loop-section.section-index c.loop-section-item.result
    (subst AllFit (sym c.sections-section-items.ensures) (program_fits c.args.program.now c.laws.ensures)) c.loop-section-test.true c.loop-section-item.is).few

pub put_section-requires-clause-deep : goal.put_section-requires-clause-deep
put_section-requires-clause-deep c =
    (fits_at c.sections-section-items.result.now c.loop-section.section-index c.loop-section-item.result
    (subst AllFit (sym c.sections-section-items.ensures) (program_fits c.args.program.now c.laws.ensures)) c.loop-section-test.true c.loop-section-item.is).deep

pub loop-section-preserved : goal.loop-section-preserved
loop-section-preserved c =
    let items = c.sections-section-items.result.now in
    let i = c.loop-section.section-index in
    let item = c.loop-section-item.result in
    subst (AreParts c.put_section.new.self)
    (sym (take_more items i item c.loop-section-test.true ∙ ap (λ s. take i items ++ s ∷ []) (sym c.loop-section-item.is)))
    (c.in_ok-put_section.ensures (take i items) c.loop-section.invariant)

pub returns : goal.returns
returns c =
    subst (AreParts c.loop-section.numbered)
    (take_all c.loop-section.section-index c.sections-section-items.result.now c.loop-section-test.false ∙ c.sections-section-items.ensures)
    c.loop-section.invariant
