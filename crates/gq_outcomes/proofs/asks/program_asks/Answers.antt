use Rattle.std.proofs.Common.{◌<◌, ◌+◌, ◌∙◌, ◌++◌, length, get_or, ◌∷◌, [], sym, ap, subst, take}
use Rattle.std.proofs.lemmas.List.{take_all, take_more}
use Rattle.gq_model.specs.machine.Program.{Program}
use Rattle.gq_views.specs.internal.Table_leaves.{served_by}
use Rattle.gq_outcomes.specs.internal.Asks.{AreOfSections}
use Rattle.gq_outcomes.proofs.keys.Section_asks.{narrow, sections_more}
use Rattle.gq_outcomes.proofs.asks.program_asks.Goals as goal

pub section_asks-requires : goal.section_asks-requires
section_asks-requires c =
    narrow c.program-program.result.now c.laws.ensures c.loop-section.section-index c.loop-section-item.result
    (subst (λ l. c.loop-section.section-index < length l) c.sections-section-items.ensures c.loop-section-test.true)
    (c.loop-section-item.is ∙ ap (λ l. get_or l c.loop-section.section-index c.loop-section-item.result) c.sections-section-items.ensures)

pub loop-section-preserved : goal.loop-section-preserved
loop-section-preserved c =
    let items = c.sections-section-items.result.now in
    let i = c.loop-section.section-index in
    let item = c.loop-section-item.result in
    let server = served_by c.args.client.now in
    let found = c.loop-section.all.items in
    subst (AreOfSections server (take (i + 1) items)) (sym c.in_ok-push.ensures.items)
    (subst (λ l. AreOfSections server l (found ++ c.in_ok-section_asks.field-0 ∷ []))
    (sym (take_more items i item c.loop-section-test.true ∙ ap (λ p. take i items ++ p ∷ []) (sym c.loop-section-item.is)))
    (sections_more server (take i items) found item c.in_ok-section_asks.field-0 c.loop-section.invariant c.in_ok-section_asks.ensures))

pub returns : goal.returns
returns c =
    subst (λ l. AreOfSections (served_by c.args.client.now) l c.loop-section.all.items)
    (take_all c.loop-section.section-index c.sections-section-items.result.now c.loop-section-test.false ∙ c.sections-section-items.ensures
    ∙ ap (λ (p : Program). p.sections) c.program-program.ensures)
    c.loop-section.invariant
