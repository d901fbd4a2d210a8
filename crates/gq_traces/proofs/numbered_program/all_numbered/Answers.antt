-- The programs are numbered one after the other.
use Rattle.std.proofs.Common.{◌+◌, ◌∙◌, ◌++◌, ◌∷◌, [], sym, ap, subst, take}
use Rattle.std.proofs.lemmas.List.{take_all, take_more}
use Rattle.gq_traces.specs.internal.Flat.{ArePrograms}
use Rattle.gq_traces.proofs.Sections_put.{more_programs}
use Rattle.gq_traces.proofs.numbered_program.all_numbered.Goals as goal

pub loop-program-preserved : goal.loop-program-preserved
loop-program-preserved c =
    let items = c.programs-program-items.result.now in
    let i = c.loop-program.program-index in
    let item = c.program-item.result in
    let all = c.loop-program.all.items in
    subst (λ l. ArePrograms l (take (i + 1) items)) (sym c.in_ok-push.ensures.items)
    (subst (ArePrograms (all ++ c.in_ok-of.field-0 ∷ []))
    (sym (take_more items i item c.loop-program-test.true ∙ ap (λ p. take i items ++ p ∷ []) (sym c.program-item.is)))
    (more_programs all (take i items) c.in_ok-of.field-0 item c.loop-program.invariant c.in_ok-of.ensures))

pub returns : goal.returns
returns c =
    subst (ArePrograms c.loop-program.all.items)
    (take_all c.loop-program.program-index c.programs-program-items.result.now c.loop-program-test.false ∙ c.programs-program-items.ensures)
    c.loop-program.invariant
