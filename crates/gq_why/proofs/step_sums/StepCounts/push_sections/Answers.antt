use Rattle.std.proofs.Common.{◌∙◌, ◌++◌, ap, append-nil, arith, get_or, length, subst, sym}
use Rattle.std.proofs.lemmas.Option.{slice_get_within}
use Rattle.gq_model.specs.declared.section.Section.TheVariants.{Main}
use Rattle.gq_model.specs.machine.Scenario.{Scenario, components, system}
use Rattle.gq_budget.specs.Times.{time_at}
use Rattle.gq_why.specs.Why.{section_lines}
use Rattle.gq_why.specs.internal.Step_parts.{AreCounts, Runs}
use Rattle.gq_why.proofs.Known_steps.{costs_known, counts_length, none_left}
use Rattle.gq_why.proofs.Step_sum_lines.{grown, section_here}
use Rattle.gq_why.proofs.step_sums.StepCounts.push_sections.Goals as goal

pub index-counted-requires : goal.index-counted-requires
index-counted-requires c =
    let f = c.self.inside in
    let bs = f.found.now.budgets.items in
    let many = counts_length f.free.now f.components.now f.found.now.surveys.counted.items f.found.now.routes bs c.self.invariant in
    let same = ap (λ (s : Scenario). length (components s)) c.self.view_is in
    let within = slice_get_within (components c.args.self.now) c.args.leaf c.args.component.now c.requires.there in
    omega (arith, many, same, within, c.index-place.ensures)

pub push_section-requires-clause-fits : goal.push_section-requires-clause-fits
push_section-requires-clause-fits c =
    let f = c.self.inside in
    let bs = f.found.now.budgets.items in
    let s = c.args.self.now in
    let ns = f.found.now.surveys.counted.items in
    let n = c.index-counted.result.now in
    let k = c.loop-part.part in
    let known = subst (λ (s : Scenario). AreCounts s f.components.now ns f.found.now.routes bs) c.self.view_is c.self.invariant in
    let read = c.index-counted.ensures ∙ ap (λ x. get_or ns x n) c.index-place.ensures in
    let often = c.often-times.ensures ∙ (ap (λ (r : Runs). time_at r.table c.index-place.result k) c.runs.view_is
    ∙ ap (λ x. time_at c.args.runs.now.table x k) c.index-place.ensures) in
    (costs_known s f.components.now ns f.found.now.routes bs known c.args.leaf c.args.component.now n c.requires.there read
    c.sections-section-items.result.now c.sections-section-items.ensures k c.args.runs.now c.requires.runs c.loop-part-test.true Main
    c.often-times.result c.cost-cost.result often c.cost-cost.ensures).2.fits

pub loop-part-preserved : goal.loop-part-preserved
loop-part-preserved c =
    let f = c.self.inside in
    let bs = f.found.now.budgets.items in
    let s = c.args.self.now in
    let ns = f.found.now.surveys.counted.items in
    let n = c.index-counted.result.now in
    let k = c.loop-part.part in
    let names = c.sections-section-items.result.now in
    let known = subst (λ (s : Scenario). AreCounts s f.components.now ns f.found.now.routes bs) c.self.view_is c.self.invariant in
    let read = c.index-counted.ensures ∙ ap (λ x. get_or ns x n) c.index-place.ensures in
    let often = c.often-times.ensures ∙ (ap (λ (r : Runs). time_at r.table c.index-place.result k) c.runs.view_is
    ∙ ap (λ x. time_at c.args.runs.now.table x k) c.index-place.ensures) in
    let p = costs_known s f.components.now ns f.found.now.routes bs known c.args.leaf c.args.component.now n c.requires.there read
    names c.sections-section-items.ensures k c.args.runs.now c.requires.runs c.loop-part-test.true Main c.often-times.result
    c.cost-cost.result often c.cost-cost.ensures in
    grown c.loop-part.text.items c.push_section.new.text.items _ _ _ c.in_ok-push_section.ensures
    (section_here c.args.runs.now.cause (system s) c.args.leaf c.args.component.now c.args.component.now.node.program.sections k (get_or names k Main)
    p.0 c.often-times.result c.cost-cost.result p.1 p.2.often p.2.each)
    ∙ c.loop-part.invariant

pub returns : goal.returns
returns c =
    let f = c.self.inside in
    let bs = f.found.now.budgets.items in
    let s = c.args.self.now in
    let d = c.args.component.now in
    let n = c.index-counted.result.now in
    let ns = f.found.now.surveys.counted.items in
    let now = c.loop-part.text.items in
    let known = subst (λ (s : Scenario). AreCounts s f.components.now ns f.found.now.routes bs) c.self.view_is c.self.invariant in
    let read = c.index-counted.ensures ∙ ap (λ x. get_or ns x n) c.index-place.ensures in
    let none = none_left s f.components.now ns f.found.now.routes bs known c.args.leaf d n c.requires.there read
    c.sections-section-items.result.now c.sections-section-items.ensures c.loop-part.part c.loop-part-test.false in
    sym (append-nil now) ∙ (ap (λ l. now ++ section_lines c.args.runs.now.cause (system s) c.args.leaf d l) (sym none) ∙ c.loop-part.invariant)
