use Rattle.std.proofs.Common.{[], ◌∙◌, ◌++◌, ap, append-nil, arith, get_or, length, subst, sym}
use Rattle.std.proofs.lemmas.Option.{slice_get_within}
use Rattle.gq_model.specs.declared.section.Section.TheVariants.{Main}
use Rattle.gq_model.specs.machine.Scenario.{Scenario, components, system}
use Rattle.gq_verify.specs.Saturated_numbers.{saturated}
use Rattle.gq_verify.specs.Requested.{requests_for}
use Rattle.gq_budget.specs.Times.{time_at}
use Rattle.gq_why.specs.Why.{asker_line, asker_lines}
use Rattle.gq_why.specs.internal.Step_parts.{AreCounts, Runs}
use Rattle.gq_why.proofs.Known_steps.{counts_length, none_left, requests_known}
use Rattle.gq_why.proofs.Step_sum_lines.{asker_here, grown, users_none, users_there}
use Rattle.gq_why.proofs.step_sums.StepCounts.push_user.Goals as goal

pub returns-then-not-uses : goal.returns-then-not-uses
returns-then-not-uses c =
    let none = users_none c.args.runs.now.cause (system c.args.self.now) c.args.leaf c.args.service.now c.args.asked c.args.user c.args.component.now
    (sym c.uses.ensures ∙ c.if-not-uses.true) in
    sym (ap (λ l. c.args.text.now.items ++ l) none ∙ append-nil c.args.text.now.items)

pub index-counted-requires : goal.index-counted-requires
index-counted-requires c =
    let f = c.self.inside in
    let bs = f.found.now.budgets.items in
    let many = counts_length f.free.now f.components.now f.found.now.surveys.counted.items f.found.now.routes bs c.self.invariant in
    let same = ap (λ (s : Scenario). length (components s)) c.self.view_is in
    let within = slice_get_within (components c.args.self.now) c.args.user c.args.component.now c.requires.there in
    omega (arith, many, same, within)

pub push_asker-requires : goal.push_asker-requires
push_asker-requires c =
    let f = c.self.inside in
    let bs = f.found.now.budgets.items in
    let s = c.args.self.now in
    let ns = f.found.now.surveys.counted.items in
    let n = c.index-counted.result.now in
    let k = c.loop-part.part in
    let known = subst (λ (s : Scenario). AreCounts s f.components.now ns f.found.now.routes bs) c.self.view_is c.self.invariant in
    let asked = c.requests_for-requests.ensures ∙ ap (λ v. saturated (requests_for (get_or n.requests k []) v c.args.asked))
    (c.new-named.ensures ∙ c.as_bytes.ensures.bytes) in
    let often = c.often-times.ensures ∙ ap (λ (r : Runs). time_at r.table c.args.user k) c.runs.view_is in
    (requests_known s f.components.now ns f.found.now.routes bs known c.args.user c.args.component.now n c.requires.there c.index-counted.ensures
    c.sections-section-items.result.now c.sections-section-items.ensures k c.args.runs.now c.requires.runs c.loop-part-test.true Main c.args.service.now
    c.args.asked c.often-times.result c.requests_for-requests.result often asked).2.fits

pub loop-part-preserved : goal.loop-part-preserved
loop-part-preserved c =
    let f = c.self.inside in
    let bs = f.found.now.budgets.items in
    let s = c.args.self.now in
    let ns = f.found.now.surveys.counted.items in
    let n = c.index-counted.result.now in
    let k = c.loop-part.part in
    let known = subst (λ (s : Scenario). AreCounts s f.components.now ns f.found.now.routes bs) c.self.view_is c.self.invariant in
    let asked = c.requests_for-requests.ensures ∙ ap (λ v. saturated (requests_for (get_or n.requests k []) v c.args.asked))
    (c.new-named.ensures ∙ c.as_bytes.ensures.bytes) in
    let often = c.often-times.ensures ∙ ap (λ (r : Runs). time_at r.table c.args.user k) c.runs.view_is in
    let names = c.sections-section-items.result.now in
    let p = requests_known s f.components.now ns f.found.now.routes bs known c.args.user c.args.component.now n c.requires.there c.index-counted.ensures
    names c.sections-section-items.ensures k c.args.runs.now c.requires.runs c.loop-part-test.true Main c.args.service.now c.args.asked
    c.often-times.result c.requests_for-requests.result often asked in
    let put = c.in_ok-push_asker.ensures
    ∙ ap (λ (r : Runs). c.loop-part.text.items ++ asker_line r.cause c.label.result.now (get_or names k Main) c.often-times.result
    c.requests_for-requests.result) c.runs.view_is in
    grown c.loop-part.text.items c.push_asker.new.text.items _ _ _ put
    (asker_here c.args.runs.now.cause (system s) c.args.user c.args.component.now c.args.service.now c.args.asked
    c.args.component.now.node.program.sections k (get_or names k Main) p.0 c.label.result.now c.often-times.result c.requests_for-requests.result
    p.1 c.label.ensures p.2.often p.2.each)
    ∙ c.loop-part.invariant

pub returns : goal.returns
returns c =
    let f = c.self.inside in
    let bs = f.found.now.budgets.items in
    let s = c.args.self.now in
    let d = c.args.component.now in
    let ns = f.found.now.surveys.counted.items in
    let old = c.args.text.now.items in
    let now = c.loop-part.text.items in
    let lines = asker_lines c.args.runs.now.cause (system s) c.args.user d c.args.service.now c.args.asked in
    let known = subst (λ (s : Scenario). AreCounts s f.components.now ns f.found.now.routes bs) c.self.view_is c.self.invariant in
    let none = none_left s f.components.now ns f.found.now.routes bs known c.args.user d c.index-counted.result.now c.requires.there c.index-counted.ensures
    c.sections-section-items.result.now c.sections-section-items.ensures c.loop-part.part c.loop-part-test.false in
    let all = users_there c.args.runs.now.cause (system s) c.args.leaf c.args.service.now c.args.asked c.args.user d
    (sym c.uses.ensures ∙ c.if-not-uses.false) in
    sym (append-nil now) ∙ (ap (λ l. now ++ lines l) (sym none) ∙ (c.loop-part.invariant ∙ ap (λ l. old ++ l) (sym all)))
