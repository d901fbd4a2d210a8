-- A section is found.
use Rattle.std.proofs.Common.{◌∙◌, ◌∷◌, ◌+◌, drop, get_or, ap, sym, None}
use Rattle.std.proofs.lemmas.List.{drop_all, drop_more}
use Rattle.gq_model.specs.declared.section.Section.TheVariants.{Main}
use Rattle.gq_traces.specs.declared.numbered_program.NumberedSection.{NumberedSection}
use Rattle.gq_traces.proofs.Sections_put.{found_part, left_next, none_found}
use Rattle.gq_traces.proofs.numbered_program.NumberedProgram.part.Goals as goal

abbrev blank : NumberedSection
blank = record { section = Main; first = None; size = 0 }

pub loop-k-preserved : goal.loop-k-preserved
loop-k-preserved c =
    let ps = c.as_slice-parts.result.now in
    let k = c.loop-k.k in
    let value = c.as_slice-parts.ensures.value in
    left_next c.args.self.now c.args.section k (get_or ps k blank)
    (ap (drop k) (sym value) ∙ drop_more ps k blank c.loop-k-test.true ∙ ap (λ l. get_or ps k blank ∷ drop (k + 1) l) value)
    (sym c.same_section.ensures ∙ c.if-same_section.false) c.loop-k.invariant

pub returns-then-same_section : goal.returns-then-same_section
returns-then-same_section c =
    let ps = c.as_slice-parts.result.now in
    let k = c.loop-k.k in
    let value = c.as_slice-parts.ensures.value in
    found_part c.args.self.now c.args.section k (get_or ps k blank)
    (ap (drop k) (sym value) ∙ drop_more ps k blank c.loop-k-test.true ∙ ap (λ l. get_or ps k blank ∷ drop (k + 1) l) value)
    (sym c.same_section.ensures ∙ c.if-same_section.true) c.loop-k.invariant

pub returns : goal.returns
returns c =
    none_found c.args.self.now c.args.section c.loop-k.k
    (ap (drop c.loop-k.k) (sym c.as_slice-parts.ensures.value) ∙ drop_all c.loop-k.k c.as_slice-parts.result.now c.loop-k-test.false) c.loop-k.invariant
