use Rattle.std.proofs.Common.{◌∙◌, ap, sym}
use Rattle.std.specs.Prelude.{get_or}
use Rattle.gq_outcomes.specs.declared.asks.Asks.TheVariants as asks
use Rattle.gq_outcomes.proofs.keys.Section_asks.{at_place, none_found, part_past}
use Rattle.gq_outcomes.proofs.asks.asks_at.Goals as goal

pub returns-then-same_section : goal.returns-then-same_section
returns-then-same_section c server sections h =
    let l = c.loop-part in
    c.asks_of_place.ensures ∙ ap (λ xs. get_or xs c.args.place asks.Nothing) c.as_slice.ensures.value
    ∙ at_place server c.args.section sections c.args.program.now l.part-index c.part-item.result h c.loop-part-test.true c.part-item.is
    (l.invariant server sections h) (sym c.same_section.ensures ∙ c.if-same_section.true) c.args.place

pub loop-part-preserved : goal.loop-part-preserved
loop-part-preserved c server sections h =
    let l = c.loop-part in
    part_past server c.args.section sections c.args.program.now l.part-index c.part-item.result h c.loop-part-test.true c.part-item.is
    (l.invariant server sections h) (sym c.same_section.ensures ∙ c.if-same_section.false)

pub returns : goal.returns
returns c server sections h =
    let l = c.loop-part in
    none_found server c.args.section sections c.args.program.now l.part-index c.args.place h c.loop-part-test.false (l.invariant server sections h)
