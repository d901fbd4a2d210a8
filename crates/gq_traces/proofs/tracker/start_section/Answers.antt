-- At the start of a section.
use Rattle.std.proofs.Common.{◌∙◌, ap, get_or, subst, sym}
use Rattle.std.specs.Prelude.{slice_set}
use Rattle.gq_traces.specs.Step_positions.{ahead, body_in}
use Rattle.gq_traces.specs.internal.Flat.{AreAheads}
use Rattle.gq_traces.proofs.Leaves_standing.{at_start, program_at, stands_now}
use Rattle.gq_traces.proofs.tracker.start_section.Goals as goal

pub returns : goal.returns
returns c cs d ts programs there aheads =
    let all = c.args.programs.now in
    let es = c.index-programs-index.result in
    let x = c.args.leaf in
    let is = c.index-programs-index.is ∙ ap (λ k. get_or all k es) c.index.ensures in
    let body = body_in d c.args.section in
    let starts = at_start es body c.part-part.result c.new.result
    (c.part-part.ensures d.node.program.sections (program_at all cs x es d programs c.requires.leaf is there)) c.new.ensures.next c.new.ensures.loops in
    subst (λ k. AreAheads all (slice_set c.args.aheads.now k c.new.result) (slice_set ts x (ahead body))) (sym c.index-2.ensures)
    (stands_now all c.args.aheads.now ts x es c.new.result (ahead body) aheads c.requires.leaf is starts)
