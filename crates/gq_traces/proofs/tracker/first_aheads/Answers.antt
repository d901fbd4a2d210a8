-- The leaves stand at the start of their programs, one after the other.
use Rattle.std.proofs.Common.{◌∙◌, ◌+◌, ◌++◌, ◌∷◌, [], ap, sym, subst, take, arith}
use Rattle.std.proofs.lemmas.List.{take_all, take_more}
use Rattle.gq_model.specs.declared.section.Section.TheVariants.{Main}
use Rattle.gq_traces.specs.Step_positions.{ahead, body_in, start_aheads}
use Rattle.gq_traces.specs.internal.Flat.{AreAheads}
use Rattle.gq_traces.proofs.Leaves_standing.{at_start, next_component, one_more, programs_long}
use Rattle.gq_traces.proofs.tracker.first_aheads.Goals as goal

pub loop-numbered-preserved : goal.loop-numbered-preserved
loop-numbered-preserved c cs programs =
    let all = c.args.programs.now in
    let i = c.loop-numbered.numbered-index in
    let es = c.numbered-item.result in
    let less = c.loop-numbered-test.true in
    let n = next_component all cs i es programs less c.numbered-item.is in
    let starts = at_start es (body_in n.component Main) c.part.result c.new.result (c.part.ensures n.component.node.program.sections n.is) c.new.ensures.next
    c.new.ensures.loops in
    let more = take_more all i es less ∙ ap (λ (e : _). take i all ++ e ∷ []) (sym c.numbered-item.is) in
    subst (λ l. AreAheads l c.push.new.self.items (start_aheads (take (i + 1) cs))) (sym more)
    (subst (λ l. AreAheads (take i all ++ es ∷ []) l (start_aheads (take (i + 1) cs))) (sym c.in_ok-push.ensures.items)
    (subst (AreAheads (take i all ++ es ∷ []) (c.loop-numbered.aheads.items ++ c.new.result ∷ [])) (sym n.starts)
    (one_more (take i all) c.loop-numbered.aheads.items (start_aheads (take i cs)) es c.new.result (ahead (body_in n.component Main))
    (c.loop-numbered.invariant cs programs) starts)))

pub returns : goal.returns
returns c cs programs =
    let all = c.args.programs.now in
    let i = c.loop-numbered.numbered-index in
    let long = programs_long all cs programs in
    let over = c.loop-numbered-test.false in
    subst (λ l. AreAheads l c.loop-numbered.aheads.items (start_aheads cs)) (take_all i all over)
    (subst (λ l. AreAheads (take i all) c.loop-numbered.aheads.items (start_aheads l)) (take_all i cs (omega (arith, over, long)))
    (c.loop-numbered.invariant cs programs))
