use Rattle.std.proofs.Common.{◌∙◌, length, subst, arith}
use Rattle.std.proofs.lemmas.Result.{err_from_is_err_and}
use Rattle.gq_output.specs.Writes.{IsRaised}
use Rattle.gq_model.specs.machine.Scenario.{components}
use Rattle.gq_world.proofs.Turn_sequence_runs.{here_is, below_at, goes_on_all, cut_all}
use Rattle.gq_world.proofs.run.take_all.Goals as goal

pub returns-in_err-take_line : goal.returns-in_err-take_line
returns-in_err-take_line g c =
    let l = c.loop-item in
    let t = c.item-item.result in
    let a = g.W.Write.contents c.args.out.now.writer in
    let b = g.W.Write.contents l.out.writer in
    let d = g.W.Write.contents c.take_line.new.out.writer in
    let p = err_from_is_err_and c.from_residual.result c.from_residual.ensures.1 in
    let here = here_is c.args.turns.now l.item-index t c.loop-item-test.true c.item-item.is in
    let cut = rw (c.line.ensures) at c.in_err-take_line.ensures.cut in
    rw (p.1) (record {
      scenario = c.take_line.ensures.scenario ∙ l.invariant.scenario;
      signals = (let few = l.invariant.signals in let more = c.take_line.ensures.signals in omega (arith, few, more, c.loop-item-test.true));
      ran = tt;
      counted = tt;
      cut = cut_all c.args.world.now.scenario c.args.turns.now l.item-index t here c.args.world.now l.world c.take_line.new.world l.invariant.scenario a b d
          l.invariant.left cut;
      raised = subst (λ n. IsRaised n c.take_line.new.out.failures) l.invariant.counted c.in_err-take_line.ensures.raised;
    })

pub loop-item-preserved : goal.loop-item-preserved
loop-item-preserved g c =
    let l = c.loop-item in
    let t = c.item-item.result in
    let a = g.W.Write.contents c.args.out.now.writer in
    let b = g.W.Write.contents l.out.writer in
    let d = g.W.Write.contents c.take_line.new.out.writer in
    let here = here_is c.args.turns.now l.item-index t c.loop-item-test.true c.item-item.is in
    let e = c.in_ok-take_line.ensures in
    let ran = rw (c.line.ensures) at e.ran in
    record {
      scenario = e.scenario ∙ l.invariant.scenario;
      signals = (let few = l.invariant.signals in let more = e.signals in omega (arith, few, more));
      below = (below_at (length (components c.args.world.now.scenario)) c.args.turns.now l.item-index t here l.invariant.below).1;
      left = goes_on_all c.args.world.now.scenario c.args.turns.now l.item-index t here c.args.world.now l.world c.take_line.new.world l.invariant.scenario a b
          d l.invariant.left ran;
      counted = e.counted ∙ l.invariant.counted;
    }
