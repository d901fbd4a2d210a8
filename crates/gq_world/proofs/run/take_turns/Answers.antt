use Rattle.std.proofs.Common.{◌∙◌, subst, arith}
use Rattle.std.proofs.lemmas.Result.{err_from_is_err_and}
use Rattle.gq_output.specs.Writes.{IsRaised}
use Rattle.gq_model.specs.machine.Run.{turns_of}
use Rattle.gq_model.specs.machine.Scenario.{system}
use Rattle.gq_world.proofs.Turn_sequence_runs.{cut_on, goes_on}
use Rattle.gq_world.proofs.run.take_turns.Goals as goal

pub returns-in_err-left : goal.returns-in_err-left
returns-in_err-left g c =
    let l = c.loop-left in
    let s = c.args.world.now.scenario in
    let x = c.args.leaf in
    let a = g.W.Write.contents c.args.out.now.writer in
    let b = g.W.Write.contents l.out.writer in
    let d = g.W.Write.contents c.turns.new.out.writer in
    let p = err_from_is_err_and c.from_residual.result c.from_residual.ensures.1 in
    rw (p.1) (record {
      scenario = c.turns.ensures.scenario ∙ l.invariant.scenario;
      signals = (let same = c.turns.ensures.signals ∙ l.invariant.signals in omega (arith, same));
      ran = tt;
      counted = tt;
      cut = cut_on s x l.left 0 (omega arith) (turns_of (system s) x c.args.count) c.args.world.now l.world c.turns.new.self l.invariant.scenario a b d
          l.invariant.left c.in_err-left.ensures.cut;
      raised = subst (λ n. IsRaised n c.turns.new.out.failures) l.invariant.counted c.in_err-left.ensures.raised;
    })

pub loop-left-preserved : goal.loop-left-preserved
loop-left-preserved g c =
    let l = c.loop-left in
    let s = c.args.world.now.scenario in
    let x = c.args.leaf in
    let a = g.W.Write.contents c.args.out.now.writer in
    let b = g.W.Write.contents l.out.writer in
    let d = g.W.Write.contents c.turns.new.out.writer in
    let e = c.in_ok-left.ensures in
    let few = e.left in
    let less = l.invariant.few in
    record {
      scenario = e.scenario ∙ l.invariant.scenario;
      signals = c.turns.ensures.signals ∙ l.invariant.signals;
      few = omega (arith, few, less);
      left = goes_on s x l.left c.in_ok-left.left few (turns_of (system s) x c.args.count) c.args.world.now l.world c.turns.new.self l.invariant.scenario a b d
          l.invariant.left e.ran;
      counted = e.counted ∙ l.invariant.counted;
    }
