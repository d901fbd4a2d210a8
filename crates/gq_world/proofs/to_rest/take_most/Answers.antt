-- The turns that a leaf can take, and its steps before and after them.
use Rattle.std.proofs.Common.{arith}
use Rattle.std.proofs.lemmas.Result.{err_from_is_err_and}
use Rattle.gq_model.specs.machine.Scenario.{system}
use Rattle.gq_world.proofs.Rest_runs.{most_cut, most_few, most_ran, most_taken}
use Rattle.gq_world.proofs.to_rest.take_most.Goals as goal

pub returns-in_err-take_turns-clause-runs : goal.returns-in_err-take_turns-clause-runs
returns-in_err-take_turns-clause-runs g c =
    let old = c.args.world.now in
    let sys = system old.scenario in
    let x = c.args.leaf in
    let a = g.W.Write.contents c.args.out.now.writer in
    let b = g.W.Write.contents c.take_turns.new.out.writer in
    let p = err_from_is_err_and c.from_residual.result c.from_residual.ensures.1 in
    let e = c.take_turns.ensures in
    rw (p.1) (record {
      scenario = e.scenario;
      signals = e.signals;
      ran = tt;
      counted = tt;
      cut = most_cut sys x c.args.most (λ w. c.turn_laws.ensures.idle sys w x) (λ w. c.turn_laws.ensures.counted sys w x) old c.take_turns.new.world a b
          c.in_err-take_turns.ensures.cut;
      raised = c.in_err-take_turns.ensures.raised;
    })

pub overflow_sub-result : goal.overflow_sub-result
overflow_sub-result g c =
    let old = c.args.world.now in
    let sys = system old.scenario in
    (most_few sys c.args.leaf c.args.most (λ w. c.turn_laws.ensures.idle sys w c.args.leaf) (λ w. c.turn_laws.ensures.counted sys w c.args.leaf) old
    c.take_turns.new.world _ _ c.in_ok-take_turns.ensures.ran c.steps-before.result c.steps.result c.steps-before.ensures c.steps.ensures).0

pub overflow_cast-result : goal.overflow_cast-result
overflow_cast-result g c =
    let old = c.args.world.now in
    let sys = system old.scenario in
    let few = (most_few sys c.args.leaf c.args.most (λ w. c.turn_laws.ensures.idle sys w c.args.leaf) (λ w. c.turn_laws.ensures.counted sys w c.args.leaf) old
    c.take_turns.new.world _ _ c.in_ok-take_turns.ensures.ran c.steps-before.result c.steps.result c.steps-before.ensures c.steps.ensures).1 in
    omega (arith, few, c.ranges.most.fits)

pub returns-clause-runs : goal.returns-clause-runs
returns-clause-runs g c =
    let old = c.args.world.now in
    let sys = system old.scenario in
    let e = c.in_ok-take_turns.ensures in
    record {
      scenario = e.scenario;
      signals = e.signals;
      ran = most_ran sys c.args.leaf c.args.most (λ w. c.turn_laws.ensures.idle sys w c.args.leaf) (λ w. c.turn_laws.ensures.counted sys w c.args.leaf) old
          c.take_turns.new.world _ _ e.ran;
      counted = e.counted;
      cut = tt;
      raised = tt;
    }

pub returns-clause-taken : goal.returns-clause-taken
returns-clause-taken g c =
    let old = c.args.world.now in
    let sys = system old.scenario in
    most_taken sys c.args.leaf c.args.most (λ w. c.turn_laws.ensures.idle sys w c.args.leaf) (λ w. c.turn_laws.ensures.counted sys w c.args.leaf) old
    c.take_turns.new.world _ _ c.in_ok-take_turns.ensures.ran c.steps-before.result c.steps.result c.steps-before.ensures c.steps.ensures

pub returns-clause-few : goal.returns-clause-few
returns-clause-few g c =
    let old = c.args.world.now in
    let sys = system old.scenario in
    (most_few sys c.args.leaf c.args.most (λ w. c.turn_laws.ensures.idle sys w c.args.leaf) (λ w. c.turn_laws.ensures.counted sys w c.args.leaf) old
    c.take_turns.new.world _ _ c.in_ok-take_turns.ensures.ran c.steps-before.result c.steps.result c.steps-before.ensures c.steps.ensures).1
