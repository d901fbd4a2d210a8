-- Round by round.
use Rattle.std.proofs.Common.{◌≡◌, ◌∙◌, ◌-◌, ◌+◌, suc, refl, ap, subst, arith}
use Rattle.std.proofs.lemmas.Result.{err_from_is_err_and}
use Rattle.gq_output.specs.Writes.{IsRaised}
use Rattle.gq_model.specs.machine.Scenario.{Scenario, components, system}
use Rattle.gq_model.specs.machine.Rest.{as_acts, round, to_rest}
use Rattle.gq_model.specs.machine.Run.{run_on}
use Rattle.gq_world.specs.internal.Act_transitions.{HasRun, IsCut}
use Rattle.gq_world.proofs.Rest_runs.{RoundsLeft, rounds_cut, rounds_end, rounds_on, rounds_over}
use Rattle.gq_world.proofs.Turn_sequence_runs.{starts}
use Rattle.gq_world.proofs.to_rest.take_rest.Goals as goal

pub loop-round-init : goal.loop-round-init
unfolding to_rest
loop-round-init g c =
    let old = c.args.world.now in
    record {
      scenario = refl;
      signals = omega arith;
      running = c.requires.running;
      left = starts (run_on (system old.scenario) (as_acts (to_rest (system old.scenario) old.world).turns)) old (g.W.Write.contents c.args.out.now.writer)
          c.requires.running;
      counted = refl;
    }

pub returns-in_err-rest : goal.returns-in_err-rest
returns-in_err-rest g c =
    let old = c.args.world.now in
    let sys = system old.scenario in
    let l = c.loop-round in
    let t = c.take_round in
    let a = g.W.Write.contents c.args.out.now.writer in
    let b = g.W.Write.contents l.out.writer in
    let d = g.W.Write.contents t.new.out.writer in
    let all = run_on sys (as_acts (to_rest sys old.world).turns) in
    let p = err_from_is_err_and c.from_residual.result c.from_residual.ensures.1 in
    let e = t.ensures in
    let some : 1000001 - l._round ≡ suc (1000001 - (l._round + 1)) = omega (arith, c.loop-round-test.true) in
    let left = subst (λ m. RoundsLeft sys m l.left all old l.world a b) some l.invariant.left in
    let cut = subst (λ (s : Scenario). IsCut (run_on (system s) (as_acts (round (system s) l.left l.world.world 0 (components s)).turns)) l.world b d)
    l.invariant.scenario c.in_err-rest.ensures.runs.cut in
    rw (p.1) (record {
      scenario = e.runs.scenario ∙ l.invariant.scenario;
      signals = (let few = l.invariant.signals in let more = e.runs.signals in omega (arith, few, more));
      ran = tt;
      counted = tt;
      cut = rounds_cut sys (1000001 - (l._round + 1)) l.left all old l.world a b d left cut;
      raised = subst (λ n. IsRaised n t.new.out.failures) l.invariant.counted c.in_err-rest.ensures.runs.raised;
    })

pub returns-then-rest-left : goal.returns-then-rest-left
returns-then-rest-left g c =
    let old = c.args.world.now in
    let sys = system old.scenario in
    let l = c.loop-round in
    let t = c.take_round in
    let a = g.W.Write.contents c.args.out.now.writer in
    let b = g.W.Write.contents l.out.writer in
    let d = g.W.Write.contents t.new.out.writer in
    let all = run_on sys (as_acts (to_rest sys old.world).turns) in
    let e = c.in_ok-rest.ensures in
    let some : 1000001 - l._round ≡ suc (1000001 - (l._round + 1)) = omega (arith, c.loop-round-test.true) in
    let left = subst (λ m. RoundsLeft sys m l.left all old l.world a b) some l.invariant.left in
    let ran = subst (λ (s : Scenario). HasRun (run_on (system s) (as_acts (round (system s) l.left l.world.world 0 (components s)).turns)) l.world t.new.world
    b d)
    l.invariant.scenario e.runs.ran in
    let left_is = e.left ∙ ap (λ (s : Scenario). (round (system s) l.left l.world.world 0 (components s)).left) l.invariant.scenario in
    record {
      scenario = e.runs.scenario ∙ l.invariant.scenario;
      signals = (let few = l.invariant.signals in let more = e.runs.signals in omega (arith, few, more));
      ran = rounds_over sys (1000001 - (l._round + 1)) l.left all old l.world a b t.new.world c.in_ok-rest.rest d left_is c.if-rest-left.true left ran;
      counted = e.runs.counted ∙ l.invariant.counted;
      cut = tt;
      raised = tt;
    }

pub loop-round-preserved : goal.loop-round-preserved
loop-round-preserved g c =
    let old = c.args.world.now in
    let sys = system old.scenario in
    let l = c.loop-round in
    let t = c.take_round in
    let a = g.W.Write.contents c.args.out.now.writer in
    let b = g.W.Write.contents l.out.writer in
    let d = g.W.Write.contents t.new.out.writer in
    let all = run_on sys (as_acts (to_rest sys old.world).turns) in
    let e = c.in_ok-rest.ensures in
    let some : 1000001 - l._round ≡ suc (1000001 - (l._round + 1)) = omega (arith, c.loop-round-test.true) in
    let left = subst (λ m. RoundsLeft sys m l.left all old l.world a b) some l.invariant.left in
    let ran = subst (λ (s : Scenario). HasRun (run_on (system s) (as_acts (round (system s) l.left l.world.world 0 (components s)).turns)) l.world t.new.world
    b d)
    l.invariant.scenario e.runs.ran in
    let left_is = e.left ∙ ap (λ (s : Scenario). (round (system s) l.left l.world.world 0 (components s)).left) l.invariant.scenario in
    let world_is = e.world ∙ ap (λ (s : Scenario). (round (system s) l.left l.world.world 0 (components s)).world) l.invariant.scenario in
    record {
      scenario = e.runs.scenario ∙ l.invariant.scenario;
      signals = (let few = l.invariant.signals in let more = e.runs.signals in omega (arith, few, more));
      running = e.runs.ran.running;
      left = rounds_on sys (1000001 - (l._round + 1)) l.left all old l.world a b t.new.world c.in_ok-rest.rest d left_is world_is c.if-rest-left.false left ran;
      counted = e.runs.counted ∙ l.invariant.counted;
    }

pub returns : goal.returns
returns g c =
    let old = c.args.world.now in
    let sys = system old.scenario in
    let l = c.loop-round in
    let all = run_on sys (as_acts (to_rest sys old.world).turns) in
    record {
      scenario = l.invariant.scenario;
      signals = (let few = l.invariant.signals in omega (arith, few));
      ran = rounds_end sys (1000001 - l._round) l.left all old l.world (g.W.Write.contents c.args.out.now.writer) (g.W.Write.contents l.out.writer)
          (omega (arith, c.loop-round-test.false)) l.invariant.left;
      counted = l.invariant.counted;
      cut = tt;
      raised = tt;
    }
