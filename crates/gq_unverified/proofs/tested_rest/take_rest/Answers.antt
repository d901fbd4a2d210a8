-- Round by round.
use Rattle.std.proofs.Common.{◌≡◌, ◌∙◌, ◌-◌, ◌+◌, ◌≤◌, suc, None, refl, ap, sym, subst, arith, length}
use Rattle.gq_model.specs.machine.Scenario.{Scenario, components, system}
use Rattle.gq_model.specs.machine.Rest.{as_acts, round, to_rest}
use Rattle.gq_model.specs.machine.Run.{run_on}
use Rattle.gq_world.proofs.Rest_runs.{RoundsLeft, rounds_cut, rounds_end, rounds_on, rounds_over}
use Rattle.gq_world.proofs.Turn_sequence_runs as code
use Rattle.gq_unverified.specs.internal.Taking.{HasCome, IsCut}
use Rattle.gq_unverified.proofs.Tested_step_counts.{from_ok, near_both, near_same, room_left}
use Rattle.gq_unverified.proofs.Tested_rest_runs.{as_world, from_cut, from_run, to_cut, to_run}
use Rattle.gq_unverified.proofs.tested_rest.take_rest.Goals as goal

pub loop-round-init : goal.loop-round-init
unfolding to_rest
loop-round-init g c =
    let m = c.args.machine.now in
    let w = as_world m.scenario m.world in
    record {
      scenario = refl;
      few = omega arith;
      near = near_same m.world m.world 0 refl;
      left = code.starts (run_on (system m.scenario) (as_acts (to_rest (system m.scenario) m.world).turns)) w (g.W.Write.contents c.args.out.now.writer) refl;
      counted = refl;
    }

pub returns-in-Ok-clause-come : goal.returns-in-Ok-clause-come
returns-in-Ok-clause-come g c =
    let m = c.args.machine.now in
    let s = m.scenario in
    let l = c.loop-round in
    let t = c.take_round.new.machine in
    let a = g.W.Write.contents c.args.out.now.writer in
    let b = g.W.Write.contents l.out.writer in
    let d = g.W.Write.contents c.take_round.new.out.writer in
    let all = run_on (system s) (as_acts (to_rest (system s) m.world).turns) in
    let e = c.in-Ok.ensures in
    let some : 1000001 - l._round ≡ suc (1000001 - (l._round + 1)) = omega (arith, c.loop-round-test.true) in
    let left = subst (λ n. RoundsLeft (system s) n l.left all (as_world s m.world) (as_world s l.machine.world) a b) some l.invariant.left in
    let come = subst (λ (r : Scenario). HasCome (run_on (system r) (as_acts (round (system r) l.left l.machine.world 0 (components r)).turns)) l.machine.world
    t.world None b d) l.invariant.scenario e.come in
    let left_is = e.left ∙ ap (λ (r : Scenario). (round (system r) l.left l.machine.world 0 (components r)).left) l.invariant.scenario in
    from_run s all m.world t.world a d
    (rounds_over (system s) (1000001 - (l._round + 1)) l.left all (as_world s m.world) (as_world s l.machine.world) a b (as_world s t.world) c.in-Ok.rest d
    left_is c.if-rest-left.true left
    (to_run s (run_on (system s) (as_acts (round (system s) l.left l.machine.world 0 (components s)).turns)) l.machine.world t.world b d come))

pub returns-in-Err-clause-cut : goal.returns-in-Err-clause-cut
returns-in-Err-clause-cut g c =
    let m = c.args.machine.now in
    let s = m.scenario in
    let l = c.loop-round in
    let a = g.W.Write.contents c.args.out.now.writer in
    let b = g.W.Write.contents l.out.writer in
    let d = g.W.Write.contents c.take_round.new.out.writer in
    let all = run_on (system s) (as_acts (to_rest (system s) m.world).turns) in
    let some : 1000001 - l._round ≡ suc (1000001 - (l._round + 1)) = omega (arith, c.loop-round-test.true) in
    let left = subst (λ n. RoundsLeft (system s) n l.left all (as_world s m.world) (as_world s l.machine.world) a b) some l.invariant.left in
    let cut = subst (λ (r : Scenario). IsCut (run_on (system r) (as_acts (round (system r) l.left l.machine.world 0 (components r)).turns)) l.machine.world b d)
    l.invariant.scenario c.in-Err.ensures.cut in
    from_cut s all m.world a d
    (rounds_cut (system s) (1000001 - (l._round + 1)) l.left all (as_world s m.world) (as_world s l.machine.world) a b d left
    (to_cut s (run_on (system s) (as_acts (round (system s) l.left l.machine.world 0 (components s)).turns)) l.machine.world b d cut))

pub loop-round-preserved : goal.loop-round-preserved
loop-round-preserved g c =
    let m = c.args.machine.now in
    let s = m.scenario in
    let l = c.loop-round in
    let t = c.take_round.new.machine in
    let a = g.W.Write.contents c.args.out.now.writer in
    let b = g.W.Write.contents l.out.writer in
    let d = g.W.Write.contents c.take_round.new.out.writer in
    let all = run_on (system s) (as_acts (to_rest (system s) m.world).turns) in
    let e = c.in-Ok.ensures in
    let rest = c.in-Ok.rest in
    let some : 1000001 - l._round ≡ suc (1000001 - (l._round + 1)) = omega (arith, c.loop-round-test.true) in
    let left = subst (λ n. RoundsLeft (system s) n l.left all (as_world s m.world) (as_world s l.machine.world) a b) some l.invariant.left in
    let come = subst (λ (r : Scenario). HasCome (run_on (system r) (as_acts (round (system r) l.left l.machine.world 0 (components r)).turns)) l.machine.world
    t.world None b d) l.invariant.scenario e.come in
    let left_is = e.left ∙ ap (λ (r : Scenario). (round (system r) l.left l.machine.world 0 (components r)).left) l.invariant.scenario in
    let world_is = e.world ∙ ap (λ (r : Scenario). (round (system r) l.left l.machine.world 0 (components r)).world) l.invariant.scenario in
    let few = l.invariant.few in
    let less = e.few in
    record {
      scenario = e.scenario ∙ l.invariant.scenario;
      few = omega (arith, few, less);
      near = near_both m.world l.machine.world t.world (1000000 - l.left) (l.left - rest) (1000000 - rest) (omega (arith, few, less)) l.invariant.near e.near;
      left = rounds_on (system s) (1000001 - (l._round + 1)) l.left all (as_world s m.world) (as_world s l.machine.world) a b (as_world s t.world) rest d
          left_is world_is c.if-rest-left.false left
          (to_run s (run_on (system s) (as_acts (round (system s) l.left l.machine.world 0 (components s)).turns)) l.machine.world t.world b d come);
      counted = from_ok (c.take_round.new.out.failures ≡ l.out.failures) c.take_round.result rest c.in-Ok.is c.take_round.ensures.failures.counted
          ∙ l.invariant.counted;
    }

pub returns : goal.returns
returns g c =
    let m = c.args.machine.now in
    let s = m.scenario in
    let l = c.loop-round in
    let a = g.W.Write.contents c.args.out.now.writer in
    let b = g.W.Write.contents l.out.writer in
    let all = run_on (system s) (as_acts (to_rest (system s) m.world).turns) in
    record {
      scenario = l.invariant.scenario;
      leaves = l.invariant.near.leaves;
      near = near_both m.world l.machine.world l.machine.world (1000000 - l.left) 0 1000000 (omega arith) l.invariant.near
          (near_same l.machine.world l.machine.world 0 refl);
      come = from_run s all m.world l.machine.world a b
          (rounds_end (system s) (1000001 - l._round) l.left all (as_world s m.world) (as_world s l.machine.world) a b
          (omega (arith, c.loop-round-test.false)) l.invariant.left);
      cut = tt;
      failures = record { counted = l.invariant.counted; raised = tt };
    }
