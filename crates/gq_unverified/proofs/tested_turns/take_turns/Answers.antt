use Rattle.std.proofs.Common.{◌≡◌, ◌+◌, ◌-◌, ◌∙◌, ℕ, Option, subst, arith}
use Rattle.gq_model.specs.declared.fault.Wrong.{Wrong}
use Rattle.gq_model.specs.machine.Run.{turns_of}
use Rattle.gq_model.specs.machine.Scenario.{Scenario, system}
use Rattle.gq_world.proofs.Turn_sequence_runs.{turns_grow}
use Rattle.gq_unverified.specs.internal.Taking.{HasCome, IsCut}
use Rattle.gq_unverified.proofs.Tested_step_counts.{from_ok, near_both}
use Rattle.gq_unverified.proofs.Tested_turn_runs.{goes_on, ends_wrong, is_cut, one_of, turns_stuck}
use Rattle.gq_unverified.proofs.tested_turns.take_turns.Goals as goal

pub returns-in-Ok-Some-clause-come : goal.returns-in-Ok-Some-clause-come
returns-in-Ok-Some-clause-come g c =
    let s = c.args.machine.now.scenario in
    let x = c.args.leaf in
    let l = c.loop-turn in
    let new = c.take_turn.new.machine.world in
    let a = g.W.Write.contents c.args.out.now.writer in
    let b = g.W.Write.contents l.out.writer in
    let d = g.W.Write.contents c.take_turn.new.out.writer in
    let come = subst (λ (r : Scenario). HasCome (turns_of (system r) x 1) l.machine.world new c.in-Ok-Some.field-0 b d) l.invariant.scenario
    c.in-Ok-Some.ensures.come in
    ends_wrong (turns_of (system s) x (c.args.count - l.turn)) (turns_of (system s) x (c.args.count - (l.turn + 1))) (turns_of (system s) x 1)
    (turns_of (system s) x c.args.count) (one_of (system s) x c.args.count l.turn c.loop-turn-test.true) c.args.machine.now.world l.machine.world a b d
    l.invariant.left (turns_stuck (system s) x (c.args.count - (l.turn + 1))) new c.in-Ok-Some.wrong
    (subst (λ (o : Option (ℕ × Wrong)). HasCome (turns_of (system s) x 1) l.machine.world new o b d) c.in-Ok-Some.field-0-is come)

pub returns-in-Err-clause-cut : goal.returns-in-Err-clause-cut
returns-in-Err-clause-cut g c =
    let s = c.args.machine.now.scenario in
    let x = c.args.leaf in
    let l = c.loop-turn in
    let a = g.W.Write.contents c.args.out.now.writer in
    let b = g.W.Write.contents l.out.writer in
    let d = g.W.Write.contents c.take_turn.new.out.writer in
    is_cut (turns_of (system s) x (c.args.count - l.turn)) (turns_of (system s) x (c.args.count - (l.turn + 1))) (turns_of (system s) x 1)
    (turns_of (system s) x c.args.count) (one_of (system s) x c.args.count l.turn c.loop-turn-test.true) c.args.machine.now.world l.machine.world a b d
    l.invariant.left (turns_grow (system s) x (c.args.count - (l.turn + 1)))
    (subst (λ (r : Scenario). IsCut (turns_of (system r) x 1) l.machine.world b d) l.invariant.scenario c.in-Err.ensures.cut)

pub loop-turn-preserved : goal.loop-turn-preserved
loop-turn-preserved g c =
    let s = c.args.machine.now.scenario in
    let x = c.args.leaf in
    let l = c.loop-turn in
    let new = c.take_turn.new.machine.world in
    let a = g.W.Write.contents c.args.out.now.writer in
    let b = g.W.Write.contents l.out.writer in
    let d = g.W.Write.contents c.take_turn.new.out.writer in
    let e = c.in-Ok-None.ensures in
    let come = subst (λ (r : Scenario). HasCome (turns_of (system r) x 1) l.machine.world new c.in-Ok-None.field-0 b d) l.invariant.scenario e.come in
    record {
      scenario = e.scenario ∙ l.invariant.scenario;
      near = near_both c.args.machine.now.world l.machine.world new l.turn 1 (l.turn + 1) (omega arith) l.invariant.near e.near;
      left = goes_on (turns_of (system s) x (c.args.count - l.turn)) (turns_of (system s) x (c.args.count - (l.turn + 1))) (turns_of (system s) x 1)
          (turns_of (system s) x c.args.count) (one_of (system s) x c.args.count l.turn c.loop-turn-test.true) c.args.machine.now.world l.machine.world
          a b d l.invariant.left new
          (subst (λ (o : Option (ℕ × Wrong)). HasCome (turns_of (system s) x 1) l.machine.world new o b d) c.in-Ok-None.field-0-is come);
      counted =
          from_ok (c.take_turn.new.out.failures ≡ l.out.failures) c.take_turn.result c.in-Ok-None.field-0 c.in-Ok-None.is
          c.take_turn.ensures.failures.counted ∙ l.invariant.counted;
    }
