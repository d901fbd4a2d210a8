use Rattle.std.proofs.Common.{◌≡◌, ◌+◌, ◌≤◌, ◌∙◌, ℕ, Option, ap, drop, length, subst, arith}
use Rattle.gq_model.specs.declared.fault.Wrong.{Wrong}
use Rattle.gq_model.specs.machine.Scenario.{Scenario, components, system}
use Rattle.gq_world.specs.internal.Act_transitions.{line_on, lines_on}
use Rattle.gq_world.proofs.Turn_sequence_runs.{here_is, below_at, lines_grow}
use Rattle.gq_unverified.specs.internal.Taking.{HasCome, IsCut, most_turns, turns_in}
use Rattle.gq_unverified.proofs.Tested_step_counts.{from_ok, room_left}
use Rattle.gq_unverified.proofs.Tested_turn_runs.{goes_on, ends_wrong, is_cut, lines_stuck}
use Rattle.gq_unverified.proofs.tested_turns.take_all.Goals as goal

pub returns-in-Ok-Some-clause-come : goal.returns-in-Ok-Some-clause-come
returns-in-Ok-Some-clause-come g c =
    let s = c.args.machine.now.scenario in
    let turns = c.args.turns.now in
    let l = c.loop-item in
    let t = c.item-item.result in
    let new = c.take_line.new.machine.world in
    let a = g.W.Write.contents c.args.out.now.writer in
    let b = g.W.Write.contents l.out.writer in
    let d = g.W.Write.contents c.take_line.new.out.writer in
    let here = here_is turns l.item-index t c.loop-item-test.true c.item-item.is in
    let own = rw (c.line.ensures) at c.in-Ok-Some.ensures.come in
    let come = subst (λ (r : Scenario). HasCome (line_on (system r) t) l.machine.world new c.in-Ok-Some.field-0 b d) l.invariant.scenario own in
    ends_wrong (lines_on (system s) (drop l.item-index turns)) (lines_on (system s) (drop (l.item-index + 1) turns)) (line_on (system s) t)
    (lines_on (system s) turns) (λ r. ap (λ k. lines_on (system s) k r) here) c.args.machine.now.world l.machine.world a b d
    l.invariant.left (lines_stuck (system s) (drop (l.item-index + 1) turns)) new c.in-Ok-Some.wrong
    (subst (λ (o : Option (ℕ × Wrong)). HasCome (line_on (system s) t) l.machine.world new o b d) c.in-Ok-Some.field-0-is come)

pub returns-in-Err-clause-cut : goal.returns-in-Err-clause-cut
returns-in-Err-clause-cut g c =
    let s = c.args.machine.now.scenario in
    let turns = c.args.turns.now in
    let l = c.loop-item in
    let t = c.item-item.result in
    let a = g.W.Write.contents c.args.out.now.writer in
    let b = g.W.Write.contents l.out.writer in
    let d = g.W.Write.contents c.take_line.new.out.writer in
    let here = here_is turns l.item-index t c.loop-item-test.true c.item-item.is in
    let own = rw (c.line.ensures) at c.in-Err.ensures.cut in
    is_cut (lines_on (system s) (drop l.item-index turns)) (lines_on (system s) (drop (l.item-index + 1) turns)) (line_on (system s) t)
    (lines_on (system s) turns) (λ r. ap (λ k. lines_on (system s) k r) here) c.args.machine.now.world l.machine.world a b d
    l.invariant.left (lines_grow (system s) (drop (l.item-index + 1) turns))
    (subst (λ (r : Scenario). IsCut (line_on (system r) t) l.machine.world b d) l.invariant.scenario own)

pub loop-item-preserved : goal.loop-item-preserved
loop-item-preserved g c =
    let s = c.args.machine.now.scenario in
    let turns = c.args.turns.now in
    let l = c.loop-item in
    let t = c.item-item.result in
    let new = c.take_line.new.machine.world in
    let a = g.W.Write.contents c.args.out.now.writer in
    let b = g.W.Write.contents l.out.writer in
    let d = g.W.Write.contents c.take_line.new.out.writer in
    let here = here_is turns l.item-index t c.loop-item-test.true c.item-item.is in
    let e = c.in-Ok-None.ensures in
    let own = rw (c.line.ensures) at e.come in
    let near = rw (c.line.ensures) at e.near in
    let come = subst (λ (r : Scenario). HasCome (line_on (system r) t) l.machine.world new c.in-Ok-None.field-0 b d) l.invariant.scenario own in
    let most : most_turns t + turns_in (drop (l.item-index + 1) turns) ≤ turns_in (drop l.item-index turns) = omega (arith, ap turns_in here) in
    record {
      scenario = e.scenario ∙ l.invariant.scenario;
      leaves = e.leaves ∙ l.invariant.leaves;
      below = (below_at (length (components s)) turns l.item-index t here l.invariant.below).1;
      room = room_left l.machine.world new (turns_in (drop l.item-index turns)) (most_turns t)
          (turns_in (drop (l.item-index + 1) turns)) most l.invariant.room near;
      left = goes_on (lines_on (system s) (drop l.item-index turns)) (lines_on (system s) (drop (l.item-index + 1) turns)) (line_on (system s) t)
          (lines_on (system s) turns) (λ r. ap (λ k. lines_on (system s) k r) here) c.args.machine.now.world l.machine.world a b d l.invariant.left new
          (subst (λ (o : Option (ℕ × Wrong)). HasCome (line_on (system s) t) l.machine.world new o b d) c.in-Ok-None.field-0-is come);
      counted =
          from_ok (c.take_line.new.out.failures ≡ l.out.failures) c.take_line.result c.in-Ok-None.field-0 c.in-Ok-None.is
          c.take_line.ensures.failures.counted ∙ l.invariant.counted;
    }
