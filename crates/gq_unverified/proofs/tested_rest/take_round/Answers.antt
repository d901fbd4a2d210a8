-- The round goes on with the next leaf.
use Rattle.std.proofs.Common.{◌≡◌, ◌∙◌, ◌-◌, ◌+◌, ◌<◌, ◌≤◌, ℕ, None, length, refl, ap, sym, subst, arith}
use Rattle.gq_model.specs.machine.Scenario.{Scenario, components, system}
use Rattle.gq_model.specs.machine.Rest.{as_acts, round, while_can}
use Rattle.gq_model.specs.machine.Run.{run_on, turns_of}
use Rattle.gq_world.proofs.Rest_runs.{round_cut, round_ends, round_on, round_starts}
use Rattle.gq_world.proofs.Resting_worlds.{component_next, no_component}
use Rattle.gq_world.proofs.Turn_sequence_runs as code
use Rattle.gq_unverified.specs.internal.Taking.{HasCome, HasRoom, IsCut, IsNear}
use Rattle.gq_unverified.proofs.Tested_step_counts.{from_ok, near_both, near_same, room_left}
use Rattle.gq_unverified.proofs.Tested_rest_runs.{as_world, from_cut, from_run, to_cut, to_run}
use Rattle.gq_unverified.proofs.tested_rest.take_round.Goals as goal

-- what holds of the turns of a leaf, by the number that it has in the loop and in the scenario of the start
at_leaf : (P : Scenario → ℕ → Type 0) (s t : Scenario) (n k : ℕ) → t ≡ s → k ≡ n → P t k → P s n
at_leaf P s t n k same at h = subst (λ (r : Scenario). P r n) same (subst (P t) at h)

pub loop-number-init : goal.loop-number-init
loop-number-init g c =
    let m = c.args.machine.now in
    let w = as_world m.scenario m.world in
    record {
      scenario = refl;
      few = omega arith;
      near = near_same m.world m.world (c.args.most - c.args.most) refl;
      left = round_starts (system m.scenario) c.args.most w (g.W.Write.contents c.args.out.now.writer)
          (code.starts _ w (g.W.Write.contents c.args.out.now.writer) refl);
      counted = refl;
    }

pub take_most-requires-clause-count : goal.take_most-requires-clause-count
take_most-requires-clause-count g c =
    let l = c.loop-number in
    l.invariant.near.leaves ∙ (c.requires.count ∙ ap (λ (s : Scenario). length (components s)) (sym l.invariant.scenario))

pub take_most-requires-clause-leaf : goal.take_most-requires-clause-leaf
take_most-requires-clause-leaf g c =
    let count = c.leaf_count-number-end.ensures.count ∙ ap (λ (s : Scenario). length (components s)) (c.table.ensures ∙ sym c.loop-number.invariant.scenario) in
    omega (arith, c.new.ensures, c.loop-number-test.true, count)

pub take_most-requires-clause-room : goal.take_most-requires-clause-room
take_most-requires-clause-room g c =
    let l = c.loop-number in
    let few = l.invariant.few in
    room_left c.args.machine.now.world l.machine.world c.args.most (c.args.most - l.left) l.left (omega (arith, few)) c.requires.room l.invariant.near

pub returns-in-Err-clause-cut : goal.returns-in-Err-clause-cut
returns-in-Err-clause-cut g c =
    let m = c.args.machine.now in
    let s = m.scenario in
    let l = c.loop-number in
    let count = c.leaf_count-number-end.ensures.count ∙ ap (λ (s : Scenario). length (components s)) c.table.ensures in
    let next = component_next (components s) l.number (omega (arith, c.loop-number-test.true, count)) in
    let a = g.W.Write.contents c.args.out.now.writer in
    let b = g.W.Write.contents l.out.writer in
    let d = g.W.Write.contents c.take_most.new.out.writer in
    let one = turns_of (system s) l.number (while_can l.left (system s) l.machine.world l.number).0 in
    let cut = at_leaf (λ t n. IsCut (turns_of (system t) n (while_can l.left (system t) l.machine.world n).0) l.machine.world b d) s l.machine.scenario l.number
    c.new.result l.invariant.scenario c.new.ensures c.in-Err.ensures.cut in
    from_cut s (run_on (system s) (as_acts (round (system s) c.args.most m.world 0 (components s)).turns)) m.world a d
    (round_cut (system s) c.args.most l.number l.left (as_world s m.world) (as_world s l.machine.world) a b next.0 next.1 d l.invariant.left
    (to_cut s one l.machine.world b d cut))

pub returns-in-Err-clause-leaves : goal.returns-in-Err-clause-leaves
returns-in-Err-clause-leaves g c = c.in-Err.ensures.leaves ∙ c.loop-number.invariant.near.leaves

pub loop-number-preserved : goal.loop-number-preserved
loop-number-preserved g c =
    let m = c.args.machine.now in
    let s = m.scenario in
    let l = c.loop-number in
    let t = c.take_most.new.machine in
    let k = c.in-Ok.taken in
    let count = c.leaf_count-number-end.ensures.count ∙ ap (λ (s : Scenario). length (components s)) c.table.ensures in
    let next = component_next (components s) l.number (omega (arith, c.loop-number-test.true, count)) in
    let a = g.W.Write.contents c.args.out.now.writer in
    let b = g.W.Write.contents l.out.writer in
    let d = g.W.Write.contents c.take_most.new.out.writer in
    let e = c.in-Ok.ensures in
    let one = turns_of (system s) l.number (while_can l.left (system s) l.machine.world l.number).0 in
    let come = at_leaf (λ r n. HasCome (turns_of (system r) n (while_can l.left (system r) l.machine.world n).0) l.machine.world t.world None b d) s
    l.machine.scenario l.number c.new.result l.invariant.scenario c.new.ensures e.come in
    let taken = at_leaf (λ r n. while_can l.left (system r) l.machine.world n ≡ (k, t.world)) s l.machine.scenario l.number c.new.result l.invariant.scenario
    c.new.ensures e.taken in
    let few = l.invariant.few in
    let less = e.few in
    record {
      scenario = e.scenario ∙ l.invariant.scenario;
      few = omega (arith, few);
      near = near_both m.world l.machine.world t.world (c.args.most - l.left) k (c.args.most - (l.left - k)) (omega (arith, few, less)) l.invariant.near e.near;
      left = round_on (system s) c.args.most l.number l.left (as_world s m.world) (as_world s l.machine.world) a b next.0 next.1 (as_world s t.world) k d
          l.invariant.left taken (to_run s one l.machine.world t.world b d come);
      counted = from_ok (c.take_most.new.out.failures ≡ l.out.failures) c.take_most.result k c.in-Ok.is c.take_most.ensures.failures.counted
          ∙ l.invariant.counted;
    }

pub returns : goal.returns
returns g c =
    let m = c.args.machine.now in
    let s = m.scenario in
    let l = c.loop-number in
    let count = c.leaf_count-number-end.ensures.count ∙ ap (λ (s : Scenario). length (components s)) c.table.ensures in
    let a = g.W.Write.contents c.args.out.now.writer in
    let b = g.W.Write.contents l.out.writer in
    let all = round_ends (system s) c.args.most l.number l.left (as_world s m.world) (as_world s l.machine.world) a b
    (no_component (components s) l.number (omega (arith, c.loop-number-test.false, count))) l.invariant.left in
    record {
      scenario = l.invariant.scenario;
      leaves = l.invariant.near.leaves;
      few = l.invariant.few;
      near = l.invariant.near;
      left = all.1;
      world = all.2;
      come = from_run s (run_on (system s) (as_acts (round (system s) c.args.most m.world 0 (components s)).turns)) m.world l.machine.world a b all.0;
      cut = tt;
      failures = record { counted = l.invariant.counted; raised = tt };
    }
