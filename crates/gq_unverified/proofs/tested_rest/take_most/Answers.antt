-- One turn more, if the leaf can take it.
use Rattle.std.proofs.Common.{◌≡◌, ◌∙◌, ◌-◌, ◌+◌, ◌<◌, ◌≤◌, ℕ, suc, Bool, true, false, None, refl, ap, length, subst, sym, arith}
use Rattle.std.specs.Prelude.{if◌then◌else◌}
use Rattle.gq_model.specs.machine.Rest.{while_can}
use Rattle.gq_model.specs.machine.Run.{Ran, turns_of}
use Rattle.gq_model.specs.machine.Scenario.{Scenario, components, system}
use Rattle.gq_world.proofs.Turn_sequence_runs.{turns_grow}
use Rattle.gq_unverified.specs.internal.Taking.{HasCome, HasLeft, HasRoom, IsCut}
use Rattle.gq_unverified.proofs.Tested_step_counts.{from_ok, near_both, near_same, room_left}
use Rattle.gq_unverified.proofs.Tested_turn_runs.{goes_on, is_cut, one_less, starts}
use Rattle.gq_unverified.proofs.Tested_rest_runs.{gone_end, gone_first, gone_on, gone_rest, over, split_none, split_one, split_taken}
use Rattle.gq_unverified.proofs.tested_rest.take_most.Goals as goal

whole : (n : ℕ) → n ≡ n - 0
whole n = omega arith

pub loop-taken-init : goal.loop-taken-init
loop-taken-init g c =
    let m = c.args.machine.now in
    record {
      scenario = refl;
      near = near_same m.world m.world 0 refl;
      gone = gone_first (system m.scenario) c.args.leaf c.args.most m.world;
      left = subst (λ n. HasLeft (turns_of (system m.scenario) c.args.leaf (while_can n (system m.scenario) m.world c.args.leaf).0)
          (turns_of (system m.scenario) c.args.leaf (while_can c.args.most (system m.scenario) m.world c.args.leaf).0) m.world m.world
          (g.W.Write.contents c.args.out.now.writer) (g.W.Write.contents c.args.out.now.writer)) (whole c.args.most)
          (starts (turns_of (system m.scenario) c.args.leaf (while_can c.args.most (system m.scenario) m.world c.args.leaf).0) m.world
          (g.W.Write.contents c.args.out.now.writer));
      counted = refl;
    }

pub try_turn-requires-clause-count : goal.try_turn-requires-clause-count
try_turn-requires-clause-count g c =
    let l = c.loop-taken in
    l.invariant.near.leaves ∙ (c.requires.count ∙ ap (λ (s : Scenario). length (components s)) (sym l.invariant.scenario))

pub try_turn-requires-clause-leaf : goal.try_turn-requires-clause-leaf
try_turn-requires-clause-leaf g c =
    subst (λ (s : Scenario). c.args.leaf < length (components s)) (sym c.loop-taken.invariant.scenario) c.requires.leaf

pub try_turn-requires-clause-room : goal.try_turn-requires-clause-room
try_turn-requires-clause-room g c =
    let l = c.loop-taken in
    room_left c.args.machine.now.world l.machine.world c.args.most l.taken 1 (omega (arith, c.loop-taken-test.true)) c.requires.room l.invariant.near

pub returns-in-Ok-false-clause-taken : goal.returns-in-Ok-false-clause-taken
returns-in-Ok-false-clause-taken g c =
    let m = c.args.machine.now in
    let l = c.loop-taken in
    let t = c.try_turn.new.machine in
    let took = c.in-Ok-false.ensures.taken ∙ ap (λ (b : Bool). (if b then 1 else 0, t.world)) c.in-Ok-false.field-0-test in
    let none = subst (λ (s : Scenario). while_can 1 (system s) l.machine.world c.args.leaf ≡ (0, t.world)) l.invariant.scenario took in
    gone_rest (system m.scenario) c.args.leaf c.args.most l.taken m.world l.machine.world t.world c.loop-taken-test.true none l.invariant.gone

pub returns-in-Ok-false-clause-come : goal.returns-in-Ok-false-clause-come
returns-in-Ok-false-clause-come g c =
    let m = c.args.machine.now in
    let sys = system m.scenario in
    let x = c.args.leaf in
    let l = c.loop-taken in
    let t = c.try_turn.new.machine in
    let a = g.W.Write.contents c.args.out.now.writer in
    let b = g.W.Write.contents l.out.writer in
    let d = g.W.Write.contents c.try_turn.new.out.writer in
    let took = c.in-Ok-false.ensures.taken ∙ ap (λ (b : Bool). (if b then 1 else 0, t.world)) c.in-Ok-false.field-0-test in
    let none = subst (λ (s : Scenario). while_can 1 (system s) l.machine.world x ≡ (0, t.world)) l.invariant.scenario took in
    let come = subst (λ (s : Scenario). HasCome (turns_of (system s) x (while_can 1 (system s) l.machine.world x).0) l.machine.world t.world None b d)
    l.invariant.scenario c.in-Ok-false.ensures.come in
    let all = turns_of sys x (while_can c.args.most sys m.world x).0 in
    let left = subst (λ n. HasLeft (turns_of sys x (while_can n sys l.machine.world x).0) all m.world l.machine.world a b)
    (one_less c.args.most l.taken c.loop-taken-test.true) l.invariant.left in
    over (λ r. r) all m.world t.world a d (λ r. refl)
    (goes_on (turns_of sys x (while_can (suc (c.args.most - (l.taken + 1))) sys l.machine.world x).0) (λ r. r)
    (turns_of sys x (while_can 1 sys l.machine.world x).0) all (split_none (c.args.most - (l.taken + 1)) sys l.machine.world t.world x none) m.world
    l.machine.world a b d left t.world come)

pub returns-in-Err-clause-cut : goal.returns-in-Err-clause-cut
returns-in-Err-clause-cut g c =
    let m = c.args.machine.now in
    let sys = system m.scenario in
    let x = c.args.leaf in
    let l = c.loop-taken in
    let a = g.W.Write.contents c.args.out.now.writer in
    let b = g.W.Write.contents l.out.writer in
    let d = g.W.Write.contents c.try_turn.new.out.writer in
    let all = turns_of sys x (while_can c.args.most sys m.world x).0 in
    let left = subst (λ n. HasLeft (turns_of sys x (while_can n sys l.machine.world x).0) all m.world l.machine.world a b)
    (one_less c.args.most l.taken c.loop-taken-test.true) l.invariant.left in
    let rest = split_one (c.args.most - (l.taken + 1)) sys l.machine.world x in
    is_cut (turns_of sys x (while_can (suc (c.args.most - (l.taken + 1))) sys l.machine.world x).0) (turns_of sys x rest.0)
    (turns_of sys x (while_can 1 sys l.machine.world x).0) all rest.1 m.world l.machine.world a b d left (turns_grow sys x rest.0)
    (subst (λ (s : Scenario). IsCut (turns_of (system s) x (while_can 1 (system s) l.machine.world x).0) l.machine.world b d) l.invariant.scenario
    c.in-Err.ensures.cut)

pub loop-taken-preserved : goal.loop-taken-preserved
loop-taken-preserved g c =
    let m = c.args.machine.now in
    let sys = system m.scenario in
    let x = c.args.leaf in
    let l = c.loop-taken in
    let t = c.try_turn.new.machine in
    let a = g.W.Write.contents c.args.out.now.writer in
    let b = g.W.Write.contents l.out.writer in
    let d = g.W.Write.contents c.try_turn.new.out.writer in
    let e = c.in-Ok-true.ensures in
    let took = e.taken ∙ ap (λ (b : Bool). (if b then 1 else 0, t.world)) c.in-Ok-true.field-0-test in
    let one = subst (λ (s : Scenario). while_can 1 (system s) l.machine.world x ≡ (1, t.world)) l.invariant.scenario took in
    let come = subst (λ (s : Scenario). HasCome (turns_of (system s) x (while_can 1 (system s) l.machine.world x).0) l.machine.world t.world None b d)
    l.invariant.scenario e.come in
    let all = turns_of sys x (while_can c.args.most sys m.world x).0 in
    let left = subst (λ n. HasLeft (turns_of sys x (while_can n sys l.machine.world x).0) all m.world l.machine.world a b)
    (one_less c.args.most l.taken c.loop-taken-test.true) l.invariant.left in
    record {
      scenario = e.scenario ∙ l.invariant.scenario;
      near = near_both m.world l.machine.world t.world l.taken 1 (l.taken + 1) (omega arith) l.invariant.near e.near;
      gone = gone_on sys x c.args.most l.taken m.world l.machine.world t.world c.loop-taken-test.true one l.invariant.gone;
      left = goes_on (turns_of sys x (while_can (suc (c.args.most - (l.taken + 1))) sys l.machine.world x).0)
          (turns_of sys x (while_can (c.args.most - (l.taken + 1)) sys t.world x).0) (turns_of sys x (while_can 1 sys l.machine.world x).0) all
          (split_taken (c.args.most - (l.taken + 1)) sys l.machine.world t.world x one) m.world l.machine.world a b d left t.world come;
      counted = from_ok (c.try_turn.new.out.failures ≡ l.out.failures) c.try_turn.result c.in-Ok-true.field-0 c.in-Ok-true.is
          c.try_turn.ensures.failures.counted ∙ l.invariant.counted;
    }
