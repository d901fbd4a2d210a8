-- The round goes on with the next leaf.
use Rattle.std.proofs.Common.{◌≡◌, ◌∙◌, ℕ, length, refl, ap, subst, arith}
use Rattle.std.proofs.lemmas.Result.{err_from_is_err_and}
use Rattle.gq_output.specs.Writes.{IsRaised}
use Rattle.gq_model.specs.machine.Scenario.{Scenario, components, system}
use Rattle.gq_model.specs.machine.Rest.{while_can}
use Rattle.gq_model.specs.machine.Run.{turns_of}
use Rattle.gq_world.specs.internal.Act_transitions.{HasRun, IsCut}
use Rattle.gq_world.proofs.Rest_runs.{round_cut, round_ends, round_on, round_starts}
use Rattle.gq_world.proofs.Resting_worlds.{component_next, no_component}
use Rattle.gq_world.proofs.Turn_sequence_runs.{starts}
use Rattle.gq_world.proofs.to_rest.take_round.Goals as goal

-- what holds of the turns of a leaf, by the number that it has in the loop and in the scenario of the start
at_leaf : (P : Scenario → ℕ → Type 0) (s t : Scenario) (n k : ℕ) → t ≡ s → k ≡ n → P t k → P s n
at_leaf P s t n k same at h = subst (λ (r : Scenario). P r n) same (subst (P t) at h)

pub loop-number-init : goal.loop-number-init
loop-number-init g c =
    let old = c.args.world.now in
    record {
      scenario = refl;
      signals = omega arith;
      running = c.requires.running;
      left = round_starts (system old.scenario) c.args.most old (g.W.Write.contents c.args.out.now.writer)
          (starts _ old (g.W.Write.contents c.args.out.now.writer) c.requires.running);
      counted = refl;
    }

pub returns-in_err-left-clause-runs : goal.returns-in_err-left-clause-runs
returns-in_err-left-clause-runs g c =
    let old = c.args.world.now in
    let sys = system old.scenario in
    let l = c.loop-number in
    let t = c.take_most in
    let count = c.leaf_count-number-end.ensures.count ∙ ap (λ (s : Scenario). length (components s)) c.table.ensures in
    let next = component_next (components old.scenario) l.number (omega (arith, c.loop-number-test.true, count)) in
    let a = g.W.Write.contents c.args.out.now.writer in
    let b = g.W.Write.contents l.out.writer in
    let d = g.W.Write.contents t.new.out.writer in
    let p = err_from_is_err_and c.from_residual.result c.from_residual.ensures.1 in
    let e = t.ensures in
    let cut = at_leaf (λ s n. IsCut (turns_of (system s) n (while_can l.left (system s) l.world.world n).0) l.world b d) old.scenario l.world.scenario l.number
    c.new.result l.invariant.scenario c.new.ensures c.in_err-left.ensures.runs.cut in
    rw (p.1) (record {
      scenario = e.runs.scenario ∙ l.invariant.scenario;
      signals = (let few = l.invariant.signals in let more = e.runs.signals in omega (arith, few, more));
      ran = tt;
      counted = tt;
      cut = round_cut sys c.args.most l.number l.left old l.world a b next.0 next.1 d l.invariant.left cut;
      raised = subst (λ n. IsRaised n t.new.out.failures) l.invariant.counted c.in_err-left.ensures.runs.raised;
    })

pub loop-number-preserved : goal.loop-number-preserved
loop-number-preserved g c =
    let old = c.args.world.now in
    let sys = system old.scenario in
    let l = c.loop-number in
    let t = c.take_most in
    let count = c.leaf_count-number-end.ensures.count ∙ ap (λ (s : Scenario). length (components s)) c.table.ensures in
    let next = component_next (components old.scenario) l.number (omega (arith, c.loop-number-test.true, count)) in
    let a = g.W.Write.contents c.args.out.now.writer in
    let b = g.W.Write.contents l.out.writer in
    let d = g.W.Write.contents t.new.out.writer in
    let e = c.in_ok-left.ensures in
    let ran = at_leaf (λ s n. HasRun (turns_of (system s) n (while_can l.left (system s) l.world.world n).0) l.world t.new.world b d) old.scenario
    l.world.scenario l.number c.new.result l.invariant.scenario c.new.ensures e.runs.ran in
    let taken = at_leaf (λ s n. while_can l.left (system s) l.world.world n ≡ (c.in_ok-left.field-0, t.new.world.world)) old.scenario l.world.scenario l.number
    c.new.result l.invariant.scenario c.new.ensures e.taken in
    record {
      scenario = e.runs.scenario ∙ l.invariant.scenario;
      signals = (let few = l.invariant.signals in let more = e.runs.signals in omega (arith, few, more));
      running = e.runs.ran.running;
      left = round_on sys c.args.most l.number l.left old l.world a b next.0 next.1 t.new.world c.in_ok-left.field-0 d l.invariant.left taken ran;
      counted = e.runs.counted ∙ l.invariant.counted;
    }

pub returns : goal.returns
returns g c =
    let old = c.args.world.now in
    let sys = system old.scenario in
    let l = c.loop-number in
    let count = c.leaf_count-number-end.ensures.count ∙ ap (λ (s : Scenario). length (components s)) c.table.ensures in
    let all = round_ends sys c.args.most l.number l.left old l.world (g.W.Write.contents c.args.out.now.writer) (g.W.Write.contents l.out.writer)
    (no_component (components old.scenario) l.number (omega (arith, c.loop-number-test.false, count))) l.invariant.left in
    record {
      runs = record {
        scenario = l.invariant.scenario;
        signals = (let few = l.invariant.signals in omega (arith, few));
        ran = all.0;
        counted = l.invariant.counted;
        cut = tt;
        raised = tt;
      };
      left = all.1;
      world = all.2;
    }
