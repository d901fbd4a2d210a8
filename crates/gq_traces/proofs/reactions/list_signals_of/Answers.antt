-- One signal more is submitted and listed.
use Rattle.std.proofs.Common.{◌≡◌, ◌∙◌, ◌+◌, ◌<◌, ◌≤◌, ◌++◌, ◌∷◌, [], ℕ, length, length-append, ap, subst, refl, arith}
use Rattle.std.specs.Prelude.{slice_get}
use Rattle.gq_model.specs.declared.act.Act.TheVariants.{Submits}
use Rattle.gq_model.specs.declared.act.TurnLine.{TurnLine}
use Rattle.gq_model.specs.declared.act.TurnLine.TheVariants.{Gives}
use Rattle.gq_model.specs.machine.Run.{submit}
use Rattle.gq_model.specs.machine.Scenario.{components}
use Rattle.gq_model.specs.texts.Turns.{signals_at}
use Rattle.gq_world.specs.World_between_turns.{greatest_lines}
use Rattle.gq_traces.proofs.Turns_few.{lines_bound}
use Rattle.gq_traces.proofs.Listed_signals.{count_is, from_end, from_first, from_next}
use Rattle.gq_traces.proofs.reactions.list_signals_of.Goals as goal

-- there are fewer signals than a list has lines
below_lines : (first now i count : ℕ) → now ≤ first + i → i < count → count ≤ 3 → first + 3 < 16777217 → now < greatest_lines
below_lines first now i count few less most room = let all = lines_bound in omega (arith, few, less, most, room, all)

pub loop-signal-init : goal.loop-signal-init
loop-signal-init c =
    let old = c.args.world.now in
    record {
      scenario = refl;
      running = c.requires.running;
      signals = omega arith;
      counted = omega arith;
      goes = from_first c.args.leaf (signals_at (slice_get (components old.scenario) c.args.leaf)) old.world c.args.list.now.items;
    }

pub returns-in_err-push-clause-running : goal.returns-in_err-push-clause-running
returns-in_err-push-clause-running c =
    let l = c.loop-signal in
    c.in-Ok.ensures.running l.invariant.running
    (below_lines c.args.world.now.signals l.world.signals l.signal c.signals-signal-end.result l.invariant.signals c.loop-signal-test.true
    c.signals-signal-end.ensures.few c.requires.few)

pub loop-signal-preserved : goal.loop-signal-preserved
loop-signal-preserved c =
    let old = c.args.world.now in
    let l = c.loop-signal in
    let e = c.in-Ok.ensures in
    let x = c.args.leaf in
    let before = l.invariant.signals in
    let counted = l.invariant.counted in
    let more = e.signals in
    let count : c.signals-signal-end.result ≡ signals_at (slice_get (components old.scenario) x) =
    count_is (components old.scenario) x c.signals-signal-end.result c.requires.leaf c.signals-signal-end.ensures.signals in
    let new = c.push.new.self.items in
    let items : new ≡ l.list.items ++ Gives x (Submits l.signal) ∷ [] =
    c.in_ok-push.ensures.items ∙ ap (λ (v : TurnLine). l.list.items ++ v ∷ []) c.signal-in-loop-signal.ensures in
    let long = ap length items ∙ length-append l.list.items (Gives x (Submits l.signal) ∷ []) in
    let less = c.loop-signal-test.true in
    record {
      scenario = e.scenario ∙ l.invariant.scenario;
      running = e.running l.invariant.running
          (below_lines old.signals l.world.signals l.signal c.signals-signal-end.result before less c.signals-signal-end.ensures.few c.requires.few);
      signals = omega (arith, before, more);
      counted = omega (arith, counted, more, long);
      goes = from_next x l.signal (signals_at (slice_get (components old.scenario) x)) old.world l.world.world c.signal.new.self.world
          c.args.list.now.items l.list.items new (omega (arith, less, count))
          (subst (λ (n : ℕ). c.signal.new.self.world ≡ submit l.world.world x n) c.from.ensures e.submitted) items l.invariant.goes;
    }

pub returns : goal.returns
returns c =
    let old = c.args.world.now in
    let l = c.loop-signal in
    let x = c.args.leaf in
    let over = c.loop-signal-test.false in
    let before = l.invariant.signals in
    let end = l.auto.signal-end in
    let most = c.signals-signal-end.ensures.few in
    let count : c.signals-signal-end.result ≡ signals_at (slice_get (components old.scenario) x) =
    count_is (components old.scenario) x c.signals-signal-end.result c.requires.leaf c.signals-signal-end.ensures.signals in
    let all = from_end x l.signal (signals_at (slice_get (components old.scenario) x)) old.world l.world.world c.args.list.now.items l.list.items
    (omega (arith, over, count)) l.invariant.goes in
    record {
      scenario = l.invariant.scenario;
      running = l.invariant.running;
      signals = omega (arith, before, end, most);
      counted = l.invariant.counted;
      world = all.0;
      lists = all.1;
    }
