-- A round more, or the last one, in which no turn is taken.
use Rattle.std.proofs.Common.{◌≡◌, ◌∙◌, ◌<◌, ◌≤◌, ◌++◌, ℕ, suc, List, None, inl, inr, refl, subst, arith}
use Rattle.gq_model.specs.declared.act.TurnLine.{TurnLine}
use Rattle.gq_model.specs.machine.Scenario.{Scenario, System, components, system}
use Rattle.gq_model.specs.machine.World.{World}
use Rattle.gq_model.specs.machine.Rest.{greatest_turns, round}
use Rattle.gq_traces.specs.Schedule.{as_lines, rest_by}
use Rattle.gq_traces.proofs.Round_schedule_text.{GoesRounds, IsThrough, round_takes, rounds_end, rounds_first, rounds_on}
use Rattle.gq_traces.proofs.schedule.list_rounds.Goals as goal

through : (s t : Scenario) (left rest : ℕ) (w new : World) (before after : List TurnLine) → t ≡ s
    → rest ≡ (round (system t) left w 0 (components t)).left → new ≡ (round (system t) left w 0 (components t)).world
    → after ≡ before ++ as_lines (round (system t) left w 0 (components t)).turns
    → IsThrough (round (system s) left w 0 (components s)) rest new before after
through s t left rest w new before after same is world listed =
    subst (λ (r : Scenario). IsThrough (round (system r) left w 0 (components r)) rest new before after) same
    (record { left_is = is; world_is = world; listed = listed })

fewer : (s t : Scenario) (left rest : ℕ) (w : World) → t ≡ s → rest ≡ (round (system t) left w 0 (components t)).left → (rest ≡ left → ⊥) → rest < left
fewer s t left rest w same is other = elim (round_takes (system t) left w 0 (components t)) [
  | inl none ↦ absurd (other (is ∙ none.1))
  | inr some ↦ let less = some.1 in omega (arith, less, is)
]

first : (system : System) (most : ℕ) (w : World) (o : List TurnLine) → most ≤ greatest_turns → GoesRounds (rest_by None system most w) system most w o o
unfolding rest_by
first system most w o few = rounds_first (rest_by None system most w) system (suc greatest_turns) most w o refl (omega (arith, few))

pub loop-rest-init : goal.loop-rest-init
loop-rest-init c =
    let old = c.args.world.now in
    record {
      scenario = refl;
      running = c.requires.running;
      signals = refl;
      few = omega arith;
      goes = first (system old.scenario) c.args.most old.world c.args.list.now.items c.requires.most;
    }

pub list_round-requires-clause-most : goal.list_round-requires-clause-most
list_round-requires-clause-most c = let few = c.loop-rest.invariant.few in let most = c.requires.most in omega (arith, few, most)

pub returns-then-rest-left : goal.returns-then-rest-left
returns-then-rest-left c =
    let old = c.args.world.now in
    let l = c.loop-rest in
    let e = c.in_ok-rest.ensures in
    let a = c.args.list.now.items in
    let b = l.list.items in
    let d = c.list_round.new.list.items in
    let new = c.list_round.new.world in
    let all = through old.scenario l.world.scenario l.left c.in_ok-rest.rest l.world.world new.world b d l.invariant.scenario e.left e.world e.lists in
    let last = subst (λ (n : ℕ). IsThrough (round (system old.scenario) l.left l.world.world 0 (components old.scenario)) n new.world b d)
    c.if-rest-left.true all in
    let end = rounds_end (rest_by None (system old.scenario) c.args.most old.world) (system old.scenario) l.left l.world.world a b d l.invariant.goes new.world
    last in
    record {
      scenario = e.scenario ∙ l.invariant.scenario;
      running = e.running;
      signals = e.signals ∙ l.invariant.signals;
      few = l.invariant.few;
      left = end.left_is;
      world = end.world_is;
      lists = end.listed;
    }

pub loop-rest-smaller : goal.loop-rest-smaller
loop-rest-smaller c =
    fewer c.args.world.now.scenario c.loop-rest.world.scenario c.loop-rest.left c.in_ok-rest.rest c.loop-rest.world.world c.loop-rest.invariant.scenario
    c.in_ok-rest.ensures.left c.if-rest-left.false

pub loop-rest-preserved : goal.loop-rest-preserved
loop-rest-preserved c =
    let old = c.args.world.now in
    let l = c.loop-rest in
    let e = c.in_ok-rest.ensures in
    let b = l.list.items in
    let d = c.list_round.new.list.items in
    let new = c.list_round.new.world in
    let all = through old.scenario l.world.scenario l.left c.in_ok-rest.rest l.world.world new.world b d l.invariant.scenario e.left e.world e.lists in
    let less = fewer old.scenario l.world.scenario l.left c.in_ok-rest.rest l.world.world l.invariant.scenario e.left c.if-rest-left.false in
    let few = l.invariant.few in
    record {
      scenario = e.scenario ∙ l.invariant.scenario;
      running = e.running;
      signals = e.signals ∙ l.invariant.signals;
      few = omega (arith, less, few);
      goes = rounds_on (rest_by None (system old.scenario) c.args.most old.world) (system old.scenario) l.left l.world.world c.args.list.now.items b d
          l.invariant.goes c.in_ok-rest.rest new.world all c.if-rest-left.false;
    }
