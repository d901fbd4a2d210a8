-- A choice more, or the last.
use Rattle.std.proofs.Common.{◌≡◌, ◌∙◌, ◌<◌, ◌-◌, ◌==◌, ◌++◌, ℕ, Bool, false, List, Some, ap, refl, sym, subst, arith, length}
use Rattle.rand_core.specs.Pcg32Seed.{pcg32_seed}
use Rattle.rand_pcg.specs.Lcg.{Lcg}
use Rattle.rand_pcg.specs.Pcg.{pcg32_of_seed}
use Rattle.std.proofs.lemmas.Bool.Decides.{nat_tests}
use Rattle.gq_model.specs.declared.act.TurnLine.{TurnLine}
use Rattle.gq_model.specs.machine.Scenario.{Scenario, System, components, system}
use Rattle.gq_model.specs.machine.World.{World}
use Rattle.gq_model.specs.machine.Rest.{Taken, reported_turns}
use Rattle.gq_traces.specs.Schedule.{able, as_lines, chosen_turns, next_choice, greatest_choices, rest_by}
use Rattle.gq_traces.proofs.Random_turn_schedule.{GoesChoices, choices_first, choices_on, of_choice}
use Rattle.gq_traces.proofs.chance.list_choices.Goals as goal

-- there is a leaf, by the test of the slice that has them
some_of : (count : ℕ) (is_empty : Bool) → is_empty ≡ (count == 0) → is_empty ≡ false → 0 < count
some_of count is_empty is empty_not =
    let other : (count == 0) ≡ false = sym is ∙ empty_not in
    grind (arith, nat_tests, other)

-- a choice in a world of the scenario leads on
goes_on : (whole : Taken) (s t : Scenario) (lines left taken : ℕ) (w new : World) (g h : Lcg) (a b d : List TurnLine) → t ≡ s
    → GoesChoices whole (system s) lines left w g a b → 0 < lines → 0 < left → 0 < length (able (system t) w 0 (components t))
    → h ≡ (next_choice (system t) w g).generator → chosen_turns (system t) left w (next_choice (system t) w g) ≡ (taken, new)
    → d ≡ b ++ as_lines (reported_turns (next_choice (system t) w g).leaf (chosen_turns (system t) left w (next_choice (system t) w g)).0)
    → GoesChoices whole (system s) (lines - 1) (left - taken) new h a d
goes_on whole s t lines left taken w new g h a b d same goes line turn some next takes listed =
    subst (λ (z : Lcg). GoesChoices whole (system s) (lines - 1) (left - taken) new z a d)
    (sym (subst (λ (r : Scenario). h ≡ (next_choice (system r) w g).generator) same next))
    (choices_on whole (system s) lines left w g a b d goes line turn
    (subst (λ (r : Scenario). 0 < length (able (system r) w 0 (components r))) same some) taken new
    (subst (λ (r : Scenario). chosen_turns (system r) left w (next_choice (system r) w g) ≡ (taken, new)) same takes)
    (subst (λ (r : Scenario). d ≡ b ++ as_lines (of_choice (system r) left w g)) same listed))

first : (seed : ℕ) (all : System) (most : ℕ) (w : World) (g : Lcg) (o : List TurnLine) → g ≡ pcg32_of_seed (pcg32_seed 16 seed)
    → GoesChoices (rest_by (Some seed) all most w) all 800000 most w g o o
unfolding rest_by greatest_choices
first seed all most w g o is =
    subst (λ (z : Lcg). GoesChoices (rest_by (Some seed) all most w) all 800000 most w z o o) (sym is)
    (choices_first (rest_by (Some seed) all most w) all 800000 most w (pcg32_of_seed (pcg32_seed 16 seed)) o refl)

pub loop-left-init : goal.loop-left-init
loop-left-init c =
    let old = c.args.world.now in
    let from : c.seed_from_u64-generator.result ≡ pcg32_of_seed (pcg32_seed 16 c.args.seed) =
    c.seed_from_u64-generator.ensures ∙ ap (λ (n : ℕ). pcg32_of_seed (pcg32_seed 16 n)) c.from.ensures in
    record {
      scenario = refl;
      running = c.requires.running;
      signals = refl;
      few = omega arith;
      goes = first c.args.seed (system old.scenario) c.args.most old.world c.seed_from_u64-generator.result c.args.list.now.items from;
    }

pub loop-left-preserved : goal.loop-left-preserved
loop-left-preserved c =
    let old = c.args.world.now in
    let s = old.scenario in
    let l = c.loop-left in
    let w = l.world in
    let e = c.in_ok-left.ensures in
    let leaves : c.as_slice-leaves.result.now ≡ able (system w.scenario) w.world 0 (components w.scenario) =
    c.as_slice-leaves.ensures.value ∙ c.able-able.ensures.able in
    let some = some_of (length c.as_slice-leaves.result.now) c.is_empty.result c.is_empty.ensures c.if-is_empty.false in
    let few = l.invariant.few in
    record {
      scenario = e.scenario ∙ l.invariant.scenario;
      running = e.running;
      signals = e.signals ∙ l.invariant.signals;
      few = omega (arith, few);
      goes = goes_on (rest_by (Some c.args.seed) (system s) c.args.most old.world) s w.scenario l.lines l.left c.in_ok-left.field-0 w.world
          c.list_choice.new.world.world l.generator c.list_choice.new.generator c.args.list.now.items l.list.items c.list_choice.new.list.items
          l.invariant.scenario l.invariant.goes c.if-lines-gt0.true c.loop-left-test.true (subst (λ (x : List ℕ). 0 < length x) leaves some) e.generator
          e.taken e.lists;
    }
