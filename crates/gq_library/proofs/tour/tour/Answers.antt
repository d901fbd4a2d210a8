-- The next leaf takes its turns.
use Rattle.std.proofs.Common.{◌≡◌, ◌∙◌, ◌+◌, ◌-◌, ◌<◌, ◌≤◌, ℕ, suc, true, false, [], length, Option, None, Some, ap, sym, subst, arith, add-one}
use Rattle.gq_machine.specs.Events.{event_of}
use Rattle.gq_model.specs.machine.Doing as doing
use Rattle.gq_model.specs.machine.Scenario.{Scenario, components, system}
use Rattle.gq_model.specs.machine.World as model
use Rattle.gq_library.specs.C_turns.{Burst, Tour, burst, is_last, is_over, next_able, taken_on, tour}
use Rattle.gq_library.proofs.Quiet_turn_runs.{takes_one}
use Rattle.gq_library.proofs.Tour_turns.{all_rest, last_same, next_can, not_last_silent, not_over, over_all, over_last, silent_not_last, silent_text, tour_more}
use Rattle.gq_library.proofs.Tour_turns.{tour_none, tour_over}
use Rattle.gq_library.proofs.tour.tour.Goals as goal
use Rattle.gq_library.proofs.tour.tour.Goals.{then-is_last-via-then-is_last, then-is_last-via-else-is_last+then-left-eq0}

pub next_able-requires : goal.next_able-requires
next_able-requires c =
    let l = c.loop-tried in
    let same = ap (λ (s : Scenario). length (components s)) l.invariant.scenario in
    let within = l.invariant.within in
    omega (arith, within, same)

-- what is left of turns, of all of them
left_of : (most left : ℕ) → left ≤ most → most - (most - left) ≡ left
left_of most left few = omega (arith, few)

-- the turns of the next leaf, in the scenario of the start
takes_in : (s t : Scenario) (w : model.World) (x most left : ℕ) (e : doing.Event) (b : Burst) → t ≡ s → left ≤ most
    → taken_on (system t) x left (burst (most - left) e w) ≡ b → taken_on (system s) x (most - (most - left)) (burst (most - left) e w) ≡ b
takes_in s t w x most left e b same few h =
    ap (λ n. taken_on (system s) x n (burst (most - left) e w)) (left_of most left few)
    ∙ subst (λ (r : Scenario). taken_on (system r) x left (burst (most - left) e w) ≡ b) same h

able_in : (s t : Scenario) (w : model.World) (at : ℕ) (o p : Option ℕ) → t ≡ s → o ≡ next_able (system t) w at → o ≡ p → next_able (system s) w at ≡ p
able_in s t w at o p same able is = sym (subst (λ (r : Scenario). o ≡ next_able (system r) w at) same able) ∙ is

one_less : (most i : ℕ) → i < most → most - i ≡ suc (most - (i + 1))
one_less most i less = omega (arith, less)

pub returns-in_default-clause-turns : goal.returns-in_default-clause-turns
returns-in_default-clause-turns c =
    let old = c.args.world.now in
    let sys = system old.scenario in
    let l = c.loop-tried in
    let most = c.args.most in
    let w = l.world.world in
    let t : Tour = record { leaf = l.last; burst = burst (most - l.left) (event_of l.event []) w } in
    let none = able_in old.scenario l.world.scenario w l.at c.next_able.result None l.invariant.scenario c.next_able.ensures.able c.in_default.is in
    l.invariant.turns ∙ ap (λ n. tour n sys most l.at t) (one_less most l._tried c.loop-tried-test.true)
    ∙ tour_none sys (most - (l._tried + 1)) most l.at t none
    ∙ ap (λ (e : doing.Event). let u : Tour = record { leaf = l.last; burst = burst (most - l.left) e w } in u)
    (silent_text l.event l.text.items l.invariant.silent)

pub returns-in_default-clause-rests : goal.returns-in_default-clause-rests
returns-in_default-clause-rests c some last =
    let l = c.loop-tried in all_rest (system l.world.scenario) l.world.world l.at (sym c.next_able.ensures.able ∙ c.in_default.is)

pub returns-then-is_last-clause-turns : goal.returns-then-is_last-clause-turns
returns-then-is_last-clause-turns c =
    let old = c.args.world.now in
    let sys = system old.scenario in
    let l = c.loop-tried in
    let most = c.args.most in
    let w = l.world.world in
    let x = c.in-Some.able in
    let few = l.invariant.few in
    let e = c.take.result.0 in
    let text = c.take.new.text.items in
    let rest = c.take.result.1 in
    let b : Burst = burst (most - rest) (event_of e text) c.take.new.world.world in
    let t : Tour = record { leaf = l.last; burst = burst (most - l.left) (event_of l.event []) w } in
    let able = able_in old.scenario l.world.scenario w l.at c.next_able.result (Some x) l.invariant.scenario c.next_able.ensures.able c.in-Some.is in
    let takes = takes_in old.scenario l.world.scenario w x most l.left (event_of l.event []) b l.invariant.scenario (omega (arith, few)) c.take.ensures.taken in
    let over : is_over most b ≡ true = elim c.then-is_last.branch [
      | then-is_last-via-then-is_last v ↦ over_last most b (sym (last_same e text) ∙ (sym c.is_last.ensures ∙ v.if-is_last.true))
      | then-is_last-via-else-is_last+then-left-eq0 v ↦ over_all most b (all_of most rest v.if-left-eq0.true)
    ] in
    l.invariant.turns ∙ ap (λ n. tour n sys most l.at t) (one_less most l._tried c.loop-tried-test.true)
    ∙ tour_over sys (most - (l._tried + 1)) most l.at t x b able takes over
    ∙ ap (λ n. let u : Tour = record { leaf = n; burst = b } in u) (sym c.number-last.ensures)
  where
    all_of : (most rest : ℕ) → rest ≡ 0 → most ≤ most - rest
    all_of most rest e = omega (arith, e)

pub loop-tried-preserved : goal.loop-tried-preserved
loop-tried-preserved c =
    let old = c.args.world.now in
    let sys = system old.scenario in
    let l = c.loop-tried in
    let most = c.args.most in
    let w = l.world.world in
    let x = c.in-Some.able in
    let few = l.invariant.few in
    let e = c.take.result.0 in
    let text = c.take.new.text.items in
    let rest = c.take.result.1 in
    let b : Burst = burst (most - rest) (event_of e text) c.take.new.world.world in
    let t : Tour = record { leaf = l.last; burst = burst (most - l.left) (event_of l.event []) w } in
    let able = able_in old.scenario l.world.scenario w l.at c.next_able.result (Some x) l.invariant.scenario c.next_able.ensures.able c.in-Some.is in
    let takes = takes_in old.scenario l.world.scenario w x most l.left (event_of l.event []) b l.invariant.scenario (omega (arith, few)) c.take.ensures.taken in
    let last : is_last (event_of e []) ≡ false = sym c.is_last.ensures ∙ c.if-is_last.false in
    let silent = not_last_silent e last in
    let some : 0 < rest = omega (arith, c.if-left-eq0.false) in
    let left = c.take.ensures.left in
    let goes = not_over most b (silent_not_last e text silent) (omega (arith, some, left, few)) in
    let can = next_can (system l.world.scenario) w l.at x (sym c.next_able.ensures.able ∙ c.in-Some.is) in
    let had = l.invariant.some (omega (arith, c.loop-tried-test.true)) in
    let one = takes_one (system l.world.scenario) x l.left (burst (most - l.left) (event_of l.event []) w) can (c.laws.ensures.goes_on x) had in
    let fewer : suc (most - l.left) ≤ most - rest = subst (λ (u : Burst). suc (most - l.left) ≤ u.taken) c.take.ensures.taken one in
    let there = c.in-Some.ensures.there in
    let count = ap (λ (s : Scenario). length (components s)) l.invariant.scenario in
    record {
      scenario = c.take.ensures.scenario ∙ l.invariant.scenario;
      stopped = c.take.ensures.stopped ∙ l.invariant.stopped;
      within = omega (arith, c.index-at.ensures, there, count);
      few = omega (arith, few, fewer, left);
      some = λ h. some;
      silent = silent;
      turns = l.invariant.turns ∙ ap (λ n. tour n sys most l.at t) (one_less most l._tried c.loop-tried-test.true)
          ∙ tour_more sys (most - (l._tried + 1)) most l.at t x b able takes goes
          ∙ ap (λ n. tour (most - (l._tried + 1)) sys most n (record { leaf = x; burst = b })) (sym (add-one x) ∙ ap (λ n. n + 1) (sym c.index-at.ensures))
          ∙ ap (λ (u : Tour). tour (most - (l._tried + 1)) sys most (c.index-at.result + 1) u)
          (λ i. record { leaf = sym c.number-last.ensures i; burst = burst (most - rest) (sym (silent_text e text silent) i) c.take.new.world.world });
    }

pub returns-clause-turns : goal.returns-clause-turns
returns-clause-turns c =
    let sys = system c.args.world.now.scenario in
    let l = c.loop-tried in
    let most = c.args.most in
    let w = l.world.world in
    let t : Tour = record { leaf = l.last; burst = burst (most - l.left) (event_of l.event []) w } in
    l.invariant.turns ∙ ap (λ n. tour n sys most l.at t) (none_left most l._tried c.loop-tried-test.false)
    ∙ ap (λ (e : doing.Event). let u : Tour = record { leaf = l.last; burst = burst (most - l.left) e w } in u)
    (silent_text l.event l.text.items l.invariant.silent)
  where
    none_left : (most i : ℕ) → most ≤ i → most - i ≡ 0
    none_left most i past = omega (arith, past)

pub returns-clause-rests : goal.returns-clause-rests
returns-clause-rests c some last =
    let few = c.loop-tried.invariant.few in
    absurd (omega (arith, some, few, c.loop-tried-test.false))
