-- What stands in each world of a sound scenario: the start has it, each step keeps it, and all that is promised of a world follows.
use Rattle.std.proofs.Common.{◌≡◌, ◌≤◌, ◌*◌, ℕ, zero, suc, true, List, [], ◌∷◌, Some, Ok, refl, arith}
use Rattle.std.specs.Prelude.{slice_get}
use Rattle.gq_model.specs.machine.Amounts.{Resource, part}
use Rattle.gq_model.specs.machine.Scenario.{Scenario, System, Component, components, system}
use Rattle.gq_model.specs.machine.World.{Leaf, World, start_leaves, start}
use Rattle.gq_model.specs.machine.Sums.{paid}
use Rattle.gq_model.specs.machine.Doing.{Event}
use Rattle.gq_model.specs.machine.Step.{next}
use Rattle.gq_model.specs.rules.Budgets.{own}
use Rattle.gq_model.specs.rules.Use.{subject, step_budget}
use Rattle.gq_model.specs.Promises.{budget_of, StaysWithin, KeepsBudget, IsUpheld}
use Rattle.gq_laws.specs.Sound_scenarios.{IsSound}
use Rattle.gq_laws.specs.Resolved_scenarios.{IsResolved}
use Rattle.gq_laws.specs.Stands.{Stands}
use Rattle.gq_laws.specs.Session_links.{IsLinkedWorld}
use Rattle.gq_laws.specs.internal.Uncounted.{uncounted}
use Rattle.gq_laws.specs.internal.Remaining_instructions.{IsGood}
use Rattle.gq_laws.specs.internal.Verified_holdings.{IsBounded}
use Rattle.gq_laws.specs.internal.Section_counts.{since_start, steps_if, steps_taken}
use Rattle.gq_model.proofs.Small_facts.{get_within}
use Rattle.gq_laws.proofs.step_shapes.Whole_worlds.{kept_whole, start_whole}
use Rattle.gq_laws.proofs.session_links.Linked_worlds.{kept_linked, start_linked}
use Rattle.gq_laws.proofs.remaining_work.Remaining_program_statements.{start_left, kept_left}
use Rattle.gq_laws.proofs.quota_payment.Quanta_kept.{start_fits, kept_fits}
use Rattle.gq_laws.proofs.quota_payment.Closed_sessions.{closes_whole, ends_sessions}
use Rattle.gq_laws.proofs.quota_payment.Quota_total.{sums_to_total}
use Rattle.gq_laws.proofs.verified_programs.Sound_systems.{is_resolved, good_of}
use Rattle.gq_laws.proofs.verified_programs.Own_costs.{reported_is, steps_limited, own_pays, own_is}
use Rattle.gq_laws.proofs.verified_programs.Use_chains.{resolved_acyclic}
use Rattle.gq_laws.proofs.held_resources.Uncounted_resource_step.{step_same}
use Rattle.gq_laws.proofs.held_resources.Held_within_paid.{IsAmong, of_each, each_by, within_own}
use Rattle.gq_laws.proofs.input_settings.Setting_keeps_invariants.{set_whole, set_linked, set_left, set_fit, set_typed, set_held, set_counted}
use Rattle.gq_laws.proofs.input_settings.Setting_keeps_invariants.{submit_whole, submit_linked, submit_left, submit_fit, submit_typed, submit_held}
use Rattle.gq_laws.proofs.input_settings.Setting_keeps_invariants.{submit_counted}
use Rattle.gq_laws.proofs.held_resources.Accepted_run_faultless.{Stands as HoldsAll, stands_on, stands_first as holds_first, interfaces, stands_paid, goes_on}
use Rattle.gq_laws.proofs.step_counts.Counted_worlds.{counted_on, counted_first}
use Rattle.gq_laws.proofs.step_counts.Steps_within_budget.{steps_since}
use Rattle.std.proofs.lemmas.Option.{slice_get_within}
use Rattle.gq_model.specs.machine.Run.{set_input, submit}
use Rattle.gq_model.specs.machine.Step_budgets.{steps_in}

resolved : (s : Scenario) → IsSound s → IsResolved s
resolved s sound = record { differ = sound.formed.differ; fits = is_resolved s sound.accepted }

-- routes are the same where nothing is counted
linked_same : (system : System) (w : World) → IsLinkedWorld system w → IsLinkedWorld (uncounted system) w
linked_same system w h =
    record {
      stands = h.stands;
      named = h.named;
      belongs = h.belongs;
      routed = h.routed;
      opens = h.opens;
      objects = h.objects;
      asked = h.asked;
      handles = h.handles;
      fits = h.fits;
      waits = h.waits;
      alone = h.alone;
      blocked = h.blocked;
    }

-- what is held, with all that its steps take for granted
holds : (s : Scenario) (w : World) (h : Stands s w) → HoldsAll s h.sound w
holds s w h =
    record {
      whole = record { count = h.whole.count; leaves = h.whole.leaves; inputs = h.whole.inputs; signals = h.whole.signals; sessions = h.whole.sessions };
      linked = linked_same (system s) w h.linked;
      left = h.left;
      promised = h.promised;
      typed = h.typed;
      held = h.held;
    }

pub stands_first : (s : Scenario) → IsSound s → Stands s (start (system s))
stands_first s sound =
    let first = holds_first s sound in
    record {
      sound = sound;
      whole = start_whole (system s);
      linked = start_linked (system s);
      left = start_left (IsGood (system s)) (system s) (good_of s sound);
      promised = first.promised;
      typed = first.typed;
      held = first.held;
      counted = counted_first s sound;
      fits = λ r. start_fits r s (resolved s sound);
    }

pub stands_next : (s : Scenario) (w : World) (x : ℕ) (new : World) (event : Event) → Stands s w → next (system s) w x ≡ Ok (new, event) → Stands s new
stands_next s w x new event h e =
    let then = stands_on s h.sound w x new event (holds s w h) (step_same (system s) w x new event e) in
    record {
      sound = h.sound;
      whole = kept_whole (system s) w x new event h.whole e;
      linked = kept_linked (system s) w x new event h.linked e;
      left = kept_left (IsGood (system s)) (system s) (good_of s h.sound) w x new event h.left e;
      promised = then.promised;
      typed = then.typed;
      held = then.held;
      counted = counted_on s h.sound w h.whole h.linked h.left (since_start (system s)) h.counted x new event e;
      fits = λ r. kept_fits r s (resolved s h.sound) w x new event h.linked (h.fits r) e;
    }

pub stands_set : (s : Scenario) (w : World) (x i n : ℕ) → Stands s w → Stands s (set_input (system s) w x i n)
stands_set s w x i n h =
    record {
      sound = h.sound;
      whole = set_whole (system s) w x i n h.whole;
      linked = set_linked (system s) w x i n h.linked;
      left = set_left (IsGood (system s)) (system s) w x i n h.left;
      promised = h.promised;
      typed = set_typed h.promised (IsBounded (uncounted (system s))) (system s) (uncounted (system s)) w x i n h.typed;
      held = set_held (system s) (uncounted (system s)) w x i n h.held;
      counted = set_counted (since_start (system s)) (system s) w x i n h.counted;
      fits = λ r. set_fit r s w x i n (h.fits r);
    }

pub stands_submit : (s : Scenario) (w : World) (x i : ℕ) → Stands s w → Stands s (submit w x i)
stands_submit s w x i h =
    record {
      sound = h.sound;
      whole = submit_whole (system s) w x i h.whole;
      linked = submit_linked (system s) w x i h.linked;
      left = submit_left (IsGood (system s)) (system s) w x i h.left;
      promised = h.promised;
      typed = submit_typed h.promised (IsBounded (uncounted (system s))) (uncounted (system s)) w x i h.typed;
      held = submit_held (uncounted (system s)) w x i h.held;
      counted = submit_counted (since_start (system s)) (system s) w x i h.counted;
      fits = λ r. submit_fit r s w x i (h.fits r);
    }

-- WHAT IS PROMISED

-- no leaf takes more steps than its budget
pub steps_kept : (s : Scenario) (w : World) → Stands s w → (x : ℕ) (c : Component) (leaf : Leaf) → slice_get (components s) x ≡ Some c
    → slice_get w.leaves x ≡ Some leaf → leaf.steps ≤ steps_in w (step_budget (system s) x c)
steps_kept s w h x c leaf placed there =
    let most = steps_since (system s) (resolved_acyclic s (is_resolved s h.sound.accepted)) (since_start (system s)) (start_whole (system s)) w h.whole
    h.counted x c leaf placed there in
    let none : steps_taken (start (system s)) x ≡ 0 = start_steps (components s) x in
    let one : 1 * (step_budget (system s) x c).from_start ≡ (step_budget (system s) x c).from_start = omega arith in
    omega (arith, most, none, one)
  where
    start_steps : (cs : List Component) (x : ℕ) → steps_if (slice_get (start_leaves cs) x) ≡ 0
    start_steps [] x = refl
    start_steps (c ∷ rest) zero = refl
    start_steps (c ∷ rest) (suc x) = start_steps rest x

module _ (s : Scenario) (w : World) (h : Stands s w) where
  abbrev real : System
  real = system s

  stays_within : (x : ℕ) (c : Component) (leaf : Leaf) → slice_get (components s) x ≡ Some c → slice_get w.leaves x ≡ Some leaf → (r : Resource)
      → IsAmong r real.counted → StaysWithin s w x c leaf r
  stays_within x c leaf placed there r among =
      let a = within_own _ real.counted w (linked_same real w h.linked)
      (interfaces s h.sound w (holds s w h)) h.held.leaves h.held.sessions r among x c leaf placed there in
      let is = of_each (λ r. part r (budget_of s x c).own ≡ own r (subject real c)) real.counted (own_is s x c) r among in
      let pays = own_pays s x c placed h.sound.accepted r in
      let holds = a.0 in
      let needs = a.1 in
      record { within_budget = omega (arith, holds, is); budget_is_paid = omega (arith, needs, pays) }

  keeps_budget : (x : ℕ) (c : Component) → slice_get (components s) x ≡ Some c → KeepsBudget s w x c
  keeps_budget x c placed =
      let count = h.whole.count in
      let place = slice_get_within (components s) x c placed in
      let leaf = get_within w.leaves x (omega (arith, count, place)) in
      record {
        leaf = leaf.0;
        there = leaf.1;
        reported = reported_is s x c placed;
        steps = steps_kept s w h x c leaf.0 placed leaf.1;
        limited = steps_limited s x c placed h.sound.accepted;
        bytes_and_caps = each_by (StaysWithin s w x c leaf.0) real.counted (stays_within x c leaf.0 placed leaf.1);
      }

  pub stands_upheld : IsUpheld s w
  stands_upheld =
      let pays : paid real w ≡ true = stands_paid s h.sound w (holds s w h) in
      record {
        goes_on = goes_on s h.sound w (holds s w h);
        is_paid = pays;
        keeps_budgets = keeps_budget;
        quotas_sum = sums_to_total s w h.whole pays h.fits;
        closes = closes_whole s w h.linked pays;
        ends = ends_sessions s w h.whole;
      }
