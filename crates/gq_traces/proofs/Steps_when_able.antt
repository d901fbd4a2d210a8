-- Turns of a leaf that can take one are steps.
use Rattle.std.proofs.Common.{◌≡◌, ◌∙◌, ℕ, zero, suc, ◌+◌, ◌<◌, Bool, true, List, length, Option, Some, None, Ok, Err, refl, ap, sym, subst, arith, true≢false}
use Rattle.std.specs.Prelude.{◌||◌, IsOk, is_some}
use Rattle.gq_bytecode.specs.Nexts.{GoesAlone, leaf_with}
use Rattle.gq_model.specs.declared.phase.Phase.{Phase}
use Rattle.gq_model.specs.declared.phase.Phase.TheVariants as phase
use Rattle.gq_model.specs.machine.Doing.{Event, Quiet, Stepped}
use Rattle.gq_model.specs.machine.Rest.{can_run, runs, runs_as, while_can}
use Rattle.gq_model.specs.machine.Scenario.{Scenario, System, components, system}
use Rattle.gq_model.specs.machine.Step.{first_signal, next, oldest}
use Rattle.gq_model.specs.machine.World as model
use Rattle.gq_model.specs.machine.World.{Request, Signal, with_leaf}
use Rattle.gq_output.specs.declared.counted.Counted.{Counted}
use Rattle.gq_world.specs.World_between_turns.{World}
use Rattle.gq_traces.specs.Step_positions.{at_request, at_signal, first_request, place_in, request_place, signal_place, stepped}
use Rattle.gq_traces.specs.Trace.{Due, Traced, after_due, after_step, after_turn, due, due_by}
use Rattle.gq_traces.specs.declared.follow.Followed.{Followed}
use Rattle.gq_traces.specs.declared.numbered_program.NumberedProgram.{NumberedProgram as Entries}
use Rattle.gq_traces.specs.declared.trace.Tracing.{Tracing}
use Rattle.gq_traces.specs.declared.tracker.Ahead as places
use Rattle.gq_traces.specs.internal.Flat.{AreAheads, ArePrograms, programs_of}
use Rattle.gq_traces.specs.internal.Follows.{Follows, IsFollowed}
use Rattle.gq_traces.specs.internal.Printed_steps.{CanTrace, PrintsTurns}
use Rattle.gq_traces.proofs.Leaf_next_step.{Parts, due_is, parts}
use Rattle.gq_traces.proofs.Repeated_leaf_turns.{further, steps_then, while_step}
use Rattle.gq_traces.proofs.Steps_taken_alone.{still_able}
use Rattle.gq_traces.proofs.Unprinted_turns.{due_at, some_aheads}

-- TURNS THAT A LEAF TAKES ALONE

module _ (system : System) (x : ℕ) where
  pub able_goes : (n : ℕ) (w v : model.World) → GoesAlone system x n w v → can_run system w x ≡ true
      → (while_can n system w x ≡ (n, v)) × (can_run system v x ≡ true)
  able_goes zero w v goes can = (ap (λ (u : model.World). (0, u)) goes, subst (λ (u : model.World). can_run system u x ≡ true) goes can)
  able_goes (suc n) w v goes can =
      let u = with_leaf w x (leaf_with goes.0 goes.1) in
      let more = able_goes n u v goes.5 (still_able system w x goes.0 goes.1 goes.2 goes.3 can) in
      (while_step n system w u x can (record { event = Quiet; goes = goes.4 }) ∙ ap (λ (p : ℕ × model.World). (suc p.0, p.1)) more.0, more.1)

  -- one step
  one_taken : (w v : model.World) (event : Event) → next system w x ≡ Ok (v, event) → can_run system w x ≡ true → while_can 1 system w x ≡ (1, v)
  one_taken w v event goes can = while_step 0 system w v x can (record { event = event; goes = goes })

  -- turns, and one more
  pub able_more : (n m k : ℕ) → k ≡ n + m → (w u v : model.World) → while_can n system w x ≡ (n, u) → while_can m system u x ≡ (m, v)
      → while_can k system w x ≡ (k, v)
  able_more n m k is w u v first second =
      ap (λ j. while_can j system w x) is ∙ (steps_then system x n m w u first ∙ (ap (further n) second ∙ ap (λ j. (j, v)) (sym is)))

  pub able_then : (n k : ℕ) → k ≡ n + 1 → (w u v : model.World) (event : Event) → GoesAlone system x n w u → next system u x ≡ Ok (v, event)
      → can_run system w x ≡ true → while_can k system w x ≡ (k, v)
  able_then n k is w u v event goes step can =
      let first = able_goes n w u goes can in able_more n 1 k is w u v first.0 (one_taken u v event step first.1)

  -- where the leaf can take a turn, it takes some
  pub able_some : (n k : ℕ) (w v : model.World) → 0 < n → can_run system w x ≡ true → IsOk (next system w x) → while_can n system w x ≡ (k, v)
      → (t : ℕ) × (k ≡ suc t)
  able_some zero k w v some can goes taken = absurd (omega (arith, some))
  able_some (suc n) k w v some can goes taken = by (next system w x) refl goes
    where
      by : (o : Stepped) → next system w x ≡ o → IsOk o → (t : ℕ) × (k ≡ suc t)
      by (Err wrong) is ok = absurd (true≢false (sym ok))
      by (Ok p) is ok = (
        (while_can n system p.0 x).0,
        ap (λ (q : ℕ × model.World). q.0) (sym taken ∙ while_step n system w p.0 x can (record { event = p.1; goes = is })),
      )

-- A TURN THAT IS FOLLOWED, OR REPORTED

module _ (s : Scenario) (w : model.World) (x : ℕ) (less : x < length (components s)) (count : length w.leaves ≡ length (components s))
    (programs : List Entries) (stands : List places.Ahead) (are : ArePrograms programs (programs_of s)) (can : can_run (system s) w x ≡ true)
    (goes : IsOk (next (system s) w x)) (t : Traced) (here : t.world ≡ w) (aheads : AreAheads programs stands t.aheads) where
  p : Parts s w x less count programs stands are t.aheads aheads
  p = parts s w x less count programs stands are t.aheads aheads

  served : (f : Option (ℕ × List Signal)) (o : Option (Request × List Request)) → (is_some f || is_some o) ≡ true
      → (d : Due) × (due_by p.component (at_signal p.component f (at_request p.component w (first_request o))) (signal_place f (request_place w
      (first_request o))) ≡ Some d)
  served (Some q) o e = (_, refl)
  served None (Some r) e = (_, refl)
  served None None e = absurd (true≢false (sym e))

  by_phase : (q : Phase) → runs w x p.leaf q ≡ true
      → (d : Due) × (due_by p.component (stepped w x p.component p.leaf p.ahead q) (place_in w x p.component p.leaf p.ahead q) ≡ Some d)
  by_phase phase.Running e = (_, refl)
  by_phase phase.Handling e = (_, refl)
  by_phase phase.Serving e = served (first_signal p.leaf.signals) (oldest w x w.requests) e
  by_phase phase.Pending e = absurd (true≢false (sym e))
  by_phase phase.Blocked e = absurd (true≢false (sym e))
  by_phase phase.Exited e = absurd (true≢false (sym e))

  -- there is a step to take
  step_due : (d : Due) × (due (system s) x t ≡ Some d)
  step_due =
      let d = by_phase p.leaf.phase (sym (λ i. runs_as w x (p.component_is i) (p.leaf_is i)) ∙ can) in
      (d.0, due_at s x w t here ∙ (due_is s w x less count programs stands are t.aheads aheads p ∙ d.1))

  turn_steps : while_can 1 (system s) w x ≡ (1, (after_turn (system s) x t).world)
  turn_steps = by (next (system s) w x) refl goes
    where
      by : (o : Stepped) → next (system s) w x ≡ o → IsOk o → while_can 1 (system s) w x ≡ (1, (after_turn (system s) x t).world)
      by (Err wrong) is ok = absurd (true≢false (sym ok))
      by (Ok q) is ok =
          let after : (after_turn (system s) x t).world ≡ q.0 =
          ap (λ d. (after_due (system s) x t d).world) step_due.1
          ∙ ap (λ (o : Stepped). (after_step x t step_due.0 o).world) (ap (λ (v : model.World). next (system s) v x) here ∙ is) in
          one_taken (system s) x w q.0 q.1 is can ∙ ap (λ (v : model.World). (1, v)) (sym after)

-- a turn that is followed
pub followed_step : (s : Scenario) (x : ℕ) (u w : World) (f g : Followed) → u.scenario ≡ s → x < length (components s)
    → length u.world.leaves ≡ length (components s) → IsFollowed f u → can_run (system s) u.world x ≡ true → IsOk (next (system s) u.world x)
    → Follows 0 (after_turn (system s) x) u w f g → while_can 1 (system s) u.world x ≡ (1, w.world)
followed_step s x u w f g same less count is can goes h =
    let some = some_aheads f.programs.items f.aheads.items is.stand in
    let t : Traced = record { world = u.world; aheads = some.0; turns = 0 } in
    let come = h.at t (record { world = refl; aheads = some.1 }) in
    turn_steps s u.world x less count f.programs.items f.aheads.items
    (subst (λ (r : Scenario). ArePrograms f.programs.items (programs_of r)) same is.programs) can goes t refl some.1
    ∙ ap (λ (v : model.World). (1, v)) come.world

-- a turn that is reported
pub printed_step : {W : Type 0} (contents : W → Option (List ℕ)) (text : Traced → List ℕ) (s : Scenario) (x turns : ℕ) (u w : World) (p q : Tracing)
    (a b : Counted W) (was now : Bool) → u.scenario ≡ s → x < length (components s)
    → length u.world.leaves ≡ length (components s) → CanTrace u p → can_run (system s) u.world x ≡ true → IsOk (next (system s) u.world x)
    → PrintsTurns 0 contents text (after_turn (system s) x) turns 1 u w p q a b was now → while_can 1 (system s) u.world x ≡ (1, w.world)
printed_step contents text s x turns u w p q a b was now same less count is can goes h =
    let some = some_aheads p.programs.items p.aheads.items is.stands in
    let t : Traced = record { world = u.world; aheads = some.0; turns = turns } in
    let come = h.on t (record { world = refl; aheads = some.1; count = refl }) in
    turn_steps s u.world x less count p.programs.items p.aheads.items
    (subst (λ (r : Scenario). ArePrograms p.programs.items (programs_of r)) same is.programs) can goes t refl some.1
    ∙ ap (λ (v : model.World). (1, v)) come.world
