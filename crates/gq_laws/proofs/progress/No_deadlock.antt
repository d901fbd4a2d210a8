-- There is no deadlock: either every leaf is at rest, or some leaf can take a step.
use Rattle.std.proofs.Common.{◌≡◌, ℕ, zero, suc, ◌<◌, ◌≤◌, ◌⊎◌, inl, inr, Bool, true, false, not, length, Option, Some, None, refl, ap, sym, ◌∙◌}
use Rattle.std.proofs.Common.{arith}
use Rattle.std.specs.Prelude.{slice_get}
use Rattle.std.proofs.lemmas.Bool.Decides.{eqb_tells, leb_tells}
use Rattle.gq_model.specs.machine.Scenario.{Scenario, System, Component, system}
use Rattle.gq_model.specs.machine.World.{Leaf, World}
use Rattle.gq_model.specs.declared.phase.Phase.{Phase}
use Rattle.gq_model.specs.declared.phase.Phase.TheVariants.{Pending, Running, Blocked, Serving, Handling, Exited}
use Rattle.gq_model.specs.machine.Rest.{runs, runs_as, can_run}
use Rattle.gq_laws.specs.Session_links.{stance, stance_in}
use Rattle.gq_laws.proofs.step_shapes.Step_counting.{counts_steps}
use Rattle.gq_laws.proofs.upheld_worlds.Standing_world_invariant.{stands_upheld}
use Rattle.gq_laws.specs.Progress.{rests, AllRest, IsStep, GoesOn}
use Rattle.gq_laws.proofs.progress.Lasting_world_invariant.{Lasts}
use Rattle.gq_laws.proofs.progress.No_blocked_deadlock.{stays, placed, never_blocked}
use Rattle.gq_laws.proofs.progress.No_pending_deadlock.{never_pending}
use Rattle.std.proofs.lemmas.Bool.{true≢false}
use Rattle.std.proofs.lemmas.Option.{slice_get_within}

-- some leaf below n can run, or none can
abbrev Found : System → World → ℕ → Type 0
Found system w n = ((x : ℕ) × (can_run system w x ≡ true)) ⊎ ((x : ℕ) → x < n → can_run system w x ≡ false)

found : (system : System) (w : World) (n : ℕ) → Found system w n
found system w zero = inr (λ x below. absurd (omega (arith, below)))
found system w (suc n) = by (can_run system w n) refl (found system w n)
  where
    by : (b : Bool) → can_run system w n ≡ b → Found system w n → Found system w (suc n)
    by true e f = inl (n, e)
    by false e (inl f) = inl f
    by false e (inr f) = inr (λ x below. last x below)
      where
        last : (x : ℕ) → x < suc n → can_run system w x ≡ false
        last x below = elim (eqb_tells x n) [ inl g ↦ ap (can_run system w) g.1 ∙ e | inr g ↦ f x (omega (arith, below, g.1)) ]

-- a leaf that is not there can not run
none_there : (system : System) (w : World) (x : ℕ) → length w.leaves ≤ x → can_run system w x ≡ false
none_there system w x above = by (slice_get system.components x) (slice_get w.leaves x) refl
  where
    by : (c : Option Component) (o : Option Leaf) → slice_get w.leaves x ≡ o → runs_as w x c o ≡ false
    by (Some c) None e = refl
    by None o e = refl
    by (Some c) (Some leaf) e = let below = slice_get_within w.leaves x leaf e in absurd (omega (arith, above, below))

module _ (s : Scenario) (w : World) (h : Lasts s w) where
  all_rest : ((x : ℕ) → can_run (system s) w x ≡ false) → AllRest w
  all_rest idle x leaf there = by leaf.phase refl
    where
      by : (phase : Phase) → leaf.phase ≡ phase → rests w x leaf phase ≡ true
      by Pending e = absurd (never_pending s w h idle x leaf there e)
      by Running e = let c = placed s w h idle x leaf there in absurd (true≢false (ap (runs w x leaf) (sym e) ∙ stays s w h idle x c.0 leaf c.1 there))
      by Blocked e = absurd (never_blocked s w h idle x (leaf.current, ap stance_in there ∙ ap (λ p. Some (stance p leaf.current)) e))
      by Serving e = let c = placed s w h idle x leaf there in ap not (ap (runs w x leaf) (sym e) ∙ stays s w h idle x c.0 leaf c.1 there)
      by Handling e = let c = placed s w h idle x leaf there in absurd (true≢false (ap (runs w x leaf) (sym e) ∙ stays s w h idle x c.0 leaf c.1 there))
      by Exited e = refl

  pub rest_or_run : AllRest w ⊎ ((x : ℕ) × (can_run (system s) w x ≡ true))
  rest_or_run = elim (found (system s) w (length w.leaves)) [ inl f ↦ inr f | inr f ↦ inl (all_rest (λ x. by x (f x))) ]
    where
      by : (x : ℕ) → (x < length w.leaves → can_run (system s) w x ≡ false) → can_run (system s) w x ≡ false
      by x f = elim (leb_tells (length w.leaves) x) [ inl g ↦ none_there (system s) w x g.1 | inr g ↦ f (omega (arith, g.1)) ]

  pub is_step : (x : ℕ) → can_run (system s) w x ≡ true → IsStep (system s) w x
  is_step x can =
      let p = (stands_upheld s w h.stands).goes_on x in
      record { can = can; new = p.0.0; event = p.0.1; goes = p.1; counted = counts_steps (system s) w x p.0.0 p.0.1 can p.1 }

  pub goes_on : GoesOn (system s) w
  goes_on = elim (rest_or_run) [ inl rest ↦ inl rest | inr run ↦ inr (run.0, is_step run.0 run.1) ]
