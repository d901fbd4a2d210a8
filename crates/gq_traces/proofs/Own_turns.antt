-- A step of its own that a leaf takes.
use Rattle.std.proofs.Common.{◌≡◌, ◌∙◌, ◌<◌, ℕ, true, true≢false, List, length, Option, Some, refl, ap, sym, subst, arith}
use Rattle.std.specs.Prelude.{slice_get, slice_set}
use Rattle.gq_model.specs.declared.phase.Phase.{Phase}
use Rattle.gq_model.specs.declared.phase.Phase.TheVariants.{Pending, Running, Blocked, Serving, Handling, Exited}
use Rattle.gq_model.specs.declared.section.Section.{Section}
use Rattle.gq_model.specs.machine.Scenario.{Scenario, components}
use Rattle.gq_model.specs.machine.World.{Leaf, section_of}
use Rattle.gq_model.proofs.Small_facts.{some_same}
use Rattle.gq_world.specs.World_between_turns.{World}
use Rattle.gq_traces.specs.Step_positions.{Ahead, next_place, past, place_in, stepped}
use Rattle.gq_traces.specs.Trace.{Due, due_by}
use Rattle.gq_traces.specs.declared.noted.Use.{Use}
use Rattle.gq_traces.specs.declared.numbered_program.NumberedProgram.{NumberedProgram as Entries}
use Rattle.gq_traces.specs.declared.tracker.Ahead as places
use Rattle.gq_traces.specs.declared.tracker.Due as stated
use Rattle.gq_traces.specs.internal.Flat.{AllStand, AreAheads, ArePrograms, programs_of}
use Rattle.gq_traces.specs.internal.Noted.{IsUse}
use Rattle.gq_traces.specs.internal.Printed_steps.{GoesOn, IsDue, IsTop, PassesBy, PlacePrinted, PrintsDue, due_of, takes_own}
use Rattle.gq_traces.proofs.Leaf_next_step.{Parts, due_is, parts}
use Rattle.gq_traces.proofs.Leaves_standing.{all_stand, programs_long, stand_list}

-- what is reported of a place, and where a leaf stands, by lists of other names
pub place_as : (P Q : List Entries) (A B : List places.Ahead) (x : ℕ) (section : Section) (due : stated.Due) → P ≡ Q → A ≡ B → PlacePrinted P A x section due
    → PlacePrinted Q B x section due
place_as P Q A B x section due p a reported = subst (λ R. PlacePrinted R B x section due) p (subst (λ C. PlacePrinted P C x section due) a reported)

pub passes_as : (P Q : List Entries) (A B C : List places.Ahead) (x : ℕ) (top : Option ℕ) → P ≡ Q → A ≡ B
    → ((operands : List ℕ) → IsTop top operands → PassesBy P A C x operands) → (operands : List ℕ) → IsTop top operands → PassesBy Q B C x operands
passes_as P Q A B C x top p a passes operands is =
    subst (λ R. PassesBy R B C x operands) p (subst (λ D. PassesBy P D C x operands) a (passes operands is))

-- it has a program
pub own_within : (old new : World) (x : ℕ) (programs : List Entries) → new.scenario ≡ old.scenario → x < length (components new.scenario)
    → ArePrograms programs (programs_of old.scenario) → x < length programs
own_within old new x programs same less are =
    let long = programs_long programs (components old.scenario) are in
    let count = ap (λ (s : Scenario). length (components s)) same in
    omega (arith, less, long, count)

module _ (w : World) (x : ℕ) (u : Use) (is : IsUse w.scenario w.world x u) (own : takes_own u.phase ≡ true) (less : x < length (components w.scenario))
    (count : length w.world.leaves ≡ length (components w.scenario)) (programs : List Entries) (stands : List places.Ahead)
    (are : ArePrograms programs (programs_of w.scenario)) where
  module _ (ts : List Ahead) (aheads : AreAheads programs stands ts) where
    p : Parts w.scenario w.world x less count programs stands are ts aheads
    p = parts w.scenario w.world x less count programs stands are ts aheads

    -- the step that it can take
    abbrev own_step : Due
    own_step = record {
      component = p.component;
      place = next_place p.component (section_of p.leaf.current p.leaf.reacting) p.ahead.todo p.ahead.loops;
      ahead = past p.leaf.operands p.ahead.todo p.ahead.loops;
    }

    phase_is : p.leaf.phase ≡ u.phase
    phase_is = ap (λ (l : Leaf). l.phase) (some_same (sym p.leaf_is ∙ is.there)) ∙ sym is.phase

    by : (q : Phase) → takes_own q ≡ true
        → due_by p.component (stepped w.world x p.component p.leaf p.ahead q) (place_in w.world x p.component p.leaf p.ahead q) ≡ Some own_step
    by Running e = refl
    by Handling e = refl
    by Pending e = absurd (true≢false (sym e))
    by Blocked e = absurd (true≢false (sym e))
    by Serving e = absurd (true≢false (sym e))
    by Exited e = absurd (true≢false (sym e))

    step_there : due_of w.scenario w.world x ts ≡ Some own_step
    step_there =
        due_is w.scenario w.world x less count programs stands are ts aheads p
        ∙ ap (λ q. due_by p.component (stepped w.world x p.component p.leaf p.ahead q) (place_in w.world x p.component p.leaf p.ahead q)) phase_is
        ∙ by u.phase own

    -- there is one
    pub due_there : (d : Due) × (due_of w.scenario w.world x ts ≡ Some d)
    due_there = (own_step, step_there)

  -- it is reported, by its section
  pub own_due : (due : stated.Due) (section : Section) → PlacePrinted programs stands x section due
      → ((l : Leaf) → slice_get w.world.leaves x ≡ Some l → section ≡ section_of l.current l.reacting)
      → PrintsDue programs stands w.scenario w.world x (Some due)
  own_due due section reported at ts aheads =
      let q = p ts aheads in
      subst (IsDue (Some due)) (sym (step_there ts aheads))
      (reported (components w.scenario) q.component ts q.ahead are q.component_is aheads q.ahead_is
      ∙ ap (λ s. next_place q.component s q.ahead.todo q.ahead.loops) (at q.leaf q.leaf_is))

  -- where the leaf stands then
  pub own_goes_by : (new : List places.Ahead) → ((l : Leaf) → slice_get w.world.leaves x ≡ Some l → PassesBy programs stands new x l.operands)
      → GoesOn programs stands new w.scenario w.world x
  own_goes_by new passes ts d aheads e =
      let q = p ts aheads in
      subst (λ (a : Ahead). AreAheads programs new (slice_set ts x a)) (ap (λ (z : Due). z.ahead) (some_same (sym (step_there ts aheads) ∙ e)))
      (passes q.leaf q.leaf_is ts q.ahead aheads q.ahead_is)

  -- by its top operand
  pub own_goes : (new : List places.Ahead) (top : Option ℕ) → ((operands : List ℕ) → IsTop top operands → PassesBy programs stands new x operands)
      → ((l : Leaf) → slice_get w.world.leaves x ≡ Some l → IsTop top l.operands) → GoesOn programs stands new w.scenario w.world x
  own_goes new top passes at = own_goes_by new (λ l there. passes l.operands (at l there))

  -- all leaves stand somewhere then
  pub own_stand : (new : List places.Ahead) → AllStand programs stands → GoesOn programs stands new w.scenario w.world x → AllStand programs new
  own_stand new h goes =
      let ts = stand_list programs stands h in
      let d = due_there ts.0 ts.1 in
      all_stand programs new (slice_set ts.0 x d.0.ahead) (goes ts.0 d.0 ts.1 d.1)
