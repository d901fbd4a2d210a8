-- Turns that are reported.
use Rattle.std.proofs.Common.{◌≡◌, ◌∙◌, ◌+◌, ℕ, zero, suc, Bool, false, List, [], ◌∷◌, ◌++◌, length, take, Option, Some, None, refl, ap, sym, subst, arith}
use Rattle.std.proofs.Common.{append_assoc, append-nil, drop}
use Rattle.std.proofs.lemmas.List.{take_at}
use Rattle.std.specs.Prelude.{Ok, slice_get, slice_set}
use Rattle.gq_model.specs.declared.act.Act.{Act}
use Rattle.gq_model.specs.machine.Doing.{Event}
use Rattle.gq_model.specs.machine.Run.{Acts}
use Rattle.gq_model.specs.texts.Turns.{turns_given}
use Rattle.gq_traces.specs.First_turns.{turns_in}
use Rattle.gq_model.specs.machine.Scenario.{Component, Scenario, System, components, system}
use Rattle.gq_model.specs.machine.Step.{next}
use Rattle.gq_model.specs.machine.Step_budgets.{StepBudget}
use Rattle.gq_model.specs.machine.World as model
use Rattle.gq_model.proofs.Small_facts.{none_some, some_same}
use Rattle.gq_machine.specs.Machines.{Machine}
use Rattle.gq_model.specs.machine.Run.{label_at}
use Rattle.gq_world.specs.World_between_turns.{World}
use Rattle.gq_traces.specs.Step_positions.{Ahead, StepPosition}
use Rattle.gq_traces.specs.Trace.{Due, Traced, act_text, after_act, after_all, after_due, after_step, after_turn, after_turns, all_text, changes, due}
use Rattle.gq_traces.specs.Trace.{due_by, due_in, due_text, head_line}
use Rattle.gq_traces.specs.Trace.{step_text, printed_step, turn_text, turns_text}
use Rattle.gq_traces.specs.declared.numbered_program.NumberedProgram.{NumberedProgram as Entries}
use Rattle.gq_traces.specs.declared.tracker.Ahead as places
use Rattle.gq_traces.specs.declared.tracker.Due as stated
use Rattle.gq_traces.specs.internal.Flat.{AllStand, AreAheads}
use Rattle.gq_traces.specs.internal.Printed_steps.{GoesOn, IsDue, IsOn, PrintsDue, due_of, place_of}
use Rattle.gq_traces.proofs.Leaves_standing.{all_stand, stand_list, stand_long}

-- A TURN THAT IS NO STEP

no_due : (o : Option Due) → IsDue None o → o ≡ None
no_due None h = refl
no_due (Some d) h = absurd h

some_due : (c : stated.Due) (o : Option Due) → IsDue (Some c) o → (d : Due) × (o ≡ Some d) × (place_of c ≡ d.place)
some_due c None h = absurd h
some_due c (Some d) h = (d, refl, h)

-- what a trace that is on the way can do is what the world can
pub due_on : (s : Scenario) (w : World) (x : ℕ) (t : Traced) → t.world ≡ w.world → due (system s) x t ≡ due_of s w.world x t.aheads
due_on s w x t at = ap (λ (v : model.World). due_of s v x t.aheads) at

label_is : (s : Scenario) (w : model.World) (x : ℕ) (ts : List Ahead) (d : Due) → due_of s w x ts ≡ Some d
    → label_at (slice_get (components s) x) ≡ d.component.label
label_is s w x ts d e = by (slice_get (components s) x) (slice_get w.leaves x) (slice_get ts x) e
  where
    by_place : (c : Component) (a : Ahead) (o : Option StepPosition) → due_by c a o ≡ Some d → label_at (Some c) ≡ d.component.label
    by_place c a None e = absurd (none_some e)
    by_place c a (Some p) e = ap (λ (z : Due). z.component.label) (some_same e)

    by : (c : Option Component) (l : Option model.Leaf) (a : Option Ahead) → due_in w x c l a ≡ Some d → label_at c ≡ d.component.label
    by (Some c) (Some l) (Some a) e = by_place c _ _ e
    by None l a e = absurd (none_some e)
    by (Some c) None a e = absurd (none_some e)
    by (Some c) (Some l) None e = absurd (none_some e)

module _ (all : Bool) (s : Scenario) (b : List StepBudget) (x : ℕ) where
  module _ (programs : List Entries) (stands : List places.Ahead) (old : World) (turns : ℕ) (t : Traced) (on : IsOn programs stands old turns t) where
    module _ (none : IsDue None (due_of s old.world x t.aheads)) where
      idle_is : due (system s) x t ≡ None
      idle_is = due_on s old x t on.world ∙ no_due (due_of s old.world x t.aheads) none

      pub idle_text : [] ≡ turn_text all s b x t
      idle_text = sym (ap (due_text all s b x t) idle_is)

      pub idle_on : (new : World) → new ≡ old → IsOn programs stands new (turns + 1) (after_turn (system s) x t)
      idle_on new same =
          let count = on.count in
          subst (IsOn programs stands new (turns + 1)) (sym (ap (after_due (system s) x t) idle_is))
          (record { world = on.world ∙ ap (λ (v : World). v.world) (sym same); aheads = on.aheads; count = omega (arith, count) })

    module _ (d : Due) (there : due_of s old.world x t.aheads ≡ Some d) (new : World) (event : Event)
        (goes : next (system s) old.world x ≡ Ok (new.world, event)) where
      taken_is : due (system s) x t ≡ Some d
      taken_is = due_on s old x t on.world ∙ there

      world_is : next (system s) t.world x ≡ Ok (new.world, event)
      world_is = ap (λ (v : model.World). next (system s) v x) on.world ∙ goes

      -- nothing is reported of a step that changes nothing, where changes alone are reported
      pub silent_text : all ≡ false → changes s b (label_at (slice_get (components s) x)) old.world new.world event ≡ [] → [] ≡ turn_text all s b x t
      silent_text short none =
          let label = label_is s old.world x t.aheads d there in
          let at = sym on.world in
          let head = head_line (suc t.turns) d.component.label d.place in
          sym (ap (due_text all s b x t) taken_is ∙ ap (step_text all s b t d) world_is
          ∙ sym (λ i. printed_step all head (changes s b (label i) (at i) new.world event)) ∙ ap (printed_step all head) none
          ∙ ap (λ v. printed_step v head []) short)

      pub taken_on : (after : List places.Ahead) → AreAheads programs after (slice_set t.aheads x d.ahead)
          → IsOn programs after new (turns + 1) (after_turn (system s) x t)
      taken_on after aheads =
          let count = on.count in
          subst (IsOn programs after new (turns + 1)) (sym (ap (after_due (system s) x t) taken_is ∙ ap (after_step x t d) world_is))
          (record { world = refl; aheads = aheads; count = omega (arith, count) })

    module _ (c : stated.Due) (some : IsDue (Some c) (due_of s old.world x t.aheads)) (new : World) (event : Event)
        (goes : next (system s) old.world x ≡ Ok (new.world, event)) where
      d : (d : Due) × (due_of s old.world x t.aheads ≡ Some d) × (place_of c ≡ d.place)
      d = some_due c (due_of s old.world x t.aheads) some

      pub step_text_is : printed_step all (head_line (turns + 1) (label_at (slice_get (components s) x)) (place_of c))
          (changes s b (label_at (slice_get (components s) x)) old.world new.world event) ≡ turn_text all s b x t
      step_text_is =
          let label = label_is s old.world x t.aheads d.0 d.1 in
          let place = d.2 in
          let count = on.count in
          let number : turns + 1 ≡ suc t.turns = omega (arith, count) in
          let at = sym on.world in
          (λ i. printed_step all (head_line (number i) (label i) (place i)) (changes s b (label i) (at i) new.world event))
          ∙ sym (ap (due_text all s b x t) (taken_is d.0 d.1 new event goes) ∙ ap (step_text all s b t d.0) (world_is d.0 d.1 new event goes))

      pub step_on : (after : List places.Ahead) → ((e : Due) → due_of s old.world x t.aheads ≡ Some e → AreAheads programs after (slice_set t.aheads x e.ahead))
          → IsOn programs after new (turns + 1) (after_turn (system s) x t)
      step_on after aheads = taken_on d.0 d.1 new event goes after (aheads d.0 d.1)

-- MANY TURNS

pub turns_more : (all : Bool) (s : Scenario) (b : List StepBudget) (x n : ℕ) (t : Traced)
    → turns_text all s b x n t ++ turn_text all s b x (after_turns (system s) x n t) ≡ turns_text all s b x (suc n) t
turns_more all s b x zero t = sym (append-nil (turn_text all s b x t))
turns_more all s b x (suc n) t =
    append_assoc (turn_text all s b x t) (turns_text all s b x n (after_turn (system s) x t)) _
    ∙ ap (λ l. turn_text all s b x t ++ l) (turns_more all s b x n (after_turn (system s) x t))

pub after_more : (s : System) (x n : ℕ) (t : Traced) → after_turn s x (after_turns s x n t) ≡ after_turns s x (suc n) t
after_more s x zero t = refl
after_more s x (suc n) t = after_more s x n (after_turn s x t)

pub turns_sum : (all : Bool) (s : Scenario) (b : List StepBudget) (x n m : ℕ) (t : Traced)
    → turns_text all s b x n t ++ turns_text all s b x m (after_turns (system s) x n t) ≡ turns_text all s b x (n + m) t
turns_sum all s b x zero m t =
    let none : m ≡ 0 + m = omega arith in ap (λ k. turns_text all s b x k t) none
turns_sum all s b x (suc n) m t =
    let one : suc (n + m) ≡ suc n + m = omega arith in
    append_assoc (turn_text all s b x t) (turns_text all s b x n (after_turn (system s) x t)) _
    ∙ ap (λ l. turn_text all s b x t ++ l) (turns_sum all s b x n m (after_turn (system s) x t)) ∙ ap (λ k. turns_text all s b x k t) one

pub after_sum : (s : System) (x n m : ℕ) (t : Traced) → after_turns s x m (after_turns s x n t) ≡ after_turns s x (n + m) t
after_sum s x zero m t =
    let none : m ≡ 0 + m = omega arith in ap (λ k. after_turns s x k t) none
after_sum s x (suc n) m t =
    let one : suc (n + m) ≡ suc n + m = omega arith in after_sum s x n m (after_turn s x t) ∙ ap (λ k. after_turns s x k t) one

pub all_more : (all : Bool) (s : Scenario) (b : List StepBudget) (acts : Acts) (p : ℕ × Act) (t : Traced)
    → all_text all s b acts t ++ act_text all s b p.0 p.1 (after_all (system s) acts t) ≡ all_text all s b (acts ++ p ∷ []) t
all_more all s b [] p t = sym (append-nil (act_text all s b p.0 p.1 t))
all_more all s b (q ∷ acts) p t =
    append_assoc (act_text all s b q.0 q.1 t) (all_text all s b acts (after_act (system s) q.0 q.1 t)) _
    ∙ ap (λ l. act_text all s b q.0 q.1 t ++ l) (all_more all s b acts p (after_act (system s) q.0 q.1 t))

pub after_all_more : (s : System) (acts : Acts) (p : ℕ × Act) (t : Traced)
    → after_act s p.0 p.1 (after_all s acts t) ≡ after_all s (acts ++ p ∷ []) t
after_all_more s [] p t = refl
after_all_more s (q ∷ acts) p t = after_all_more s acts p (after_act s q.0 q.1 t)

pub turns_in_more : (acts : Acts) (p : ℕ × Act) → turns_in (acts ++ p ∷ []) ≡ turns_in acts + turns_given p.1
turns_in_more [] p = omega arith
turns_in_more (q ∷ acts) p = let h = turns_in_more acts p in omega (arith, h)

-- WHERE THE LEAVES STAND

pub printed_due : (P Q : List Entries) (A B : List places.Ahead) (m : Machine) (w : World) (x : ℕ) (o : Option stated.Due) → P ≡ Q → A ≡ B
    → m ≡ record { scenario = w.scenario; world = w.world } → PrintsDue P A m.scenario m.world x o → PrintsDue Q B w.scenario w.world x o
printed_due P Q A B m w x o p a is h =
    subst (λ (n : Machine). PrintsDue Q B n.scenario n.world x o) is (subst (λ C. PrintsDue Q C m.scenario m.world x o) a
    (subst (λ R. PrintsDue R A m.scenario m.world x o) p h))

pub printed_stands : (P Q : List Entries) (A B C : List places.Ahead) (m : Machine) (w : World) (x : ℕ) → P ≡ Q → A ≡ B
    → m ≡ record { scenario = w.scenario; world = w.world } → GoesOn P A C m.scenario m.world x → GoesOn Q B C w.scenario w.world x
printed_stands P Q A B C m w x p a is h =
    subst (λ (n : Machine). GoesOn Q B C n.scenario n.world x) is (subst (λ D. GoesOn Q D C m.scenario m.world x) a
    (subst (λ R. GoesOn R A C m.scenario m.world x) p h))

pub stand_then : (P : List Entries) (A B : List places.Ahead) (w : World) (x : ℕ) (c : stated.Due) → AllStand P A
    → PrintsDue P A w.scenario w.world x (Some c) → GoesOn P A B w.scenario w.world x → AllStand P B
stand_then P A B w x c stands due goes =
    let ts = stand_list P A stands in
    let d = some_due c (due_of w.scenario w.world x ts.0) (due ts.0 ts.1) in
    all_stand P B (slice_set ts.0 x d.0.ahead) (goes ts.0 d.0 ts.1 d.1)

-- what is in a vector once its slice was changed
pub items_then : (P : List Entries) (A B : List places.Ahead) (len : ℕ) → len ≡ length A → AllStand P A → AllStand P B
    → take len (B ++ drop (length B) A) ≡ B
items_then P A B len long a b =
    let old = stand_long P A a in
    let new = stand_long P B b in
    take_at B (drop (length B) A) len (omega (arith, long, old, new))
