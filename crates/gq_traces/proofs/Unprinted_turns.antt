-- Turns that are taken unreported, one after the other.
use Rattle.std.proofs.Common.{◌≡◌, ◌∙◌, ◌≤◌, ◌+◌, ℕ, zero, suc, List, [], ◌∷◌, Option, Some, None, Ok, false, refl, ap, sym, subst}
use Rattle.std.proofs.Common.{arith}
use Rattle.std.specs.Prelude.{Vec, slice_get, slice_set}
use Rattle.std.specs.declared.alloc.Global.{Global}
use Rattle.gq_model.specs.declared.act.Act.TheVariants.{Sets, Submits}
use Rattle.gq_model.specs.machine.Doing.{Event}
use Rattle.gq_model.specs.machine.Run.{set_input, submit}
use Rattle.gq_model.specs.machine.Scenario.{Scenario, System, components, system}
use Rattle.gq_model.specs.machine.Step.{next}
use Rattle.gq_model.specs.machine.World as model
use Rattle.gq_world.specs.World_between_turns.{World}
use Rattle.gq_traces.specs.Step_positions.{Ahead, start_aheads}
use Rattle.gq_traces.specs.Trace.{Due, Traced, after_act, after_due, after_step, after_turn, after_turns, due, due_in}
use Rattle.gq_traces.specs.internal.Flat.{AllStand, AreAheads, ArePrograms, programs_of}
use Rattle.gq_traces.specs.internal.Follows.{Follows, IsAt, IsFollowed}
use Rattle.gq_traces.specs.internal.Printed_steps.{GoesOn, IsDue, PrintsDue, due_of}
use Rattle.gq_machine.specs.Machines.{Machine}
use Rattle.gq_traces.specs.declared.follow.Followed.{Followed}
use Rattle.gq_traces.specs.declared.numbered_program.NumberedProgram.{NumberedProgram as Entries}
use Rattle.gq_traces.specs.declared.tracker.Ahead as places
use Rattle.gq_traces.specs.declared.tracker.Due as stated
use Rattle.gq_traces.proofs.Leaves_standing.{all_stand}

-- ONE TURN

pub some_aheads : (programs : List Entries) (stands : List places.Ahead) → AllStand programs stands → (ts : List Ahead) × AreAheads programs stands ts
some_aheads [] [] h = ([], tt)
some_aheads [] (a ∷ rest) h = absurd h
some_aheads (es ∷ programs) [] h = absurd h
some_aheads (es ∷ programs) (a ∷ rest) h = let more = some_aheads programs rest h.1 in (h.0.ahead ∷ more.0, (h.0.is, more.1))

module _ (s : Scenario) (x : ℕ) where
  pub due_at : (w : model.World) (t : Traced) → t.world ≡ w → due (system s) x t ≡ due_of s w x t.aheads
  due_at w t e = ap (λ (v : model.World). due_in v x (slice_get (components s) x) (slice_get v.leaves x) (slice_get t.aheads x)) e

  stays_at : (f : Followed) (w : World) (t : Traced) → IsDue None (due_of s w.world x t.aheads) → IsAt f w t → IsAt f w (after_turn (system s) x t)
  stays_at f w t none h = by (due (system s) x t) (subst (IsDue None) (sym (due_at w.world t h.world)) none)
    where
      by : (d : Option Due) → IsDue None d → IsAt f w (after_due (system s) x t d)
      by None e = record { world = h.world; aheads = h.aheads }
      by (Some d) e = absurd e

  steps_to : (f g : Followed) (old new : World) (event : Event) (t : Traced) (c : stated.Due) → g.programs ≡ f.programs
      → IsDue (Some c) (due_of s old.world x t.aheads) → next (system s) old.world x ≡ Ok (new.world, event)
      → GoesOn f.programs.items f.aheads.items g.aheads.items s old.world x → IsAt f old t → IsAt g new (after_turn (system s) x t)
  steps_to f g old new event t c same reported stepped goes h =
      by (due (system s) x t) (due_at old.world t h.world) (subst (IsDue (Some c)) (sym (due_at old.world t h.world)) reported)
    where
      by : (d : Option Due) → d ≡ due_of s old.world x t.aheads → IsDue (Some c) d → IsAt g new (after_due (system s) x t d)
      by None e is = absurd is
      by (Some d) e is =
          subst (λ r. IsAt g new (after_step x t d r)) (sym (ap (λ (v : model.World). next (system s) v x) h.world ∙ stepped))
          (record {
            world = refl;
            aheads = subst (λ p. AreAheads p.items g.aheads.items (slice_set t.aheads x d.ahead)) (sym same) (goes t.aheads d h.aheads (sym e));
          })

-- it follows where one run that was there came
stand_then : (go : Traced → Traced) (old new : World) (before after : Followed) → new.scenario ≡ old.scenario → after.programs ≡ before.programs
    → new.stopped ≡ false → IsFollowed before old → ((t : Traced) → IsAt before old t → IsAt after new (go t)) → IsFollowed after new
stand_then go old new before after scenario same running f at =
    let some = some_aheads before.programs.items before.aheads.items f.stand in
    let t : Traced = record { world = old.world; aheads = some.0; turns = 0 } in
    let come = at t (record { world = refl; aheads = some.1 }) in
    record {
      programs = subst (λ p. ArePrograms p.items (programs_of new.scenario)) (sym same)
          (subst (λ (r : Scenario). ArePrograms before.programs.items (programs_of r)) (sym scenario) f.programs);
      stand = all_stand after.programs.items after.aheads.items (go t).aheads come.aheads;
      running = running;
    }

pub none_taken : (s : Scenario) (x : ℕ) (w : World) (f : Followed) → w.scenario ≡ s → IsFollowed f w
    → ((aheads : List Ahead) → AreAheads f.programs.items f.aheads.items aheads → IsDue None (due_of s w.world x aheads))
    → Follows 0 (after_turn (system s) x) w w f f
none_taken s x w f same h none = record {
  scenario = refl;
  signals = omega arith;
  followed = h;
  at = λ t is. stays_at s x f w t (none t.aheads is.aheads) is;
}

pub one_taken : (s : Scenario) (x : ℕ) (old new : World) (f g : Followed) (event : Event) (c : stated.Due) → new.scenario ≡ old.scenario
    → new.stopped ≡ false → new.signals ≡ old.signals → g.programs ≡ f.programs → IsFollowed f old
    → ((aheads : List Ahead) → AreAheads f.programs.items f.aheads.items aheads → IsDue (Some c) (due_of s old.world x aheads))
    → next (system s) old.world x ≡ Ok (new.world, event) → GoesOn f.programs.items f.aheads.items g.aheads.items s old.world x
    → Follows 0 (after_turn (system s) x) old new f g
one_taken s x old new f g event c scenario running signals same h reported stepped goes =
    let at : (t : Traced) → IsAt f old t → IsAt g new (after_turn (system s) x t) =
    λ t is. steps_to s x f g old new event t c same (reported t.aheads is.aheads) stepped goes is in
    record {
      scenario = scenario;
      signals = omega (arith, signals);
      followed = stand_then (after_turn (system s) x) old new f g scenario same running h at;
      at = at;
    }

-- another value of an input
pub one_set : (s : Scenario) (x i n : ℕ) (old new : World) (f : Followed) → new.scenario ≡ old.scenario → new.stopped ≡ old.stopped
    → new.signals ≡ old.signals → new.world ≡ set_input (system s) old.world x i n → IsFollowed f old
    → Follows 1 (after_act (system s) x (Sets i n)) old new f f
one_set s x i n old new f scenario stopped signals set h =
    let at : (t : Traced) → IsAt f old t → IsAt f new (after_act (system s) x (Sets i n) t) =
    λ t is. record { world = ap (λ (w : model.World). set_input (system s) w x i n) is.world ∙ sym set; aheads = is.aheads } in
    record {
      scenario = scenario;
      signals = omega (arith, signals);
      followed = stand_then (after_act (system s) x (Sets i n)) old new f f scenario refl (stopped ∙ h.running) h at;
      at = at;
    }

-- a signal
pub one_submitted : (s : Scenario) (x i : ℕ) (old new : World) (f : Followed) → new.scenario ≡ old.scenario → new.stopped ≡ false
    → new.signals ≤ old.signals + 1 → new.world ≡ submit old.world x i → IsFollowed f old → Follows 1 (after_act (system s) x (Submits i)) old new f f
one_submitted s x i old new f scenario running signals submitted h =
    let at : (t : Traced) → IsAt f old t → IsAt f new (after_act (system s) x (Submits i) t) =
    λ t is. record { world = ap (λ (w : model.World). submit w x i) is.world ∙ sym submitted; aheads = is.aheads } in
    record {
      scenario = scenario;
      signals = signals;
      followed = stand_then (after_act (system s) x (Submits i)) old new f f scenario refl running h at;
      at = at;
    }

-- MORE TURNS

pub follows_none : (go : Traced → Traced) (w : World) (f : Followed) → ((t : Traced) → t ≡ go t) → IsFollowed f w → Follows 0 go w w f f
follows_none go w f same h = record { scenario = refl; signals = omega arith; followed = h; at = λ t is. subst (IsAt f w) (same t) is }

pub follows_both : (l m : ℕ) (first second go : Traced → Traced) (a b c : World) (f g h : Followed) → ((t : Traced) → second (first t) ≡ go t)
    → Follows l first a b f g → Follows m second b c g h → Follows (l + m) go a c f h
follows_both l m first second go a b c f g h same p q = record {
  scenario = q.scenario ∙ p.scenario;
  signals = (let one = p.signals in let two = q.signals in omega (arith, one, two));
  followed = q.followed;
  at = λ t is. subst (IsAt h c) (same t) (q.at (first t) (p.at t is));
}

-- one way of the same traces, with more signals at most
pub follows_like : (l m : ℕ) (go way : Traced → Traced) (a b : World) (f g : Followed) → l ≤ m → ((t : Traced) → IsAt f a t → go t ≡ way t)
    → Follows l go a b f g → Follows m way a b f g
follows_like l m go way a b f g few same p = record {
  scenario = p.scenario;
  signals = (let signals = p.signals in omega (arith, signals, few));
  followed = p.followed;
  at = λ t is. subst (IsAt g b) (same t is) (p.at t is);
}

pub turns_more : (system : System) (x n : ℕ) (t : Traced) → after_turn system x (after_turns system x n t) ≡ after_turns system x (n + 1) t
turns_more system x n t = let one : suc n ≡ n + 1 = omega arith in by n t ∙ ap (λ m. after_turns system x m t) one
  where
    by : (n : ℕ) (t : Traced) → after_turn system x (after_turns system x n t) ≡ after_turns system x (suc n) t
    by zero t = refl
    by (suc n) t = by n (after_turn system x t)

-- AT THE START

pub started : (w : World) (programs : Vec Entries Global) (aheads : Vec places.Ahead Global) (slice : List Entries) → slice ≡ programs.items
    → w.stopped ≡ false → ArePrograms programs.items (programs_of w.scenario)
    → (ArePrograms slice (programs_of w.scenario) → AreAheads slice aheads.items (start_aheads (components w.scenario)))
    → IsFollowed (record { programs = programs; aheads = aheads }) w
started w programs aheads slice same running h at = record {
  programs = h;
  running = running;
  stand = subst (λ l. AllStand l aheads.items) same
      (all_stand slice aheads.items (start_aheads (components w.scenario)) (at (subst (λ l. ArePrograms l (programs_of w.scenario)) (sym same) h)));
}

-- WHAT IS REPORTED OF A MACHINE

pub due_printed : (m : Machine) (w : World) (x : ℕ) (ps programs : List Entries) (ss stands : List places.Ahead) (o : Option stated.Due) (d : stated.Due)
    → m ≡ record { scenario = w.scenario; world = w.world } → ps ≡ programs → ss ≡ stands → o ≡ Some d → PrintsDue ps ss m.scenario m.world x o
    → PrintsDue programs stands w.scenario w.world x (Some d)
due_printed m w x ps programs ss stands o d is same stood due h =
    subst (λ (n : Machine). PrintsDue programs stands n.scenario n.world x (Some d)) is
    (subst (λ t. PrintsDue programs stands m.scenario m.world x t) due
    (subst (λ l. PrintsDue programs l m.scenario m.world x o) stood (subst (λ l. PrintsDue l ss m.scenario m.world x o) same h)))

pub none_reported : (m : Machine) (w : World) (x : ℕ) (ps programs : List Entries) (ss stands : List places.Ahead) (o : Option stated.Due)
    → m ≡ record { scenario = w.scenario; world = w.world } → ps ≡ programs → ss ≡ stands → o ≡ None → PrintsDue ps ss m.scenario m.world x o
    → PrintsDue programs stands w.scenario w.world x None
none_reported m w x ps programs ss stands o is same stood due h =
    subst (λ (n : Machine). PrintsDue programs stands n.scenario n.world x None) is
    (subst (λ t. PrintsDue programs stands m.scenario m.world x t) due
    (subst (λ l. PrintsDue programs l m.scenario m.world x o) stood (subst (λ l. PrintsDue l ss m.scenario m.world x o) same h)))

pub goes_as : (m : Machine) (w : World) (x : ℕ) (ps programs : List Entries) (ss stands new : List places.Ahead)
    → m ≡ record { scenario = w.scenario; world = w.world } → ps ≡ programs → ss ≡ stands → GoesOn ps ss new m.scenario m.world x
    → GoesOn programs stands new w.scenario w.world x
goes_as m w x ps programs ss stands new is same stood h =
    subst (λ (n : Machine). GoesOn programs stands new n.scenario n.world x) is
    (subst (λ l. GoesOn programs l new m.scenario m.world x) stood (subst (λ l. GoesOn l ss new m.scenario m.world x) same h))

pub none_at : (m : Machine) (x : ℕ) (ps programs : List Entries) (ss stands : List places.Ahead) (o : Option stated.Due) → ps ≡ programs → ss ≡ stands
    → o ≡ None → PrintsDue ps ss m.scenario m.world x o → PrintsDue programs stands m.scenario m.world x None
none_at m x ps programs ss stands o same stood due h =
    subst (λ t. PrintsDue programs stands m.scenario m.world x t) due
    (subst (λ l. PrintsDue programs l m.scenario m.world x o) stood (subst (λ l. PrintsDue l ss m.scenario m.world x o) same h))

pub some_at : (m : Machine) (x : ℕ) (ps programs : List Entries) (ss stands : List places.Ahead) (o : Option stated.Due) (d : stated.Due) → ps ≡ programs
    → ss ≡ stands → o ≡ Some d → PrintsDue ps ss m.scenario m.world x o → PrintsDue programs stands m.scenario m.world x (Some d)
some_at m x ps programs ss stands o d same stood due h =
    subst (λ t. PrintsDue programs stands m.scenario m.world x t) due
    (subst (λ l. PrintsDue programs l m.scenario m.world x o) stood (subst (λ l. PrintsDue l ss m.scenario m.world x o) same h))
