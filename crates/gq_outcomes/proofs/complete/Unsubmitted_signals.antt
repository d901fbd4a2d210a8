-- Worlds in which no signal is submitted: so it is at the start, and each step keeps it.
use Rattle.std.proofs.Common.{◌≡◌, ℕ, zero, suc, true, false, List, [], ◌∷◌, Option, Some, None, Ok, is_some, inl, inr, refl, ap, sym, ◌∙◌}
use Rattle.std.specs.Prelude.{replicate, slice_get}
use Rattle.std.proofs.lemmas.Bool.{true≢false}
use Rattle.gq_model.specs.declared.phase.Phase.{Phase}
use Rattle.gq_model.specs.declared.phase.Phase.TheVariants.{Pending, Running, Blocked, Serving, Handling, Exited}
use Rattle.gq_model.specs.machine.Doing.{Event}
use Rattle.gq_model.specs.machine.Scenario.{Component, System}
use Rattle.gq_model.specs.machine.Step.{first_signal, later_signal, next}
use Rattle.gq_model.specs.machine.World.{Signal, Leaf, World, start_leaves, start}
use Rattle.gq_model.proofs.Small_facts.{none_some, some_same}
use Rattle.gq_determined.specs.internal.Threads.{Tracked, has_work, is_active}
use Rattle.gq_determined.proofs.thread_positions.Turn_thread_position.{Goes_on, IsWorking, Steps}
use Rattle.gq_determined.proofs.thread_steps.Signal_flags.{flagged_before}

pub record Unsubmitted (w : World) : Type 0 where
  pub none : (y : ℕ) (l : Leaf) → slice_get w.leaves y ≡ Some l → first_signal l.signals ≡ None

none_first : (n : ℕ) → first_signal (replicate n (record { submitted = false; taken = 0 })) ≡ None
none_first zero = refl
none_first (suc n) = ap (later_signal (record { submitted = false; taken = 0 })) (none_first n)

none_started : (cs : List Component) (y : ℕ) (l : Leaf) → slice_get (start_leaves cs) y ≡ Some l → first_signal l.signals ≡ None
none_started [] y l e = absurd (none_some e)
none_started (c ∷ cs) zero l e = ap (λ (l : Leaf). first_signal l.signals) (sym (some_same e)) ∙ none_first c.node.signals
none_started (c ∷ cs) (suc y) l e = none_started cs y l e

pub unsubmitted_start : (system : System) → Unsubmitted (start system)
unsubmitted_start system = record { none = none_started system.components }

-- so no leaf has a signal to take
pub no_flag : (w : World) → Unsubmitted w → (y : ℕ) (l : Leaf) → slice_get w.leaves y ≡ Some l → is_some (first_signal l.signals) ≡ true → ⊥
no_flag w h y l at flag = true≢false (sym flag ∙ ap is_some (h.none y l at))

pub unsubmitted_next : (system : System) (w : World) (x : ℕ) (new : World) (event : Event) → Unsubmitted w → next system w x ≡ Ok (new, event)
    → Unsubmitted new
unsubmitted_next system w x new event h stepped = record { none = λ y l at. by y l at (first_signal l.signals) refl }
  where
    by : (y : ℕ) (l : Leaf) → slice_get new.leaves y ≡ Some l → (o : Option (ℕ × List Signal)) → first_signal l.signals ≡ o → first_signal l.signals ≡ None
    by y l at None e = e
    by y l at (Some p) e = let m = flagged_before system w x new event stepped y l at (ap is_some e) in absurd (no_flag w h y m.0 m.1 m.2)

-- and one that works goes on
pub goes_on : (g : Tracked) → Unsubmitted g.world → (i x : ℕ) (w : IsWorking g i x) → Goes_on w.at.leaf.phase
goes_on g h i x w = by w.runs
  where
    by : Steps w.at.leaf → Goes_on w.at.leaf.phase
    by (inl r) = r
    by (inr t) = absurd (no_flag g.world h x w.at.leaf w.at.there t.1)

pub active_at : (p : Phase) → Goes_on p → is_active p ≡ true
active_at p (inl r) = ap is_active r
active_at p (inr r) = ap is_active r

-- a leaf without a signal to take works just where it is active
pub works_as : (l : Leaf) → first_signal l.signals ≡ None → has_work l.phase (first_signal l.signals) ≡ is_active l.phase
works_as l none = ap (has_work l.phase) none ∙ by l.phase
  where
    by : (p : Phase) → has_work p None ≡ is_active p
    by Pending = refl
    by Running = refl
    by Blocked = refl
    by Serving = refl
    by Handling = refl
    by Exited = refl
