-- What a turn does to the leaf that takes it, and to no other.
use Rattle.std.specs.Prelude.{◌≡◌, ℕ, suc, true, false, List, length, map, Option, Some, None, Ok, slice_get, slice_index, slice_set}
use Rattle.gq_model.specs.machine.Scenario.{System}
use Rattle.gq_model.specs.machine.World.{Signal, Leaf, World}
use Rattle.gq_model.specs.declared.phase.Phase.{Phase}
use Rattle.gq_model.specs.declared.phase.Phase.TheVariants.{Serving}
use Rattle.gq_model.specs.machine.Doing.{Event, Idle}
use Rattle.gq_model.specs.machine.Step.{first_signal, next}
use Rattle.gq_model.specs.machine.Rest.{can_run}

-- a turn of a leaf that can not run changes nothing and shows nothing
abbrev pub StandsStill : System → World → ℕ → Type 0
StandsStill system w x = can_run system w x ≡ false → next system w x ≡ Ok (w, Idle)

-- there are as many leaves as before
abbrev pub KeepsLeaves : System → World → ℕ → Type 0
KeepsLeaves system w x = (new : World) (event : Event) → next system w x ≡ Ok (new, event) → length new.leaves ≡ length w.leaves

-- the steps that each leaf has taken
abbrev pub steps_of : World → List ℕ
steps_of w = map (λ leaf. leaf.steps) w.leaves

-- the signals of each leaf
abbrev pub signals_of : World → List (List Signal)
signals_of w = map (λ leaf. leaf.signals) w.leaves

abbrev pub signals_if : List Signal → Option (ℕ × List Signal) → List Signal
signals_if signals None = signals
signals_if signals (Some p) = p.1

-- those of a leaf after a step: one that serves takes the first that is submitted
abbrev pub signals_then : Leaf → Phase → List Signal
signals_then leaf Serving = signals_if leaf.signals (first_signal leaf.signals)
signals_then leaf phase = leaf.signals

-- a step changes the signals of no other leaf
abbrev pub TakesSignals : System → World → ℕ → Type 0
TakesSignals system w x =
    (leaf : Leaf) (new : World) (event : Event) → can_run system w x ≡ true → slice_get w.leaves x ≡ Some leaf → next system w x ≡ Ok (new, event)
    → signals_of new ≡ slice_set (signals_of w) x (signals_then leaf leaf.phase)

-- a step raises that leaf's number by one, and no other's
abbrev pub CountsSteps : System → World → ℕ → Type 0
CountsSteps system w x =
    (new : World) (event : Event) → can_run system w x ≡ true → next system w x ≡ Ok (new, event)
    → steps_of new ≡ slice_set (steps_of w) x (suc (slice_index (steps_of w) x))
