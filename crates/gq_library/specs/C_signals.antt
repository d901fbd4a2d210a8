-- Signals of leaves, as C submits them.
use Rattle.std.specs.Prelude.{◌≡◌, ◌<◌, ℕ, Option, Some, None, slice_get}
use Rattle.gq_model.specs.machine.Run.{submit}
use Rattle.gq_model.specs.machine.Scenario.{Scenario, Component, components}
use Rattle.gq_world.specs.World_between_turns.{World}

-- there is such a leaf, and it has this signal
abbrev pub has_signal : Option Component → ℕ → Type 0
has_signal None signal = ⊥
has_signal (Some c) signal = signal < c.node.signals

abbrev pub HasSignal : Scenario → ℕ → ℕ → Type 0
HasSignal s leaf signal = has_signal (slice_get (components s) leaf) signal

-- a signal of a leaf was submitted
pub record IsSubmitted (old new : World) (leaf signal : ℕ) : Type 0 where
  pub there : HasSignal old.scenario leaf signal
  pub scenario : new.scenario ≡ old.scenario
  pub submitted : new.world ≡ submit old.world leaf signal
