-- Texts that are loaded, or refused.
use Rattle.std.specs.Prelude.{◌≡◌, false, List, ℕ, Option, Some, None, Ok, IfOk}
use Rattle.gq_model.specs.machine.Scenario.{system}
use Rattle.gq_model.specs.machine.World as model
use Rattle.gq_model.specs.rules.Accept.{IsAccepted}
use Rattle.gq_load.specs.Load.{loaded}
use Rattle.gq_world.specs.Headline.{Upholding}
use Rattle.gq_world.specs.World_between_turns.{World}

-- the world at the start of the accepted scenario of a text, of which every run upholds what is promised
pub record Starts (text : List ℕ) (w : World) : Type 0 where
  pub loads : loaded text ≡ Ok w.scenario
  pub starts : w.world ≡ model.start (system w.scenario)
  pub running : w.stopped ≡ false
  pub accepted : IsAccepted w.scenario
  pub upholds : Upholding w.scenario

-- the definition refuses the text
abbrev pub IsRefused : List ℕ → Type 0
IsRefused text = IfOk (loaded text) (λ _. ⊥)

-- there is a world, of which this holds
abbrev pub Holds : Option World → (World → Type 0) → Type 0
Holds None P = ⊥
Holds (Some w) P = P w
