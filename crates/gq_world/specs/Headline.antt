-- What is promised of every run of an accepted scenario, from bytes to bytes.
use Rattle.std.specs.Prelude.{◌≡◌, ℕ, List, Option, Ok}
use Rattle.std.specs.Io.KnownBytes.{Appends}
use Rattle.gq_model.specs.machine.Scenario.{Scenario}
use Rattle.gq_model.specs.machine.Accounts.{whole}
use Rattle.gq_model.specs.rules.Accept.{budgets, step_budgets, IsAccepted}
use Rattle.gq_model.specs.Promises.{IsUpheld, Upholds}
use Rattle.gq_model.specs.texts.Turns.{turned}
use Rattle.gq_laws.specs.Stands.{Stands}
use Rattle.gq_load.specs.Load.{loaded}
use Rattle.gq_world.specs.World_between_turns as worlds
use Rattle.gq_model.specs.machine.Run.{Acts}

-- the same of a world of the code, where only that it holds is said
abbrev pub Upheld : worlds.World → Type 0
Upheld w = ∥ IsUpheld w.scenario w.world ∥₁

-- that it is one of those from which all that is promised follows
abbrev pub Standing : worlds.World → Type 0
Standing w = ∥ Stands w.scenario w.world ∥₁

-- whatever the turns, settings and signals, a run of it upholds what is promised
abbrev pub Upholding : Scenario → Type 0
Upholding s = (turns : Acts) → Upholds s turns

-- from bytes to bytes: the scenario is loaded and accepted, the turns are read, the text is the whole text of their run, and the runs of the scenario over all
-- lists of turns, settings and signals uphold what is promised, hence also each world on the way
pub record IsPromised (scenario turns text : List ℕ) : Type 0 where
  pub accepted : Scenario
  pub loads : loaded scenario ≡ Ok accepted
  pub is_accepted : IsAccepted accepted
  pub taken : Acts
  pub reads : turned accepted turns ≡ Ok taken
  pub writes : text ≡ whole accepted (step_budgets (budgets accepted)) taken
  pub upholds : Upholding accepted

-- such a text was written, and nothing else
pub record WritesPromised (scenario turns : List ℕ) (before after : Option (List ℕ)) : Type 0 where
  pub text : List ℕ
  pub promised : IsPromised scenario turns text
  pub written : Appends before after text
