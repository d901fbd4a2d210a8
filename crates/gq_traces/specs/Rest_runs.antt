-- What a run over scheduled turns comes to.
use Rattle.std.specs.Prelude.{◌≡◌, ℕ, Bool, true, false, List, Option, None, Ok}
use Rattle.std.specs.Io.KnownBytes.{Appends}
use Rattle.gq_model.specs.machine.Run.{Acts, run}
use Rattle.gq_model.specs.machine.Scenario.{Scenario, system}
use Rattle.gq_model.specs.machine.World.{World}
use Rattle.gq_model.specs.texts.Turns.{turned}
use Rattle.gq_laws.specs.Progress.{AllRest}
use Rattle.gq_load.specs.Load.{loaded}
use Rattle.gq_traces.specs.Schedule.{is_cut, schedule_text}

-- a run over these turns, settings and signals comes to no wrong step, and ends in this world
pub record EndsIn (s : Scenario) (acts : Acts) (w : World) : Type 0 where
  pub world : (run (system s) acts).world ≡ w
  pub right : (run (system s) acts).wrong ≡ None

-- where the turns are not cut, every leaf is at rest
abbrev pub RestsUnless : Bool → World → Type 0
RestsUnless true w = Unit {0}
RestsUnless false w = AllRest w

-- from bytes to bytes: the scenario is loaded, and the text is read as turns and signals, over which a run comes to no wrong step and, unless they are cut, to
-- rest
pub record BringsToRest (seed times : Option ℕ) (scenario text : List ℕ) : Type 0 where
  pub accepted : Scenario
  pub loads : loaded scenario ≡ Ok accepted
  pub reports : text ≡ schedule_text seed times accepted
  pub acts : Acts
  pub reads : turned accepted text ≡ Ok acts
  pub world : World
  pub ends : EndsIn accepted acts world
  pub rests : RestsUnless (is_cut seed times accepted) world

-- such a text was written, and nothing else
pub record WritesToRest (seed times : Option ℕ) (scenario : List ℕ) (before after : Option (List ℕ)) : Type 0 where
  pub text : List ℕ
  pub rests : BringsToRest seed times scenario text
  pub written : Appends before after text
