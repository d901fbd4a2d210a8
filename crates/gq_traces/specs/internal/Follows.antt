-- Turns that are taken unreported.
use Rattle.std.specs.Prelude.{◌≡◌, ◌≤◌, ◌+◌, ℕ, false}
use Rattle.gq_world.specs.World_between_turns.{World}
use Rattle.gq_traces.specs.Trace.{Traced}
use Rattle.gq_traces.specs.declared.follow.Followed.{Followed}
use Rattle.gq_traces.specs.internal.Flat.{AllStand, AreAheads, ArePrograms, programs_of}

-- the programs are those of the scenario, each leaf stands somewhere, and the world is not stopped
pub record IsFollowed (f : Followed) (w : World) : Type 0 where
  pub programs : ArePrograms f.programs.items (programs_of w.scenario)
  pub stand : AllStand f.programs.items f.aheads.items
  pub running : w.stopped ≡ false

-- it is where this run is
pub record IsAt (f : Followed) (w : World) (t : Traced) : Type 0 where
  pub world : t.world ≡ w.world
  pub aheads : AreAheads f.programs.items f.aheads.items t.aheads

-- each run that was there came to where it goes on to, with at most so many signals
pub record Follows (most : ℕ) (go : Traced → Traced) (old new : World) (before after : Followed) : Type 0 where
  pub scenario : new.scenario ≡ old.scenario
  pub signals : new.signals ≤ old.signals + most
  pub followed : IsFollowed after new
  pub at : (t : Traced) → IsAt before old t → IsAt after new (go t)
