-- A world that a call owns, lent to be changed.
use Rattle.std.specs.Borrow.{Lends, MutBor, Fml}
use Rattle.gq_world.specs.World_between_turns.{World}
use Rattle.gq_world.specs.contracts.world.World.{the_row as world_row}
use Rattle.gq_library.specs.declared.held.OwnedWorld.{OwnedWorld}
use Rattle.gq_library.specs.contracts.held.OwnedWorld.{the_row}

-- o with this world in its box
abbrev pub with_world : OwnedWorld → World → OwnedWorld
with_world o w = record o { boxed = record o.boxed { value = w } }

-- o ends with the last world behind r in its box
abbrev pub LendsWorld : MutBor OwnedWorld → MutBor World → Fml
LendsWorld o r = Lends the_row world_row o r (with_world o.now)
