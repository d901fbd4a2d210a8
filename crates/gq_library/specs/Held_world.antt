-- What C holds of a world.
use Rattle.std.specs.Prelude.{Option, Some, None}
use base.Fml.{Fml, feq, fex}
use denote.RawPtr.{Ptr, null_ptr}
use Rattle.std.specs.Box.Ownership.{box_owns}
use Rattle.std.specs.contracts.impls.GlobalAllocator.TheImpl.{ghosts}
use Rattle.std.specs.declared.alloc.Global.{Global}
use Rattle.gq_world.specs.World_between_turns.{World}
use Rattle.gq_world.specs.contracts.world.World.{the_row as world_row}

-- The world x is at p, in a block that this handle of the heap may free.
abbrev pub boxed : Ptr → World → Global → Fml
boxed p x heap = box_owns (ghosts.dealloc_token heap) world_row p x

-- Null holds nothing; any other pointer holds a world in a block of the heap.
abbrev pub held_owns : Ptr → Option World → Fml
held_owns p None = feq Ptr p null_ptr
held_owns p (Some x) = fex Global (boxed p x)
