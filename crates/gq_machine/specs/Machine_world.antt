-- The world of a machine's leaves and slots.
use Rattle.std.specs.Prelude.{List, [], slice_get, Option, Some, None}
use Rattle.gq_model.specs.declared.phase.Phase.TheVariants.{Exited}
use Rattle.gq_model.specs.machine.Program.{Done}
use Rattle.gq_model.specs.machine.Scenario.{Scenario, Component, components}
use Rattle.gq_model.specs.machine.World as world
use Rattle.gq_slots.specs.Slots.{Frame, Slots, world_seen}
use Rattle.gq_leaf.specs.Leaf_states.{leaf_of}
use Rattle.gq_prepared.specs.Prepared.{names_of}
use Rattle.gq_leaf.specs.Coded.{Coded}

abbrev pub no_leaf : world.Leaf
no_leaf =
    record {
      phase = Exited;
      current = None;
      reacting = None;
      todo = Done;
      loops = [];
      operands = [];
      locals = [];
      slots = [];
      peaks = [];
      steps = 0;
      inputs = [];
      signals = [];
    }

-- a leaf that runs the program of its component
abbrev pub leaf_in : Option Component → Option Coded → world.Leaf
leaf_in None o = no_leaf
leaf_in (Some c) None = no_leaf
leaf_in (Some c) (Some l) = leaf_of c.node.program l.state

-- all leaves, and the names of the services
abbrev pub frame_of : Scenario → List Coded → Frame
frame_of s ls = record { names = names_of s; leaf = λ x. leaf_in (slice_get (components s) x) (slice_get ls x) }

-- the world of these leaves over these slots
abbrev pub world_of : Scenario → List Coded → Slots → world.World
world_of s ls t = world_seen (frame_of s ls) t
