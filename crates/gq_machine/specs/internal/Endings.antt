-- Who runs once a leaf has exited.
use Rattle.std.specs.Prelude.{◌≡◌, ℕ, ◌<◌, ◌≤◌, Bool, true, false, List, length, option_map, slice_get, Option, Some, None}
use Rattle.gq_model.specs.declared.phase.Phase.{Phase}
use Rattle.gq_model.specs.declared.phase.Phase.TheVariants as phase
use Rattle.gq_model.specs.machine.Routes.{numbered}
use Rattle.gq_model.specs.machine.Scenario.{Scenario, Component, components}
use Rattle.gq_resolve.specs.NodeTables.{number_named}
use Rattle.gq_trade.specs.Leaf_ends.{is_number}
use Rattle.gq_leaf.specs.Coded.{Coded}
use Rattle.gq_leaf.specs.Section_boundaries.{exited}

-- it is a component that starts after the leaf x
abbrev pub follows : Scenario → ℕ → Option Component → Bool
follows s x None = false
follows s x (Some d) = is_number x (number_named d.node.after (λ name. numbered 0 name (components s)))

-- who is pending runs
abbrev pub started : Phase → Phase
started phase.Pending = phase.Running
started phase.Running = phase.Running
started phase.Blocked = phase.Blocked
started phase.Serving = phase.Serving
started phase.Handling = phase.Handling
started phase.Exited = phase.Exited

abbrev pub released_if : Bool → Coded → Coded
released_if true l = record l { state = record l.state { phase = started l.state.phase } }
released_if false l = l

-- each of these leaves that waited for the leaf x runs
pub record AreReleased (s : Scenario) (x : ℕ) (ls ms : List Coded) : Type 0 where
  pub count : length ms ≡ length ls
  pub each : (y : ℕ) → slice_get ms y ≡ option_map (released_if (follows s x (slice_get (components s) y))) (slice_get ls y)

-- so it is of the leaves below a place
pub record AreReleasedBelow (s : Scenario) (x place : ℕ) (ls ms : List Coded) : Type 0 where
  pub count : length ms ≡ length ls
  pub done : (y : ℕ) → y < place → slice_get ms y ≡ option_map (released_if (follows s x (slice_get (components s) y))) (slice_get ls y)
  pub left : (y : ℕ) → place ≤ y → slice_get ms y ≡ slice_get ls y

-- the leaf x has exited, and each other that waited for it runs
pub record AreGone (s : Scenario) (x : ℕ) (ls ms : List Coded) : Type 0 where
  pub count : length ms ≡ length ls
  pub own : (l : Coded) → slice_get ls x ≡ Some l → slice_get ms x ≡ Some (record l { state = exited l.state })
  pub others : (y : ℕ) → (y ≡ x → ⊥) → slice_get ms y ≡ option_map (released_if (follows s x (slice_get (components s) y))) (slice_get ls y)
