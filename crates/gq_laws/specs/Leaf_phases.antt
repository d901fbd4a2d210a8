-- In which phases leaves can be, by what they provide and by whom they start after.
use Rattle.std.specs.Prelude.{◌≡◌, ◌≢◌, ℕ, nat_lt, Bool, true, false, ◌||◌, List, Option, Some, None, slice_get, is_some}
use Rattle.gq_model.specs.declared.phase.Phase.{Phase}
use Rattle.gq_model.specs.declared.phase.Phase.TheVariants.{Pending, Running, Blocked, Serving, Handling, Exited}
use Rattle.gq_model.specs.machine.Scenario.{System, Component}
use Rattle.gq_model.specs.machine.World.{Leaf, World}

-- whether a leaf that provides this and has so many signals serves after its `main`
abbrev pub serves : Option (List ℕ) → ℕ → Bool
serves provides signals = is_some provides || nat_lt 0 signals

-- a phase for a leaf that provides this, or nothing, and has so many signals
abbrev pub Suits : Option (List ℕ) → ℕ → Phase → Type 0
Suits provides signals Pending = provides ≡ None
Suits provides signals Running = Unit {0}
Suits provides signals Blocked = Unit {0}
Suits provides signals Serving = serves provides signals ≡ true
Suits provides signals Handling = Unit {0}
Suits provides signals Exited = serves provides signals ≡ false

-- no leaf of this name has exited
abbrev pub NotExited : System → World → List ℕ → Type 0
NotExited system w name = (y : ℕ) (d : Component) (other : Leaf) → slice_get system.components y ≡ Some d → d.node.name ≡ name
    → slice_get w.leaves y ≡ Some other → other.phase ≢ Exited

-- a leaf is in a phase that suits what it provides and how many signals it has, one that handles a signal has some, and one that is pending starts
-- after another
-- that has not exited
pub record AreReady (system : System) (w : World) : Type 0 where
  pub suits : (x : ℕ) (c : Component) (leaf : Leaf) → slice_get system.components x ≡ Some c → slice_get w.leaves x ≡ Some leaf
      → Suits c.node.provides c.node.signals leaf.phase
  pub reacts : (x : ℕ) (c : Component) (leaf : Leaf) (i : ℕ) → slice_get system.components x ≡ Some c → slice_get w.leaves x ≡ Some leaf
      → leaf.reacting ≡ Some i → serves c.node.provides c.node.signals ≡ true
  pub waits : (x : ℕ) (c : Component) (leaf : Leaf) → slice_get system.components x ≡ Some c → slice_get w.leaves x ≡ Some leaf → leaf.phase ≡ Pending
      → (name : List ℕ) × (c.node.after ≡ Some name) × NotExited system w name
