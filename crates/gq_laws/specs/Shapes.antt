-- How many of each thing a world has.
use Rattle.std.specs.Prelude.{◌≡◌, ℕ, ◌<◌, ◌≤◌, List, [], ◌∷◌, length, Option, Some, None, slice_get, slice_index}
use Rattle.gq_model.specs.machine.Scenario.{System, Component}
use Rattle.gq_model.specs.machine.World.{Session, Leaf, World}

-- so it is for each of these
abbrev pub Each : {A : Type 0} → (A → Type 0) → List A → Type 0
Each P [] = Unit {0}
Each P (a ∷ rest) = P a × Each P rest

-- a leaf has 64 slots, 8 locals, a peak for each of the 8 classes, and 8 inputs
abbrev pub IsWholeLeaf : Leaf → Type 0
IsWholeLeaf leaf = (length leaf.slots ≡ 64) × (length leaf.locals ≡ 8) × (length leaf.peaks ≡ 8) × (length leaf.inputs ≡ 8)

-- each input that has a greatest value is at most that
abbrev pub AreInputs : List ℕ → List ℕ → Type 0
AreInputs greatest inputs = (i n : ℕ) → slice_get greatest i ≡ Some n → slice_index inputs i ≤ n

-- a session has 8 slots, and its client and its server are among the n leaves
abbrev pub IsWholeSession : ℕ → Option Session → Type 0
IsWholeSession n None = Unit {0}
IsWholeSession n (Some s) = (length s.slots ≡ 8) × (s.client < n) × (s.server < n)

-- there is a leaf for each component, with inputs that it may have, and as many signals as it has; leaves and sessions are whole
pub record IsWholeWorld (system : System) (w : World) : Type 0 where
  pub count : length w.leaves ≡ length system.components
  pub leaves : Each IsWholeLeaf w.leaves
  pub inputs : (x : ℕ) (c : Component) (leaf : Leaf) → slice_get system.components x ≡ Some c → slice_get w.leaves x ≡ Some leaf
      → AreInputs c.node.inputs leaf.inputs
  pub signals : (x : ℕ) (c : Component) (leaf : Leaf) → slice_get system.components x ≡ Some c → slice_get w.leaves x ≡ Some leaf
      → length leaf.signals ≡ c.node.signals
  pub sessions : Each (IsWholeSession (length system.components)) w.sessions
