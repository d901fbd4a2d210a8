-- Frames that differ in one leaf.
use Rattle.std.specs.Prelude.{◌≡◌, ℕ}
use Rattle.gq_slots.specs.Slots.{Frame}

-- all but the x-th leaf is the same
pub record IsElsewhere (f g : Frame) (x : ℕ) : Type 0 where
  pub names : g.names ≡ f.names
  pub others : (y : ℕ) → (y ≡ x → ⊥) → g.leaf y ≡ f.leaf y
