-- The frame of a machine's leaves, one of which stands otherwise.
use Rattle.std.proofs.Common.{◌≡◌, ℕ, List, Some, refl, ap}
use Rattle.std.specs.Prelude.{slice_get, slice_set}
use Rattle.gq_model.specs.machine.Scenario.{Scenario, Component, components}
use Rattle.gq_laws.proofs.session_links.Written_world_links.{set_else, set_here}
use Rattle.gq_leaf.specs.Leaf_frames.{IsElsewhere}
use Rattle.gq_leaf.specs.Leaf_states.{leaf_of}
use Rattle.gq_leaf.specs.Coded.{Coded}
use Rattle.gq_machine.specs.Machine_world.{frame_of, leaf_in}

-- the leaf of a component in the frame
pub leaf_at : (s : Scenario) (ls : List Coded) (x : ℕ) (c : Component) (l : Coded) → slice_get (components s) x ≡ Some c → slice_get ls x ≡ Some l
    → (frame_of s ls).leaf x ≡ leaf_of c.node.program l.state
leaf_at s ls x c l ec el = λ k. leaf_in (ec k) (el k)

pub leaf_set : (s : Scenario) (ls : List Coded) (x : ℕ) (c : Component) (old new : Coded) → slice_get (components s) x ≡ Some c → slice_get ls x ≡ Some old
    → (frame_of s (slice_set ls x new)).leaf x ≡ leaf_of c.node.program new.state
leaf_set s ls x c old new ec el = leaf_at s (slice_set ls x new) x c new ec (set_here ls x new old el)

pub leaf_else : (s : Scenario) (ls : List Coded) (x y : ℕ) (new : Coded) → (y ≡ x → ⊥)
    → (frame_of s (slice_set ls x new)).leaf y ≡ (frame_of s ls).leaf y
leaf_else s ls x y new n = ap (leaf_in (slice_get (components s) y)) (set_else ls x y new n)

pub elsewhere : (s : Scenario) (ls : List Coded) (x : ℕ) (new : Coded) → IsElsewhere (frame_of s ls) (frame_of s (slice_set ls x new)) x
elsewhere s ls x new = record { names = refl; others = λ y n. leaf_else s ls x y new n }
