-- How the lines of a leaf are kept.
use Rattle.std.specs.Prelude.{ℕ, ◌≡◌, ◌≤◌, ◌+◌, List, length, take}
use Rattle.gq_output.specs.LeafLines.{prefix_of}

-- the prefix is that of this label, and so many bytes are in use
pub record AreGathered (label prefix : List ℕ) (prefix_length : ℕ) (bytes : List ℕ) (used : ℕ) : Type 0 where
  pub is : take prefix_length prefix ≡ prefix_of label
  pub short : prefix_length ≤ 99
  pub room_prefix : length prefix ≡ 160
  pub room : length bytes ≡ 4096
  pub inside : used ≤ 4096
