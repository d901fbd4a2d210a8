-- A list of frames as a tree: the frame at i has links to those at 16 * i to 16 * i + 15, and the first one to all below 16. So the
-- way to the frame at i has a link for each digit of i in base 16.
use Rattle.std.specs.Prelude.{ℕ, ◌/◌, List, nat_lt, if◌then◌else◌, slice_index}

-- of the list xs that begins with the frame r, the frame that has the link to the frame at k
unfoldable pub parent_at : List ℕ → ℕ → ℕ → ℕ
parent_at xs r k = if nat_lt k 16 then r else slice_index xs (k / 16)
