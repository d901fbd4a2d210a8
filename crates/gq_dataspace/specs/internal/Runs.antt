-- The fields of a `FrameLists`: which frames of a list follow one another.
use Rattle.std.specs.Prelude.{◌≡◌, ℕ, ◌+◌, ◌<◌, ◌≤◌, List, length, slice_index, get_or}
use Rattle.gq_dataspace.specs.declared.frame_lists.FrameLists.TheInside.{Inside}
use Rattle.gq_dataspace.specs.internal.Frame_lists.{Lists, list_at}

-- the first n entries of the list r are r, r + 1, and so on, all below m
pub record IsRun (xs : List ℕ) (r n m : ℕ) : Type 0 where
  pub within : n ≤ length xs
  pub entries : (i : ℕ) → i < n → slice_index xs i ≡ r + i
  pub below : 0 < n → r + n ≤ m

pub record AreRuns (ls : Lists) (runs : List ℕ) : Type 0 where
  pub few : length ls ≤ 16384
  pub same : length runs ≡ length ls
  pub each : (r : ℕ) → IsRun (list_at ls r) r (get_or runs r 0) (length ls)

abbrev pub lists_view : Inside → Lists
lists_view f = f.table

abbrev pub HasRuns : Inside → Type 0
HasRuns f = AreRuns f.table f.runs.items
