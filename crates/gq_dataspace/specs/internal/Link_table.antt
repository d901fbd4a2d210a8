-- The fields of a `FrameTable`: how sixteen links for each frame keep the lists.
use Rattle.std.specs.Prelude.{◌≡◌, ℕ, zero, suc, ◌+◌, ◌*◌, ◌%◌, ◌≤◌, List, [], ◌∷◌, ◌++◌, length, map, slice_index}
use Rattle.std.specs.List.{range_with_len}
use Rattle.gq_dataspace.specs.declared.frames.FrameTable.TheInside.{Inside}
use Rattle.gq_dataspace.specs.internal.Frame_lists.{Lists, AreBelow}
use Rattle.gq_dataspace.specs.internal.List_trees.{parent_at}

-- the place of that link
abbrev pub link_at : List ℕ → ℕ → ℕ → ℕ
link_at xs r k = 16 * parent_at xs r k + k % 16

-- the first k frames of the list that begins with the frame r
abbrev pub frames_in : List ℕ → ℕ → ℕ → List ℕ
frames_in links r zero = []
frames_in links r (suc k) = frames_in links r k ++ slice_index links (link_at (frames_in links r k) r k) ∷ []

-- the list that begins with the frame r
unfoldable pub list_in : List ℕ → List ℕ → ℕ → List ℕ
list_in links counts r = frames_in links r (slice_index counts r)

unfoldable pub lists_in : List ℕ → List ℕ → Lists
lists_in links counts = map (list_in links counts) (range_with_len 0 (length counts))

abbrev pub table_view : Inside → Lists
table_view t = lists_in t.links.items t.counts.items

pub record IsTable (t : Inside) : Type 0 where
  pub few : length t.counts.items ≤ 16384
  pub room : length t.links.items ≡ 16 * length t.counts.items
  pub below : AreBelow (table_view t) (length t.counts.items)
