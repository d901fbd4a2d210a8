-- The fields of a `Spaces`: which bytes lie in which frame.
use Rattle.std.specs.Prelude.{◌≡◌, ℕ, ◌*◌, ◌/◌, ◌%◌, ◌<◌, ◌≤◌, List, [], ◌∷◌, Option, Some, None, length, map, slice_index}
use Rattle.std.specs.List.{range_with_len}
use Rattle.gq_pages.specs.Frame_map.{Frames, bytes_of, count_free}
use Rattle.gq_dataspace.specs.declared.spaces.Spaces.TheInside.{Inside}
use Rattle.gq_dataspace.specs.internal.Frame_lists.{Lists, list_at, AreApart}
use Rattle.gq_dataspace.specs.Dataspaces.{Contents, Dataspaces}

-- the byte at o of what the frames xs have, one behind the other
unfoldable pub byte_in : Frames → List ℕ → ℕ → ℕ
byte_in fs xs o = slice_index (bytes_of fs (slice_index xs (o / 4096))) (o % 4096)

-- all these bytes
unfoldable pub bytes_in : Frames → List ℕ → List ℕ
bytes_in fs xs = map (byte_in fs xs) (range_with_len 0 (4096 * length xs))

-- the dataspace of these frames, none where there is none
abbrev pub space_in : Frames → List ℕ → Option (List ℕ)
space_in fs [] = None
space_in fs (x ∷ xs) = Some (bytes_in fs (x ∷ xs))

unfoldable pub spaces_in : Frames → Lists → Contents
spaces_in fs ls = map (λ r. space_in fs (list_at ls r)) (range_with_len 0 (length ls))

abbrev pub spaces_view : Inside → Dataspaces
spaces_view s = record { spaces = spaces_in s.pages s.table; free = count_free s.pages }

-- the frames of all lists have all their bytes, and so are taken
abbrev pub AreWhole : Frames → Lists → Type 0
AreWhole fs ls = (r i : ℕ) → i < length (list_at ls r) → length (bytes_of fs (slice_index (list_at ls r) i)) ≡ 4096

pub record IsSpaces (s : Inside) : Type 0 where
  -- there is a list for each frame
  pub same : length s.table ≡ length s.pages
  pub few : length s.pages ≤ 16384
  pub short : (r : ℕ) → length (list_at s.table r) ≤ 16384
  pub whole : AreWhole s.pages s.table
  pub apart : AreApart s.table
