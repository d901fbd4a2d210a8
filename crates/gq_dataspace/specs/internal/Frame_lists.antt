-- The frames of each dataspace, as lists of their numbers.
use Rattle.std.specs.Prelude.{◌≡◌, ℕ, ◌<◌, List, [], length, slice_index, get_or}

-- an entry for each frame: the frames of the dataspace that begins with it, or none where none does
abbrev pub Lists : Type 0
Lists = List (List ℕ)

-- the frames of the dataspace that begins with the frame r
abbrev pub list_at : Lists → ℕ → List ℕ
list_at ls r = get_or ls r []

-- each list begins with its own number, and no number is in two places
pub record AreApart (ls : Lists) : Type 0 where
  pub heads : (r : ℕ) → 0 < length (list_at ls r) → slice_index (list_at ls r) 0 ≡ r
  pub once : (r g i j : ℕ) → i < length (list_at ls r) → j < length (list_at ls g) → slice_index (list_at ls r) i ≡ slice_index (list_at ls g) j → (r ≡ g)
      × (i ≡ j)

-- the number r is in its own list only
abbrev pub IsOwn : Lists → ℕ → Type 0
IsOwn ls r = (g i : ℕ) → i < length (list_at ls g) → slice_index (list_at ls g) i ≡ r → g ≡ r

-- each number in a list is below n
abbrev pub AreBelow : Lists → ℕ → Type 0
AreBelow ls n = (r i : ℕ) → i < length (list_at ls r) → slice_index (list_at ls r) i < n
