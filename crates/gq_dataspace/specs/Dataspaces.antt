-- What a contract sees of a `Spaces`.
use Rattle.std.specs.Prelude.{◌≡◌, ◌<◌, ◌-◌, ℕ, List, Option, Some, None, length, take, get_or, nat_lt, if◌then◌else◌, IsTrue}
use Rattle.gq_pages.specs.Frame_map.{has_bytes, its_bytes}

-- an entry for each number that a dataspace may have: its bytes, or None where there is none
abbrev pub Contents : Type 0
Contents = List (Option (List ℕ))

-- the dataspaces, and how many frames are free
pub record Dataspaces : Type 0 where
  pub spaces : Contents
  pub free : ℕ

-- there is a dataspace k
abbrev pub IsLive : Contents → ℕ → Type 0
IsLive ss k = IsTrue (has_bytes (get_or ss k None))

-- there is none, and there may be one
abbrev pub IsVacant : Contents → ℕ → Type 0
IsVacant ss k = (k < length ss) × (get_or ss k None ≡ None)

-- the bytes of the dataspace k
abbrev pub content_of : Contents → ℕ → List ℕ
content_of ss k = its_bytes (get_or ss k None)

-- a dataspace without its last page, none where it has no other
unfoldable pub shorter : List ℕ → Option (List ℕ)
shorter bs = if nat_lt 4096 (length bs) then Some (take (length bs - 4096) bs) else None
