-- The places of a region map: windows of 2 ^ 26 addresses, one behind the other from address 0 on.
use Rattle.std.specs.Prelude.{ℕ, suc, ◌/◌, ◌%◌, List, [], ◌∷◌, Option, Some, None, get_or, nat_lt, if◌then◌else◌, is_some, IsTrue}
use Rattle.gq_region.specs.declared.map.Range.{Range}

-- what is attached at each place, None where it is free
abbrev pub Places : Type 0
Places = List (Option Range)

-- there is a place k, and something is attached there
abbrev pub IsTaken : Places → ℕ → Type 0
IsTaken ps k = IsTrue (is_some (get_or ps k None))

-- the lowest place that is free, or how many places there are where none is
abbrev pub lowest_free : Places → ℕ
lowest_free [] = 0
lowest_free (None ∷ ps) = 0
lowest_free (Some r ∷ ps) = suc (lowest_free ps)

-- where the offset o of a place lies: the dataspace and the offset there, where it is inside the range
abbrev pub inside : Option Range → ℕ → Option (ℕ × ℕ)
inside None o = None
inside (Some r) o = if nat_lt o r.size then Some (r.ds, o) else None

-- where an address lies
abbrev pub resolved : Places → ℕ → Option (ℕ × ℕ)
resolved ps a = inside (get_or ps (a / 67108864) None) (a % 67108864)
