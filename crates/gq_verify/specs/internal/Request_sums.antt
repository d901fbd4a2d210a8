-- How requests are added up.
use Rattle.std.specs.Prelude.{◌≡◌, ℕ, ◌<◌, ◌+◌, max, true, List, length, Option, Some, None, get_or}
use Rattle.gq_model.specs.declared.section.Section.{Section}
use Rattle.gq_verify.specs.Saturated_numbers.{saturated}
use Rattle.gq_verify.specs.Requested.{Requested, requests_for, is_for}

-- so many more for each section of a service
abbrev pub Adds : List Requested → List Requested → (List ℕ → Section → ℕ) → Type 0
Adds new old more = (v : List ℕ) (r : Section) → saturated (requests_for new v r) ≡ saturated (requests_for old v r + more v r)

-- as many as the greater of both
abbrev pub Raises : List Requested → List Requested → List Requested → Type 0
Raises new old others = (v : List ℕ) (r : Section) → saturated (requests_for new v r) ≡ saturated (max (requests_for old v r) (requests_for others v r))

-- those at this place are for this section of this service
abbrev pub IsAt : Option ℕ → List ℕ → Section → List Requested → Type 0
IsAt None service section all = Unit {0}
IsAt (Some i) service section all = (i < length all) × ((e : Requested) → is_for service section (get_or all i e) ≡ true)
