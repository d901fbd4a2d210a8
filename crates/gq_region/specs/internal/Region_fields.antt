-- The fields of a `RegionMap`.
use Rattle.std.specs.Prelude.{ℕ, ◌<◌, ◌≤◌, length}
use Rattle.gq_region.specs.declared.map.RegionMap.TheInside.{Inside}
use Rattle.gq_region.specs.Region_places.{IsTaken}

pub record IsMap (m : Inside) : Type 0 where
  pub few : length m.places.items ≤ 1048576
  pub within : m.low ≤ length m.places.items
  -- no place below is free
  pub low : (k : ℕ) → k < m.low → IsTaken m.places.items k
