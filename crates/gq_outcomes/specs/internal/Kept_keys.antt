-- The key of what is kept of a settled world.
use Rattle.std.specs.Prelude.{ℕ, List, ◌++◌}
use Rattle.gq_outcomes.specs.Outcomes.{Kept}
use Rattle.gq_outcomes.specs.internal.Keys.{list_key, text_key, world_key}

abbrev pub kept_key : Kept → List ℕ
kept_key k = world_key k.world ++ list_key text_key k.said
