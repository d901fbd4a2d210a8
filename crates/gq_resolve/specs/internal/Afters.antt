-- Names of leaves that others start after.
use Rattle.std.specs.Prelude.{ℕ, Bool, false, ◌||◌, List, [], ◌∷◌, Option, Some, None}
use Rattle.gq_model.specs.machine.Scenario.{Component}
use Rattle.gq_model.specs.rules.Resolve.{with_name}

-- the names that these start after, the last first, before those that were there
abbrev pub named_by : List (List ℕ) → List Component → List (List ℕ)
named_by names [] = names
named_by names (c ∷ rest) = named_by (with_name c.node.after names) rest

abbrev pub holds : (List ℕ → Bool) → Option (List ℕ) → Bool
holds test None = false
holds test (Some name) = test name

-- one of these starts after a leaf of such a name
abbrev pub is_named : (List ℕ → Bool) → List Component → Bool
is_named test [] = false
is_named test (c ∷ rest) = holds test c.node.after || is_named test rest
