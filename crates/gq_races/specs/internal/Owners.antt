-- The owners of leaves, as the code finds them: any leaf, one, or nobody.
use Rattle.std.specs.Prelude.{◌≡◌, ◌<◌, ℕ, zero, suc, ◌==◌, Bool, true, false, ◌&&◌, not, List, [], ◌∷◌, length, map, get_or, Option}
use Rattle.gq_model.specs.machine.Lists.{any_of}
use Rattle.gq_model.specs.rules.Use.{is_there}
use Rattle.gq_races.specs.declared.owners.Owner.{Owner}
use Rattle.gq_races.specs.declared.owners.Owner.TheVariants.{Any, Only, Nobody}
use Rattle.gq_model.specs.machine.Scenario.{Component}
use Rattle.gq_races.specs.Races.{any_below, implies}
use Rattle.gq_races.specs.internal.Openers.{opened_from}

-- z is an owner
abbrev pub admits : Owner → ℕ → Bool
admits Any z = true
admits (Only y) z = y == z
admits Nobody z = false

-- of the x-th of these leaves
abbrev pub admits_at : List Owner → ℕ → ℕ → Bool
admits_at [] z x = false
admits_at (o ∷ rest) z zero = admits o z
admits_at (o ∷ rest) z (suc x) = admits_at rest z x

-- the leaves with which a leaf opens sessions in `main`, and those with which it does so in other sections
abbrev pub Opens : Type 0
Opens = List (Option ℕ) × List (Option ℕ)

-- each of these leaves, of which the first is the y-th, opens sessions with the x-th for z alone
abbrev pub all_kept : (ℕ → Bool) → ℕ → ℕ → ℕ → List Opens → Bool
all_kept owned z x y [] = true
all_kept owned z x y (o ∷ rest) =
    implies (any_of (is_there x) o.0) (y == z) && implies (any_of (is_there x) o.1) (owned y) && all_kept owned z x (suc y) rest

-- z is the owner of the x-th leaf, by chains of fewer than n leaves
abbrev pub owns_kept : ℕ → List Opens → ℕ → ℕ → Bool
owns_kept zero opened z x = false
owns_kept (suc n) opened z x = all_kept (owns_kept n opened z) z x 0 opened

-- whether each of these leaves is shared
abbrev pub AreSharedBy : List Opens → List Bool → Type 0
AreSharedBy opened shared =
    (length shared ≡ length opened)
    × ((x : ℕ) (b : Bool) → x < length opened → b ≡ get_or shared x b
    → b ≡ not (any_below (λ z. owns_kept (length opened) opened z x) (length opened)))

abbrev pub AreShared : List Component → List Bool → Type 0
AreShared all shared = AreSharedBy (map (opened_from all) all) shared
