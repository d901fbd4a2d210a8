-- Which resources are counted.
use Rattle.std.specs.Prelude.{◌≡◌, ◌⊎◌, List, [], ◌∷◌}
use Rattle.gq_model.specs.machine.Amounts.{Resource}

-- it is one of these resources
abbrev pub IsAmong : Resource → List Resource → Type 0
IsAmong r [] = ⊥
IsAmong r (q ∷ rest) = (r ≡ q) ⊎ IsAmong r rest
