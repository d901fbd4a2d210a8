-- What the owner of a leaf is.
use Rattle.std.specs.Prelude.{◌≡◌, ℕ, true, Some, slice_get}
use Rattle.gq_model.specs.machine.Scenario.{System, Component}
use Rattle.gq_races.specs.Races.{is_owner, opens_first, opens_later}

-- each leaf that opens sessions with the x-th in `main` is z, and each that opens some in another section has the owner z
pub record IsOwnedBy (system : System) (z x : ℕ) : Type 0 where
  pub first : (y : ℕ) (c : Component) → slice_get system.components y ≡ Some c → opens_first system x c ≡ true → y ≡ z
  pub later : (y : ℕ) (c : Component) → slice_get system.components y ≡ Some c → opens_later system x c ≡ true → is_owner system z y ≡ true
