-- Capabilities of upgrades, level by level.
use Rattle.std.specs.Prelude.{◌≡◌, ℕ, List, [], get_or, slice_get, slice_index_or, Some}
use Rattle.gq_model.specs.machine.Amounts.{Amount, amount}
use Rattle.gq_model.specs.machine.Scenario.{Interface, Interfaces}

-- these are the capabilities of these upgrades, 0 past the last one
abbrev pub IsUpgrades : List Amount → List ℕ → Type 0
IsUpgrades upgrades caps = (level : ℕ) → get_or caps level 0 ≡ (slice_index_or upgrades level (amount 0 0)).caps

-- so they are for each service
abbrev pub AreUpgrades : Interfaces → List (List ℕ) → Type 0
AreUpgrades interfaces caps = (i : ℕ) (e : List ℕ × Interface) → slice_get interfaces i ≡ Some e → IsUpgrades e.1.upgrades (get_or caps i [])
