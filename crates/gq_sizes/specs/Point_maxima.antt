-- What visitors keep of the points that they are shown.
use Rattle.std.specs.Prelude.{◌≡◌, ℕ, ◌+◌, ◌^◌, ◌<◌, ◌≤◌, min, List, [], Option, Some, None, get_or, sum_by}
use Rattle.gq_tariff.specs.Prices.{classes}
use Rattle.gq_model.specs.machine.Amounts.{Ram, Caps}
use Rattle.gq_model.specs.machine.Scenario.{Interface, Interfaces}
use Rattle.gq_model.specs.rules.Kinds.{AbstractState, kind_places, session_cost}
use Rattle.gq_program.specs.Interfaces.{place_in}
use Rattle.gq_verify.specs.Saturated_numbers.{saturated}
use Rattle.gq_verify.specs.Visits.{Sight, raised}
use Rattle.gq_sizes.specs.Size.{Given, slots_cost}

-- the sum up to a level of the interface at a place; no section is of a level above 3
abbrev pub sum_at : Option ℕ → List (List ℕ) → ℕ → ℕ
sum_at None sums level = 0
sum_at (Some place) sums level = get_or (get_or sums place []) (min level 3) 0

-- what is given by these sums
abbrev pub given_in : Interfaces → List (List ℕ) → Given
given_in interfaces sums service level = sum_at (place_in service interfaces) sums level

-- the most bytes that a session costs
abbrev pub RaisesRam : Interface → ℕ → Sight → ℕ → Type 0
RaisesRam i a e b = b ≡ raised (λ (s : AbstractState). session_cost Ram i s.bank) a e

-- the most capabilities that a session costs, as far as 64 bits go
abbrev pub RaisesCaps : Given → ℕ → Sight → ℕ → Type 0
RaisesCaps given a e b = b ≡ raised (λ (s : AbstractState). saturated (1 + slots_cost given Caps s.bank)) a e

-- the most capabilities of own slots, and the most places of each class
abbrev pub RaisesOwn : Given → ℕ → Sight → ℕ → Type 0
RaisesOwn given a e b = b ≡ raised (λ (s : AbstractState). saturated (slots_cost given Caps s.own)) a e

abbrev pub RaisesPlaces : List ℕ → Sight → List ℕ → Type 0
RaisesPlaces a e b = (k : ℕ) → k < 8 → get_or b k 0 ≡ raised (λ (s : AbstractState). sum_by (kind_places (get_or classes k 0)) s.own) (get_or a k 0) e

-- numbers of places stay few
abbrev pub AreFewMore : List ℕ → List ℕ → Type 0
AreFewMore a b = (k : ℕ) → k < 8 → get_or a k 0 ≤ 2 ^ 22 → get_or b k 0 ≤ 2 ^ 22
