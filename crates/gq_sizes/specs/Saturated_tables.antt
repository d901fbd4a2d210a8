-- What is kept of a system without its quantities while its least quantities are found: numbers above 2^64 - 1 are kept as 2^64 - 1.
use Rattle.std.specs.Prelude.{◌≡◌, ℕ, suc, Bool, List, [], ◌∷◌, map}
use Rattle.gq_model.specs.machine.Amounts.{Ram, Caps, Amount, amount}
use Rattle.gq_model.specs.machine.Scenario.{Interface, Interfaces, Component, System}
use Rattle.gq_model.specs.rules.Kinds.{Subject}
use Rattle.gq_model.specs.rules.Use.{subject}
use Rattle.gq_verify.specs.Saturated_numbers.{saturated}
use Rattle.gq_sizes.specs.Size.{Gift, Given, caps_sum, least_caps, needed, own_by, ram_sum}
use Rattle.gq_sizes.specs.Passing.{endless_from}
use Rattle.gq_sizes.specs.internal.Printed_sizes.{leaf_least_printed}

-- these are the leaves of a system, what each is judged by, and the interfaces
pub record AreOf (all : System) (cs : List Component) (vs : List Subject) (ifs : Interfaces) : Type 0 where
  pub components : cs ≡ all.components
  pub leaves : vs ≡ map (subject all) all.components
  pub interfaces : ifs ≡ all.interfaces

-- the numbers of the four levels
abbrev pub row : (ℕ → ℕ) → List ℕ
row f = f 0 ∷ f 1 ∷ f 2 ∷ f 3 ∷ []

-- the least sums of need and upgrades in bytes, up to each level
abbrev pub ram_rows : System → List Gift → Interfaces → List (List ℕ)
ram_rows all given = map (λ (e : List ℕ × Interface). row (ram_sum all given e.0 e.1))

-- what sessions need in bytes, up to each level
abbrev pub needed_rows : System → Interfaces → List (List ℕ)
needed_rows all = map (λ (e : List ℕ × Interface). row (needed (λ _ _. 0) Ram all e.0 e.1))

-- the least sums in capabilities
abbrev pub caps_rows : System → Interfaces → List (List ℕ)
caps_rows all = map (λ (e : List ℕ × Interface). row (λ l. saturated (least_caps all e.0 l)))

-- what sessions need in capabilities, up to each level, along chains of at most n uses
abbrev pub sum_rows : System → ℕ → Interfaces → List (List ℕ)
sum_rows all n = map (λ (e : List ℕ × Interface). row (λ l. saturated (caps_sum n all e.0 l)))

-- the same, where so much is given for the sessions that they hold
abbrev pub round_rows : System → Given → Interfaces → List (List ℕ)
round_rows all given = map (λ (e : List ℕ × Interface). row (λ l. saturated (needed given Caps all e.0 e.1 l)))

-- what each leaf needs for itself
abbrev pub own_least : System → Component → Amount
own_least all c = amount (own_by (least_caps all) Ram (subject all c)) (saturated (own_by (least_caps all) Caps (subject all c)))

-- what each leaf needs at least, from the x-th on
abbrev pub leasts_from : System → ℕ → List Component → List Amount
leasts_from all x [] = []
leasts_from all x (c ∷ rest) = leaf_least_printed all x ∷ leasts_from all (suc x) rest

-- what each leaf needs at least, and for which of them no number of capabilities is enough
pub record AreLeast (all : System) (amounts : List Amount) (ends : List Bool) : Type 0 where
  pub least : amounts ≡ leasts_from all 0 all.components
  pub endless : ends ≡ endless_from all 0 all.components

-- what is given at least for sessions, as far as 64 bits go
abbrev pub IsLeast : System → Given → Type 0
IsLeast all given = (service : List ℕ) (level : ℕ) → given service level ≡ saturated (least_caps all service level)
