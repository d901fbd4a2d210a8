-- Tests and searches over lists.
use Rattle.std.specs.Prelude.{ℕ, max, Bool, true, false, ◌&&◌, ◌||◌, List, [], ◌∷◌, Option, Some, None}
pub use Rattle.gq_tariff.specs.Byte_tests.{between}

abbrev pub any_of : {A : Type 0} → (A → Bool) → List A → Bool
any_of test [] = false
any_of test (a ∷ rest) = test a || any_of test rest

abbrev pub all_of : {A : Type 0} → (A → Bool) → List A → Bool
all_of test [] = true
all_of test (a ∷ rest) = test a && all_of test rest

-- the first of two where it is there, else the second
abbrev pub or_first : {A : Type 0} → Option A → Option A → Option A
or_first (Some a) b = Some a
or_first None b = b

-- the greatest number that f gives, or 0
abbrev pub greatest : {A : Type 0} → (A → ℕ) → List A → ℕ
greatest f [] = 0
greatest f (a ∷ rest) = max (f a) (greatest f rest)
