-- Which account each dataspace is of.
use Rattle.std.specs.Prelude.{◌≡◌, ℕ, ◌+◌, List, [], ◌∷◌, Option, Some, None, get_or, nat_eq, if◌then◌else◌}
use Rattle.gq_dataspace.specs.Dataspaces.{Contents}
use Rattle.gq_store.specs.declared.AccountNo.{AccountNo}

-- for each number that a dataspace may have the account that pays for it, or None where there is no such dataspace
abbrev pub Owners : Type 0
Owners = List (Option AccountNo)

-- the dataspace k is of the account a
abbrev pub IsOf : Owners → ℕ → AccountNo → Type 0
IsOf os k a = get_or os k None ≡ Some a

-- what a dataspace is for the account a, if it is of that account
abbrev pub share : (List ℕ → ℕ) → ℕ → Option (List ℕ) → Option AccountNo → ℕ
share f a None o = 0
share f a (Some bs) None = 0
share f a (Some bs) (Some o) = if nat_eq o.0 a then f bs else 0

-- an amount of each dataspace of the account a, summed
abbrev pub owned : (List ℕ → ℕ) → ℕ → Contents → Owners → ℕ
owned f a [] os = 0
owned f a (s ∷ ss) [] = 0
owned f a (s ∷ ss) (o ∷ os) = share f a s o + owned f a ss os
