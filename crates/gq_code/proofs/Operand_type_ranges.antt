-- The numbers of a type are in its range.
use Rattle.std.proofs.Common.{◌≡◌, ℕ, suc, ◌≤◌, List, [], ◌∷◌, get_or, true, refl, arith}
use Rattle.std.specs.Prelude.{nat_le}
use Rattle.std.proofs.lemmas.Bool.{and_from, le-leb}
use Rattle.gq_model.specs.machine.Lists.{all_of, between}

pub all_between : (high : ℕ) (xs : List ℕ) → ((k : ℕ) → get_or xs k 0 ≤ high) → all_of (between 0 high) xs ≡ true
all_between high [] h = refl
all_between high (x ∷ xs) h =
    and_from (between 0 high x) (all_of (between 0 high) xs)
    (and_from (nat_le 0 x) (nat_le x high) (le-leb 0 x (omega arith)) (le-leb x high (h 0)))
    (all_between high xs (λ k. h (suc k)))
