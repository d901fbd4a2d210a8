-- Sums of products.
use Rattle.std.specs.Prelude.{ℕ, ◌+◌, ◌*◌, List, [], ◌∷◌}

-- the sum of the products of the numbers at the same places
abbrev pub products : List ℕ → List ℕ → ℕ
products (count ∷ counts) (often ∷ more) = count * often + products counts more
products [] often = 0
products (count ∷ counts) [] = 0
