-- Numbers that are kept as far as they go.
use Rattle.std.proofs.Common.{◌≡◌, ℕ, zero, suc, arith, ◌*◌, min}

-- a product of a number that is kept as far as it goes
pub times : (m n c : ℕ) → min (min c m * n) m ≡ min (c * n) m
times m zero c = grind arith
times m (suc n) c = grind arith
