-- Numbers of leaves and nodes, as C reads them.
use Rattle.std.specs.Prelude.{ℕ, Option, Some, None}

-- a number, or what stands for none
abbrev pub number_or : Option ℕ → ℕ
number_or None = 4294967295
number_or (Some n) = n
