-- Tests of bytes.
use Rattle.std.specs.Prelude.{ℕ, nat_le, Bool, ◌&&◌}

-- low to high
abbrev pub between : ℕ → ℕ → ℕ → Bool
between low high n = nat_le low n && nat_le n high

-- 0 to 9
abbrev pub is_digit : ℕ → Bool
is_digit = between 48 57
