-- How statements are counted.
use Rattle.std.specs.Prelude.{ℕ, ◌-◌, nat_le, if◌then◌else◌, Option, Some, None}

-- m without n, where there are so many
abbrev pub less : ℕ → ℕ → Option ℕ
less n m = if nat_le n m then Some (m - n) else None
