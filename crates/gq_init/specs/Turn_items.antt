-- What a line gives, as an item of a list holds it.
use Rattle.std.specs.Prelude.{ℕ, ◌-◌, ◌<◌, nat_lt, if◌then◌else◌}
use Rattle.gq_model.specs.declared.act.Act.{Act}
use Rattle.gq_model.specs.declared.act.Act.TheVariants.{Turns, Sets, Submits}
use Rattle.gq_model.specs.declared.act.TurnLine.{TurnLine}
use Rattle.gq_model.specs.declared.act.TurnLine.TheVariants.{Gives, Rests}

-- from 16777205 on the number of a signal; from 16777208 on the number of an input, which gets this value
abbrev pub other_at : ℕ → ℕ → Act
other_at n value = if nat_lt n 16777208 then Submits (n - 16777205) else Sets (n - 16777208) value

-- a leaf and a number of turns; 16777204 brings all work to rest; from there on a leaf and what else it is given
abbrev pub line_at : ℕ → ℕ → ℕ → TurnLine
line_at x n value = if nat_lt n 16777204 then Gives x (Turns n) else (if nat_lt n 16777205 then Rests else Gives x (other_at n value))

-- an item has room for it
abbrev pub IsKept : Act → Type 0
IsKept (Turns n) = n < 16777204
IsKept (Sets i n) = i < 8
IsKept (Submits i) = i < 3

abbrev pub IsHeld : TurnLine → Type 0
IsHeld (Gives x act) = IsKept act
IsHeld Rests = Unit {0}

-- its leaf is one of so many
abbrev pub IsOf : ℕ → TurnLine → Type 0
IsOf n (Gives x act) = x < n
IsOf n Rests = Unit {0}
