-- What is written, and how often it failed.
use Rattle.std.specs.Prelude.{◌≡◌, ◌⊎◌, ℕ, ◌+◌, ◌-◌, ◌^◌, ◌<◌, ◌==◌, if◌then◌else◌, min, ◌&&◌, not, List, take, Option, Result, Ok, Err}
use Rattle.std.specs.Io.KnownBytes.{Appends}

-- the greatest count
abbrev pub greatest_count : ℕ
greatest_count = 2 ^ 64 - 1

-- one failure more, where the count is not at its end
abbrev pub raised : ℕ → ℕ
raised n = min (n + 1) greatest_count

-- a write of n bytes fails where it is refused, and where it takes 0 of some bytes
abbrev pub failures_after : {E : Type 0} → ℕ → Result ℕ E → ℕ → ℕ
failures_after old (Ok taken) n = if taken == 0 && not (n == 0) then raised old else old
failures_after old (Err e) n = raised old

-- a failure was counted, or the count is at its end
abbrev pub IsRaised : ℕ → ℕ → Type 0
IsRaised old new = (old < new) ⊎ (new ≡ greatest_count)

-- the first k bytes of a text were written, for some k
abbrev pub IsPrefix : Option (List ℕ) → Option (List ℕ) → List ℕ → Type 0
IsPrefix old new text = (k : ℕ) × Appends old new (take k text)
