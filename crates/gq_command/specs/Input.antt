-- What reading an input takes of its reader.
use Rattle.std.specs.Prelude.{ℕ, ◌≤◌, List, length, Option}
use Rattle.std.specs.Io.KnownBytes.{Consumes}

-- a reader whose bytes are known has given at most n of them, from its start
abbrev pub GivesAtMost : ℕ → Option (List ℕ) → Option (List ℕ) → Type 0
GivesAtMost n old new = (bytes : List ℕ) × Consumes old new bytes × (length bytes ≤ n)
