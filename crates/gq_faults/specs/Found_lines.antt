-- What is reported of faults that were found, without their places and details.
use Rattle.std.specs.Prelude.{ℕ, List, map, string_bytes}
use Rattle.gq_faults.specs.declared.fault_value.FoundFault.{FoundFault}

-- their lines
abbrev pub lines_found : List FoundFault → List (List ℕ)
lines_found = map (λ found. string_bytes found.line)
