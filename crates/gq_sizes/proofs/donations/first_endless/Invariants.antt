use Rattle.std.proofs.Common.{◌≡◌, drop}
use Rattle.gq_model.specs.machine.Scenario.{System}
use Rattle.gq_sizes.specs.Endless.{first_endless}
use Rattle.gq_sizes.specs.Passing.{endless_rows}
use Rattle.gq_sizes.proofs.donations.first_endless.Given as goal

-- the first is among those that are left
abbrev pub invariant-loop-place : goal.invariant-loop-place
invariant-loop-place l =
    (all : System) → l.endless ≡ endless_rows all l.interfaces → first_endless all (drop l.place l.interfaces) ≡ first_endless all l.interfaces
