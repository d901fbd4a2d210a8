use Rattle.std.proofs.Common.{◌≡◌, drop}
use Rattle.gq_program.specs.Interfaces.{place_from, place_in}
use Rattle.gq_program.proofs.interface.Interfaces.place.Given as goal

-- what is left has what all have
abbrev pub invariant-loop-place : goal.invariant-loop-place
invariant-loop-place l = place_from l.place l.name (drop l.place l.service-items) ≡ place_in l.name l.service-items
