use Rattle.std.proofs.Common.{◌≡◌, take}
use Rattle.gq_program.specs.Interfaces.{all_unbounded}
use Rattle.gq_program.proofs.interface.Interfaces.unbounded.Given as goal

-- those so far are copied without their quantities
abbrev pub invariant-loop-service : goal.invariant-loop-service
invariant-loop-service l = l.entries.items ≡ all_unbounded (take l.service-index l.service-items)
