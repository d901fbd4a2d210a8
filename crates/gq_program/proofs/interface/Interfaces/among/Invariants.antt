use Rattle.std.proofs.Common.{◌≡◌, drop}
use Rattle.gq_model.specs.machine.Scenario.{interface_in}
use Rattle.gq_program.proofs.interface.Interfaces.among.Given as goal

-- what is left has what all have
abbrev pub invariant-loop-service : goal.invariant-loop-service
invariant-loop-service l = interface_in l.name (drop l.service-index l.service-items) ≡ interface_in l.name l.service-items
