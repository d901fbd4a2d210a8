use Rattle.std.proofs.Common.{◌≡◌, drop}
use Rattle.gq_resolve.specs.NodeTables.{interface_number}
use Rattle.gq_resolve.proofs.node_table.interface_number.Given as goal

-- the interface is among those that are left, or nowhere
abbrev pub invariant-loop-number : goal.invariant-loop-number
invariant-loop-number l = interface_number l.number l.service (drop l.number l.interfaces) ≡ interface_number 0 l.service l.interfaces
