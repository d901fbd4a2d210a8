use Rattle.std.proofs.Common.{◌≡◌, take}
use Rattle.std.specs.Prelude.{map}
use Rattle.gq_program.specs.Interfaces.{capped}
use Rattle.gq_program.proofs.interface.Interface.unbounded.Given as goal

-- those so far ask for no bytes
abbrev pub invariant-loop-upgrade : goal.invariant-loop-upgrade
invariant-loop-upgrade l = l.upgrades.items ≡ map capped (take l.upgrade-index l.upgrade-items)
