use Rattle.std.proofs.Common.{◌≡◌, length}
use Rattle.gq_prepared.proofs.Service_capability_gifts.{SoFar}
use Rattle.gq_prepared.proofs.service_gifts.all_upgrades.Given as goal

-- so many services are done
abbrev pub invariant-loop-interface : goal.invariant-loop-interface
invariant-loop-interface l = record {
  made : SoFar l.interface-items l.upgrades.items l.interface-index;
  count : length l.upgrades.items ≡ l.interface-index;
}
