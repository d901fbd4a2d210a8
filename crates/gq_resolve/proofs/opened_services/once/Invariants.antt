use Rattle.std.proofs.Common.{◌≡◌, take, map}
use Rattle.gq_resolve.specs.Served.{once}
use Rattle.gq_program.specs.Name_keys.{AreWithin, key_of}
use Rattle.gq_resolve.proofs.opened_services.once.Given as goal

abbrev pub invariant-loop-service : goal.invariant-loop-service
invariant-loop-service l = record {
  kept : l.kept.items ≡ once (take l.service-index l.services);
  reported : AreWithin l.places (map key_of l.kept.items);
}
