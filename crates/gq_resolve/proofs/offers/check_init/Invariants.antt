use Rattle.std.proofs.Common.{◌≡◌, drop}
use Rattle.gq_model.specs.rules.Resolve.{offers_fault}
use Rattle.gq_resolve.proofs.offers.check_init.Given as goal

abbrev pub invariant-loop-service : goal.invariant-loop-service
invariant-loop-service l = offers_fault l.interfaces l.init.name l.children l.init.offers
    ≡ offers_fault l.interfaces l.init.name l.children (drop l.service-index l.service-items)
