use Rattle.std.proofs.Common.{◌≡◌, take}
use Rattle.gq_scenario.proofs.without_quantities.copied_offers.Given as goal

-- those so far are the same
abbrev pub invariant-loop-service : goal.invariant-loop-service
invariant-loop-service l = l.copied.items ≡ take l.service-index l.offers
