use Rattle.std.proofs.Common.{◌≡◌, drop}
use Rattle.gq_model.specs.machine.Routes.{offer_of}
use Rattle.gq_resolve.proofs.routing.offer_of.Given as goal

abbrev pub invariant-loop-offered : goal.invariant-loop-offered
invariant-loop-offered l = offer_of l.offers l.service ≡ offer_of (drop l.offered-index l.offers) l.service
