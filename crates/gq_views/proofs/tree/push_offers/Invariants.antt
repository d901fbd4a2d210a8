use Rattle.std.proofs.Common.{◌≡◌, ◌++◌, drop}
use Rattle.gq_views.specs.Tree.{offers_lines}
use Rattle.gq_views.proofs.tree.push_offers.Given as goal

-- the lines so far, with those of the offers that are left, are all
abbrev pub invariant-loop-service : goal.invariant-loop-service
invariant-loop-service l = l.text.items ++ offers_lines l.depth (drop l.service-index l.offers) ≡ l.fn.text.items ++ offers_lines l.depth l.offers
