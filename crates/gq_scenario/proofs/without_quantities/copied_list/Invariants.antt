use Rattle.std.proofs.Common.{◌≡◌, take}
use Rattle.gq_scenario.proofs.without_quantities.copied_list.Given as goal

-- those so far are the same
abbrev pub invariant-loop-route : goal.invariant-loop-route
invariant-loop-route l = l.copied.items ≡ take l.route-index l.routes
