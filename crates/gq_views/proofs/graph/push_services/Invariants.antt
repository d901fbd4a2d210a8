use Rattle.std.proofs.Common.{◌≡◌, ◌++◌, drop}
use Rattle.gq_views.specs.internal.Opened_services.{arrows_of}
use Rattle.gq_views.proofs.graph.push_services.Given as goal

-- the arrows so far, with those of the services that are left, are all
abbrev pub invariant-loop-service : goal.invariant-loop-service
invariant-loop-service l =
    l.text.items ++ arrows_of l.places l.from (drop l.service-index l.opened) ≡ l.fn.text.items ++ arrows_of l.places l.from l.opened
