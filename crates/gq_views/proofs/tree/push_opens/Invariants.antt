use Rattle.std.proofs.Common.{◌≡◌, ◌++◌, drop}
use Rattle.gq_model.specs.machine.Scenario.{system}
use Rattle.gq_views.specs.internal.Opened_services.{opens_of}
use Rattle.gq_views.proofs.tree.push_opens.Given as goal

-- the lines so far, with those of the services that are left, are all
abbrev pub invariant-loop-service : goal.invariant-loop-service
invariant-loop-service l =
    l.text.items ++ opens_of l.depth (system l.drawn) (drop l.service-index l.opened) ≡ l.fn.text.items ++ opens_of l.depth (system l.drawn) l.opened
