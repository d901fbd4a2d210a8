use Rattle.std.proofs.Common.{◌≡◌, ◌++◌, drop}
use Rattle.gq_views.specs.internal.Opened_services.{opened_by_table}
use Rattle.gq_views.proofs.drawn.with_servers.Given as goal

-- the services so far, with those that are left, are all
abbrev pub invariant-loop-service : goal.invariant-loop-service
invariant-loop-service l = l.all.items ++ opened_by_table l.client (drop l.service-index l.services) ≡ opened_by_table l.client l.services
