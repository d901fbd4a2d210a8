use Rattle.std.proofs.Common.{◌≡◌, ◌++◌, drop}
use Rattle.gq_resolve.specs.Served.{server_among}
use Rattle.gq_faults.specs.Found_lists.{all_found, listed_if}
use Rattle.gq_faults.proofs.route_faults.used_by.Given as goal

abbrev pub invariant-loop-service : goal.invariant-loop-service
invariant-loop-service l =
    l.used.items ++ all_found (λ service. listed_if (server_among l.components l.component service)) (drop l.service-index l.services)
    ≡ all_found (λ service. listed_if (server_among l.components l.component service)) l.services
