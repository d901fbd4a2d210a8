use Rattle.std.proofs.Common.{◌≡◌, ◌++◌, drop, map}
use Rattle.gq_views.specs.internal.Table_leaves.{served_by}
use Rattle.gq_races.proofs.openers.push_servers.Given as goal

-- the servers so far, with those of the services that are left, are all
abbrev pub invariant-loop-service : goal.invariant-loop-service
invariant-loop-service l =
    l.servers.items ++ map (served_by l.client) (drop l.service-index l.services) ≡ l.fn.servers.items ++ map (served_by l.client) l.services
