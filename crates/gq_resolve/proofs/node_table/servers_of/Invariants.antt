use Rattle.std.proofs.Common.{◌≡◌, ◌++◌, drop, map}
use Rattle.gq_resolve.specs.Served.{server_at}
use Rattle.gq_resolve.proofs.node_table.servers_of.Given as goal

-- the servers so far, with those that are left, are all
abbrev pub invariant-loop-service : goal.invariant-loop-service
invariant-loop-service l =
    l.servers.items ++ map (λ e. server_at l.leaf e.0 l.routes) (drop l.service-index l.interfaces) ≡ map (λ e. server_at l.leaf e.0 l.routes) l.interfaces
