use Rattle.std.proofs.Common.{◌≡◌, drop}
use Rattle.gq_resolve.specs.Served.{server_in}
use Rattle.gq_resolve.proofs.routes.LeafRoutes.server.Given as goal

-- none so far is for the service
abbrev pub invariant-loop-place : goal.invariant-loop-place
invariant-loop-place l = server_in l.service l.self ≡ server_in l.service (drop l.place l.self)
