use Rattle.std.proofs.Common.{◌≡◌, ◌==◌, ◌||◌, drop}
use Rattle.gq_model.specs.machine.Lists.{any_of}
use Rattle.gq_resolve.specs.Reaching.{flag_at}
use Rattle.gq_resolve.proofs.cycle.leads_on.Given as goal

abbrev pub invariant-loop-server : goal.invariant-loop-server
invariant-loop-server l =
    any_of (λ z. z == l.goal || flag_at l.flags z) l.servers ≡ any_of (λ z. z == l.goal || flag_at l.flags z) (drop l.server-index l.servers)
