use Rattle.std.proofs.Common.{◌≡◌, ◌++◌, drop}
use Rattle.gq_budget.specs.internal.Run_rounds.{askers_by}
use Rattle.gq_budget.proofs.asks.askers_by.Given as goal

-- who asks so far, with who of the leaves that are left asks, are all
abbrev pub invariant-loop-place : goal.invariant-loop-place
invariant-loop-place l =
    l.askers.items ++ askers_by l.service l.place (drop l.place l.leaves) (drop l.place l.leads) ≡ askers_by l.service 0 l.leaves l.leads
