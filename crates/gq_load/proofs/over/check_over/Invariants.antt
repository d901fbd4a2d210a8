use Rattle.std.proofs.Common.{◌≡◌, drop}
use Rattle.gq_load.specs.Over_limits.{over_refusal}
use Rattle.gq_load.proofs.over.check_over.Given as goal

-- no leaf so far is refused
abbrev pub invariant-loop-place : goal.invariant-loop-place
invariant-loop-place l = over_refusal l.limit (drop l.place l.components) (drop l.place l.budgets) ≡ over_refusal l.limit l.components l.budgets
