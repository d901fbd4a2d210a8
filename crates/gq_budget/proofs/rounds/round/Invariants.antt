use Rattle.std.proofs.Common.{◌≡◌, ◌++◌, drop}
use Rattle.gq_budget.specs.Causes.{cause_of}
use Rattle.gq_budget.specs.internal.Run_rounds.{round}
use Rattle.gq_budget.proofs.rounds.round.Given as goal

-- the leaves so far, with those that are left, are all
abbrev pub invariant-loop-leaf : goal.invariant-loop-leaf
invariant-loop-leaf l = l.often.items ++ round (cause_of l.cause) (drop l.leaf-index l.asks) l.table ≡ round (cause_of l.cause) l.asks l.table
