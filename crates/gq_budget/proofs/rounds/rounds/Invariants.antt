use Rattle.std.proofs.Common.{◌≡◌, [], suc}
use Rattle.gq_budget.specs.Causes.{cause_of}
use Rattle.gq_budget.specs.internal.Run_rounds.{rounds}
use Rattle.gq_budget.proofs.rounds.rounds.Given as goal

-- the table after the rounds so far
abbrev pub invariant-loop-use : goal.invariant-loop-use
invariant-loop-use l = l.often.items ≡ rounds (cause_of l.cause) (suc l._use) l.asks []
