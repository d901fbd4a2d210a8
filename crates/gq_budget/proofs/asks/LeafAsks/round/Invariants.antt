use Rattle.std.proofs.Common.{◌≡◌, ◌++◌, drop}
use Rattle.gq_budget.specs.Causes.{cause_of}
use Rattle.gq_budget.specs.internal.Run_rounds.{leaf_round}
use Rattle.gq_budget.proofs.asks.LeafAsks.round.Given as goal

-- the numbers so far, with those of the sections that are left, are those of all
abbrev pub invariant-loop-section : goal.invariant-loop-section
invariant-loop-section l =
    l.numbers.items ++ leaf_round (cause_of l.cause) l.self.number (drop l.section-index l.section-items) l.self.askers l.table
    ≡ leaf_round (cause_of l.cause) l.self.number l.section-items l.self.askers l.table
