use Rattle.std.proofs.Common.{◌≡◌, ◌≤◌, ◌+◌, ◌-◌, ◌^◌, drop}
use Rattle.gq_verify.specs.Saturated_numbers.{saturated}
use Rattle.gq_budget.specs.internal.Run_rounds.{asked_sum}
use Rattle.gq_budget.proofs.asks.asked.Given as goal

-- the sum so far, with how often those that are left ask, is that of all
abbrev pub invariant-loop-asker : goal.invariant-loop-asker
invariant-loop-asker l = record {
  summed : saturated (l.sum + asked_sum l.section (drop l.asker-index l.askers) l.table) ≡ saturated (asked_sum l.section l.askers l.table);
  fits : l.sum ≤ 2 ^ 64 - 1;
}
