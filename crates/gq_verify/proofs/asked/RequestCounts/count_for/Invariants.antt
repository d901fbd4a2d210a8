use Rattle.std.proofs.Common.{◌≡◌, ◌≤◌, ◌+◌, ◌-◌, ◌^◌, drop}
use Rattle.gq_verify.specs.Saturated_numbers.{saturated}
use Rattle.gq_verify.specs.Requested.{requests_for}
use Rattle.gq_verify.proofs.asked.RequestCounts.count_for.Given as goal

-- the sum so far, with those that are left, is that of all
abbrev pub invariant-loop-place : goal.invariant-loop-place
invariant-loop-place l = record {
  summed : saturated (l.sum + requests_for (drop l.place l.self) l.service l.section) ≡ saturated (requests_for l.self l.service l.section);
  fits : l.sum ≤ 2 ^ 64 - 1;
}
