use Rattle.std.proofs.Common.{◌≡◌, ◌≤◌, ◌+◌, ◌-◌, ◌^◌}
use Rattle.std.specs.Slice.Iter.{iter_rest}
use Rattle.std.specs.Iterator.Adapters.{zip_first, zip_second}
use Rattle.gq_verify.specs.Saturated_numbers.{saturated}
use Rattle.gq_budget.specs.internal.Product_sums.{products}
use Rattle.gq_budget.proofs.number_sums.products.Given as goal

-- the sum so far, with the products of the numbers that are left, is that of all
abbrev pub invariant-loop-count : goal.invariant-loop-count
invariant-loop-count l = record {
  summed : saturated (l.sum + products (iter_rest (zip_first l.count-iterator)) (iter_rest (zip_second l.count-iterator))) ≡
      saturated (products l.counts l.often);
  fits : l.sum ≤ 2 ^ 64 - 1;
}
