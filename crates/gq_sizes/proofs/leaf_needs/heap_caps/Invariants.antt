use Rattle.std.proofs.Common.{◌≡◌, ◌≤◌, ◌+◌, ◌*◌, ◌^◌, drop, map}
use Rattle.gq_tariff.specs.Prices.{class_size}
use Rattle.gq_model.specs.machine.Amounts.{Caps}
use Rattle.gq_model.specs.machine.Resource_prices.{heap_of}
use Rattle.gq_sizes.proofs.leaf_needs.heap_caps.Given as goal

-- the sum so far, with the classes that are left, is that of all
abbrev pub invariant-loop-place : goal.invariant-loop-place
invariant-loop-place l = record {
  sum : l.sum + heap_of Caps (map class_size (drop l.place l.classes)) (drop l.place l.places) ≡ heap_of Caps (map class_size l.classes) l.places;
  small : l.sum ≤ l.place * 2 ^ 34;
}
