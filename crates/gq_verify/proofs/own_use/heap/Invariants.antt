use Rattle.std.proofs.Common.{◌≡◌, ◌≤◌, ◌+◌, ◌*◌, ◌^◌, drop, map}
use Rattle.gq_tariff.specs.Prices.{class_size}
use Rattle.gq_model.specs.machine.Amounts.{Ram, Caps}
use Rattle.gq_model.specs.rules.Budgets.{heap_cost}
use Rattle.gq_verify.specs.internal.Mains.{main_points}
use Rattle.gq_verify.proofs.own_use.heap.Given as goal

-- the sums so far, with the classes that are left, are those of all
abbrev pub invariant-loop-class : goal.invariant-loop-class
invariant-loop-class l = record {
  ram : l.ram + heap_cost Ram (main_points l.subject) (map class_size (drop l.class-index l.classes)) ≡
      heap_cost Ram (main_points l.subject) (map class_size l.classes);
  caps : l.caps + heap_cost Caps (main_points l.subject) (map class_size (drop l.class-index l.classes)) ≡
      heap_cost Caps (main_points l.subject) (map class_size l.classes);
  small : l.ram ≤ l.class-index * 2 ^ 34;
  few : l.caps ≤ l.class-index * 2 ^ 34;
}
