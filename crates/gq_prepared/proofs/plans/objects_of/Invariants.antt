use Rattle.std.proofs.Common.{◌≡◌, ℕ, ◌<◌, ◌≤◌, ◌++◌, length, get_or, map, drop}
use Rattle.gq_prepared.specs.Account_nodes.{objects_of}
use Rattle.gq_prepared.proofs.plans.objects_of.Given as goal

-- the objects so far, with those that are left, are all, and each is small
abbrev pub invariant-loop-service : goal.invariant-loop-service
invariant-loop-service l = record {
  all : l.objects.items ++ map (λ e. e.1.object) (drop l._service-index l._service-items) ≡ objects_of l.table;
  small : (i : ℕ) → i < length l.objects.items → get_or l.objects.items i 0 ≤ 67108864;
}
