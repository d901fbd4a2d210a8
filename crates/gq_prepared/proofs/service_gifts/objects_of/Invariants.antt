use Rattle.std.proofs.Common.{◌≡◌, ◌++◌, drop, map}
use Rattle.gq_prepared.proofs.service_gifts.objects_of.Given as goal

-- those so far, with those that are left, are all
abbrev pub invariant-loop-interface : goal.invariant-loop-interface
invariant-loop-interface l =
    l.objects.items ++ map (λ e. e.1.object) (drop l.interface-index l.interface-items) ≡ map (λ e. e.1.object) l.interface-items
