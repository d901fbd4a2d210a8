use Rattle.std.proofs.Common.{◌≡◌, take}
use Rattle.gq_caps.specs.Known.{all_known}
use Rattle.gq_model.specs.machine.Amounts.{Caps}
use Rattle.gq_verify.specs.Saturated_numbers.{saturated}
use Rattle.gq_sizes.specs.Point_maxima.{given_in}
use Rattle.gq_sizes.specs.Size.{slots_cost}
use Rattle.gq_sizes.proofs.point_maxima.LeastGifts.slots.Given as goal

-- so much of the slots so far
abbrev pub invariant-loop-kind : goal.invariant-loop-kind
invariant-loop-kind g l =
    l.sum ≡ saturated (slots_cost (given_in l.self.interfaces.now l.self.sums.now) Caps (all_known (take l.kind-index l.kind-items)))
