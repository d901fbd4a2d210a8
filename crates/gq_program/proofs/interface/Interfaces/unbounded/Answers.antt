use Rattle.std.proofs.Common.{◌≡◌, ◌≤◌, true, length, arith, subst, sym}
use Rattle.gq_program.specs.Interfaces.{are_interfaces}
use Rattle.gq_program.proofs.Interfaces_without_quantities.{all_gone}
use Rattle.gq_program.proofs.interface.Interfaces.unbounded.Goals as goal

-- the names stay, so they rise
pub invariant_of-result : goal.invariant_of-result
invariant_of-result c =
    let given = c.entries-service-items in
    let all : length given.result.now ≤ c.loop-service.service-index = omega arith in
    let order = subst (λ es. are_interfaces es ≡ true) (sym given.ensures.entries) given.ensures.in_order in
    all_gone given.result.now c.loop-service.entries.items c.loop-service.service-index c.loop-service.invariant all order
