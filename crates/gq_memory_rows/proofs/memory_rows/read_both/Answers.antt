use Rattle.std.proofs.Common.{ap, arith}
use Rattle.gq_store.specs.Store.{Store}
use Rattle.gq_memory_rows.proofs.memory_rows.read_both.Goals as goal

-- the page of the first account is there after the second one's calls
pub load-of_first-requires : goal.load-of_first-requires
load-of_first-requires c =
    let first = c.args.first.0 in
    let stays = ap (λ (s : Store). s.size c.in_ok-one.one) (c.in_ok-two.ensures.rest.stores first c.requires) in
    (first, omega (arith, stays, c.in_ok-one.ensures.size))

pub load-of_second-requires : goal.load-of_second-requires
load-of_second-requires c = (c.args.second.0, omega (arith, c.in_ok-two.ensures.size))
