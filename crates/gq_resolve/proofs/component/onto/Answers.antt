use Rattle.std.proofs.Common.{◌∷◌}
use Rattle.gq_resolve.proofs.Mapped_list_growth.{one_more}
use Rattle.gq_resolve.proofs.component.onto.Goals as goal

pub loop-upper-preserved : goal.loop-upper-preserved
loop-upper-preserved c =
    let l = c.loop-upper in
    one_more l.levels.items c.push-in-loop-upper.new.self.items c.args.above.now (c.args.level ∷ c.args.above.now) l.upper-index c.upper-item.result
    c.same.result c.loop-upper-test.true c.upper-item.is c.same.ensures c.in_ok-push-2.ensures.items l.invariant
