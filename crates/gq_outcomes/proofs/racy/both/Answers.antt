use Rattle.std.proofs.Common.{◌<◌, ◌∙◌, subst}
use Rattle.gq_outcomes.proofs.Racy_lists.{both_more, get_or_same}
use Rattle.gq_outcomes.proofs.racy.both.Goals as goal

pub loop-place-preserved : goal.loop-place-preserved
loop-place-preserved c =
    both_more c.args.first.now c.args.second.now c.loop-place.place _ _ c.are_both.result
    c.loop-place.all.items c.push.new.self.items c.loop-place-test.true c.requires (get_or_same c.args.first.now c.loop-place.place _ c.loop-place-test.true)
    (get_or_same c.args.second.now c.loop-place.place _ (subst (λ n. c.loop-place.place < n) c.requires c.loop-place-test.true)) c.are_both.ensures
    c.in_ok-push.ensures.items
    ∙ c.loop-place.invariant
