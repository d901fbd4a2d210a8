use Rattle.std.proofs.Common.{◌∙◌, ◌==◌, Bool, ap}
use Rattle.std.specs.Prelude.{◌&&◌}
use Rattle.gq_races.specs.Races.{implies}
use Rattle.gq_races.specs.internal.Owners.{admits, admits_at}
use Rattle.gq_races.proofs.Leaf_owner_rounds.{kept_put}
use Rattle.gq_races.proofs.owners.owner_of.Goals as goal

pub loop-place-preserved : goal.loop-place-preserved
loop-place-preserved c z =
    let l = c.loop-place in
    let first = ap (λ b. admits l.owner z && implies b (l.place == z)) c.is_first.ensures in
    let later = ap (λ b. admits c.both_if-owner.result z && implies b (admits c.owner_at.result z)) c.is_later.ensures in
    let known = λ (b : Bool). ap (λ a. admits c.both_if-owner.result z && implies b a) (c.owner_at.ensures z) in
    kept_put c.args.opened.now l.place c.index-opened-place.result c.loop-place-test.true c.index-opened-place.is (admits_at c.args.owners.now z) z c.args.leaf
    (admits l.owner z) (admits c.both_if-owner.result z) (admits c.both_if-owner-in-loop-place.result z) _ (c.both_if-owner.ensures z ∙ first)
    (c.both_if-owner-in-loop-place.ensures z ∙ (later ∙ known _)) (l.invariant z)
