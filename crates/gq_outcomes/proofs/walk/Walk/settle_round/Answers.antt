use Rattle.std.proofs.Common.{◌∙◌, ◌<◌, ◌++◌, ap, sym, subst, length, arith}
use Rattle.gq_model.specs.machine.Scenario.{components}
use Rattle.gq_outcomes.specs.Outcomes.{explored, while_settling}
use Rattle.gq_outcomes.specs.internal.Walks.{Comes, IsOnWay, reached}
use Rattle.gq_outcomes.proofs.Walk_facts.{all_put, round_on}
use Rattle.gq_outcomes.proofs.walk.Walk.settle_round.Goals as goal

pub loop-number-preserved : goal.loop-number-preserved
loop-number-preserved c =
    let all = c.args.self.now in
    let s = all.world.scenario in
    let l = c.loop-number in
    let new = c.settle_leaf.new.self in
    let left = c.in_ok-left.left in
    let of = l.invariant.walk.walk.scenario in
    let comes = subst (λ t. Comes t l.self new left (λ p. while_settling l.left (explored t) c.new.result p)) of c.in_ok-left.ensures.comes in
    let less = subst (λ n. l.number < n) (c.leaf_count-number-end.ensures.count ∙ ap (λ s. length (components s)) c.table.ensures) c.loop-number-test.true in
    let few = l.invariant.few in
    let fewer = c.in_ok-left.ensures.few in
    let settles = ap (λ k. while_settling l.left (explored s) k (reached s l.self.past.items)) (sym c.new.ensures) ∙ comes.is in
    record {
      walk = subst (λ t. IsOnWay t new) of c.in_ok-left.ensures.walk;
      few = omega (arith, few, fewer);
      more = (
        l.invariant.more.0 ++ comes.more,
        all_put all.past.items l.self.past.items new.past.items l.invariant.more.0 comes.more l.invariant.more.1
            comes.past,
      );
      on = round_on s l.self.past.items new.past.items l.number l.left left _ less settles l.invariant.on;
    }
