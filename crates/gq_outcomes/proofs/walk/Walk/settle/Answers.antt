use Rattle.std.proofs.Common.{◌++◌, subst, arith}
use Rattle.gq_model.specs.machine.Scenario.{components}
use Rattle.gq_outcomes.specs.Outcomes.{explored, round}
use Rattle.gq_outcomes.specs.internal.Walks.{Comes, IsOnWay}
use Rattle.gq_outcomes.proofs.Walk_facts.{all_put, rounds_on}
use Rattle.gq_outcomes.proofs.walk.Walk.settle.Goals as goal

pub loop-next-preserved : goal.loop-next-preserved
loop-next-preserved c =
    let all = c.args.self.now in
    let s = all.world.scenario in
    let l = c.loop-next in
    let new = c.settle_round.new.self in
    let left = c.in_ok-next.next in
    let of = l.invariant.walk.walk.scenario in
    let comes = subst (λ t. Comes t l.self new left (λ p. round (explored t) 0 (components t) (record { point = p; left = l.left }))) of
    c.in_ok-next.ensures.comes in
    let few = l.invariant.few in
    let fewer = c.in_ok-next.ensures.few in
    record {
      walk = subst (λ t. IsOnWay t new) of c.in_ok-next.ensures.walk;
      few = omega (arith, few, fewer);
      more = (
        l.invariant.more.0 ++ comes.more,
        all_put all.past.items l.self.past.items new.past.items l.invariant.more.0 comes.more l.invariant.more.1
            comes.past,
      );
      on = rounds_on s l.self.past.items new.past.items l.left left _ c.if-next-left.false comes.is l.invariant.on;
    }
