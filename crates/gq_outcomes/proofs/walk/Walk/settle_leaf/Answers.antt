use Rattle.std.proofs.Common.{◌≡◌, ◌∙◌, ◌-◌, ◌++◌, ◌∷◌, [], inl, inr, true, false, ap, subst, arith}
use Rattle.std.proofs.lemmas.Bool.{cases_Bool}
use Rattle.gq_outcomes.specs.Outcomes.{explored, while_settling}
use Rattle.gq_outcomes.specs.internal.Walks.{IsOnWay, reached}
use Rattle.gq_outcomes.proofs.Walk_facts.{both_put, can_is, leaf_stays, leaf_turn}
use Rattle.gq_outcomes.proofs.walk.Walk.settle_leaf.Goals as goal

pub loop-left-preserved : goal.loop-left-preserved
loop-left-preserved c =
    let all = c.args.self.now in
    let s = all.world.scenario in
    let x = c.args.leaf in
    let l = c.loop-left in
    let of = l.invariant.walk.walk.scenario in
    let turns = l.self.past.items in
    let past = c.in_ok-take_turn.ensures.past in
    let few = l.invariant.few in
    let is : c.can_settle.result ≡ true = elim (cases_Bool c.can_settle.result) [ inl t ↦ t | inr f ↦ absurd (cc (f, c.if-not-can_settle.false)) ] in
    let can = can_is s c.machine.result.now l.self (reached s turns) x c.can_settle.result c.machine.ensures.is of l.invariant.walk.at.stands
    c.can_settle.ensures ∙ is in
    record {
      walk = subst (λ t. IsOnWay t c.take_turn.new.self) of c.in_ok-take_turn.ensures.walk;
      few = omega (arith, few);
      more = (l.invariant.more.0 ++ x ∷ [], both_put all.past.items turns c.take_turn.new.self.past.items l.invariant.more.0 x l.invariant.more.1 past);
      on = ap (λ t. while_settling (l.left - 1) (explored s) x (reached s t)) past
          ∙ leaf_turn s turns all.past.items x l.left c.args.most c.loop-left-test.true can l.invariant.on;
    }

pub returns-then-not-can_settle-clause-comes : goal.returns-then-not-can_settle-clause-comes
returns-then-not-can_settle-clause-comes c =
    let all = c.args.self.now in
    let s = all.world.scenario in
    let x = c.args.leaf in
    let l = c.loop-left in
    let turns = l.self.past.items in
    let is : c.can_settle.result ≡ false = elim (cases_Bool c.can_settle.result) [ inl t ↦ absurd (cc (t, c.if-not-can_settle.true)) | inr f ↦ f ] in
    let can = can_is s c.machine.result.now l.self (reached s turns) x c.can_settle.result c.machine.ensures.is l.invariant.walk.walk.scenario
    l.invariant.walk.at.stands c.can_settle.ensures ∙ is in
    record {
      more = l.invariant.more.0;
      past = l.invariant.more.1;
      is = leaf_stays s turns all.past.items x l.left c.args.most can l.invariant.on;
    }
