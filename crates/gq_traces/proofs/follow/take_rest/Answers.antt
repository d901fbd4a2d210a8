-- Leaf by leaf.
use Rattle.std.proofs.Common.{◌≡◌, ◌∙◌, ◌⊎◌, inl, inr, ◌-◌, ◌+◌, ◌<◌, ◌≤◌, IfSome, Some, ℕ, ap, arith, length, min, refl, subst}
use Rattle.std.proofs.lemmas.Bool.Decides.{leb_tells}
use Rattle.gq_model.specs.machine.Rest.{greatest_turns, while_can}
use Rattle.gq_model.specs.machine.Scenario.{Scenario, components, system}
use Rattle.gq_traces.specs.Trace.{after_turns}
use Rattle.gq_traces.specs.internal.Follows.{Follows}
use Rattle.gq_traces.proofs.Next_taken.{next_of, some_of}
use Rattle.gq_traces.proofs.Runs_on.{min_first, min_second}
use Rattle.gq_traces.proofs.Way_taken.{limit_followed, no_next_followed, rest_followed, rest_followed_more, rest_unfollowed}
use Rattle.gq_traces.proofs.follow.take_rest.Goals as goal

-- the limit is the less of two numbers
record IsLess (limit most : ℕ) : Type 0 where
  within : limit ≤ most
  few : limit ≤ greatest_turns
  one : limit ≡ most ⊎ (limit ≡ greatest_turns)

less_of : (limit most : ℕ) → limit ≡ min greatest_turns most → IsLess limit most
less_of limit most is = elim (leb_tells greatest_turns most) [
  | inl t ↦ (
      let all = is ∙ min_first greatest_turns most t.1 in
      let less = t.1 in
      record { within = omega (arith, all, less); few = omega (arith, all); one = inr all })
  | inr t ↦ (
      let less = t.1 in
      let all = is ∙ min_second greatest_turns most (omega (arith, less)) in
      record { within = omega (arith, all); few = omega (arith, all, less); one = inl all })
]

pub loop-taken-init : goal.loop-taken-init
loop-taken-init c = rest_unfollowed c.min-all.result c.args.most c.args.world.now c.args.followed.now c.requires.followed

pub take_able-taken-requires-clause-leaf : goal.take_able-taken-requires-clause-leaf
take_able-taken-requires-clause-leaf c = subst (λ o. IfSome o (λ x. x < length (components c.loop-taken.world.scenario))) c.in-Some.is c.next_able.ensures.there

pub take_able-taken-requires-clause-followed : goal.take_able-taken-requires-clause-followed
take_able-taken-requires-clause-followed c = c.loop-taken.invariant.follows.followed

pub loop-taken-preserved : goal.loop-taken-preserved
loop-taken-preserved c =
    let l = c.loop-taken in
    let w = c.args.world.now in
    let s = w.scenario in
    let x = c.in-Some.leaf in
    let step = c.take_able-taken in
    let k = step.result in
    let same = l.invariant.follows.scenario in
    let test = c.loop-taken-test.true in
    let limit = less_of c.min-all.result c.args.most (c.min-all.ensures ∙ ap (λ n. min n c.args.most) c.from.ensures) in
    let few = limit.few in
    let all = while_can (greatest_turns - l.taken) (system s) l.world.world x in
    rest_followed_more l.from l.taken c.min-all.result c.args.most x (c.index-from.result + 1) k w l.world step.new.world c.args.followed.now l.followed
    step.new.followed limit.within limit.few limit.one test l.invariant
    (next_of s l.world.scenario l.world.world l.from c.next_able.result (Some x) same c.next_able.ensures.next c.in-Some.is)
    (subst (λ (r : Scenario). while_can (c.min-all.result - l.taken) (system r) l.world.world x ≡ (k, step.new.world.world)) same step.ensures.taken)
    (some_of s l.world.scenario l.world.world all.1 x (greatest_turns - l.taken) all.0 c.next_able.result same c.in-Some.is c.next_able.ensures.can
    (c.laws.ensures.goes_on x) (omega (arith, test, few)) refl) (let at = c.index-from.ensures in omega (arith, at))
    (subst (λ (r : Scenario). Follows 0 (after_turns (system r) x k) l.world step.new.world l.followed step.new.followed) same step.ensures.follows)

pub returns-in_default-clause-follows : goal.returns-in_default-clause-follows
returns-in_default-clause-follows c =
    let l = c.loop-taken in
    let w = c.args.world.now in
    (rest_followed l.from l.taken c.min-all.result c.args.most w l.world c.args.followed.now l.followed l.invariant
    (inl (no_next_followed l.from l.taken c.min-all.result c.args.most w l.world c.args.followed.now l.followed l.invariant c.loop-taken-test.true
    (next_of w.scenario l.world.scenario l.world.world l.from c.next_able.result _ l.invariant.follows.scenario c.next_able.ensures.next
    c.in_default.is)))).0

pub returns-in_default-clause-left : goal.returns-in_default-clause-left
returns-in_default-clause-left c =
    let l = c.loop-taken in
    let w = c.args.world.now in
    (rest_followed l.from l.taken c.min-all.result c.args.most w l.world c.args.followed.now l.followed l.invariant
    (inl (no_next_followed l.from l.taken c.min-all.result c.args.most w l.world c.args.followed.now l.followed l.invariant c.loop-taken-test.true
    (next_of w.scenario l.world.scenario l.world.world l.from c.next_able.result _ l.invariant.follows.scenario c.next_able.ensures.next
    c.in_default.is)))).1

pub returns-clause-follows : goal.returns-clause-follows
returns-clause-follows c =
    let l = c.loop-taken in
    let w = c.args.world.now in
    let limit = less_of c.min-all.result c.args.most (c.min-all.ensures ∙ ap (λ n. min n c.args.most) c.from.ensures) in
    let over = c.loop-taken-test.false in
    (rest_followed l.from l.taken c.min-all.result c.args.most w l.world c.args.followed.now l.followed l.invariant
    (limit_followed l.from l.taken c.min-all.result c.args.most w l.world c.args.followed.now l.followed l.invariant (omega (arith, over)) limit.one)).0

pub returns-clause-left : goal.returns-clause-left
returns-clause-left c =
    let l = c.loop-taken in
    let w = c.args.world.now in
    let limit = less_of c.min-all.result c.args.most (c.min-all.ensures ∙ ap (λ n. min n c.args.most) c.from.ensures) in
    let over = c.loop-taken-test.false in
    (rest_followed l.from l.taken c.min-all.result c.args.most w l.world c.args.followed.now l.followed l.invariant
    (limit_followed l.from l.taken c.min-all.result c.args.most w l.world c.args.followed.now l.followed l.invariant (omega (arith, over)) limit.one)).1
