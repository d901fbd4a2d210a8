-- More turns.
use Rattle.std.proofs.Common.{◌≡◌, ◌+◌, refl, subst, arith}
use Rattle.gq_model.specs.machine.Scenario.{Scenario, system}
use Rattle.gq_traces.specs.Trace.{after_turns}
use Rattle.gq_traces.specs.internal.Follows.{Follows}
use Rattle.gq_traces.proofs.Unprinted_turns.{follows_both, follows_none}
use Rattle.gq_traces.proofs.Printed_turns.{after_sum}
use Rattle.gq_traces.proofs.follow.take_turns.Goals as goal

pub loop-done-init : goal.loop-done-init
loop-done-init c =
    record {
      few = omega arith;
      follows = follows_none (after_turns (system c.args.world.now.scenario) c.args.leaf 0) c.args.world.now c.args.followed.now (λ t. refl)
          c.requires.followed;
    }

pub take_some-done-requires-clause-followed : goal.take_some-done-requires-clause-followed
take_some-done-requires-clause-followed c = c.loop-done.invariant.follows.followed

pub loop-done-preserved : goal.loop-done-preserved
loop-done-preserved c =
    let s = system c.args.world.now.scenario in
    let l = c.loop-done in
    let took = c.take_some-done in
    let few = took.ensures.few in
    let within = l.invariant.few in
    let test = c.loop-done-test.true in
    record {
      few = omega (arith, few, within, test);
      follows = follows_both 0 0 (after_turns s c.args.leaf l.done) (after_turns s c.args.leaf took.result) (after_turns s c.args.leaf (l.done + took.result))
          c.args.world.now l.world took.new.world c.args.followed.now l.followed took.new.followed (after_sum s c.args.leaf l.done took.result)
          l.invariant.follows
          (subst (λ (r : Scenario). Follows 0 (after_turns (system r) c.args.leaf took.result) l.world took.new.world l.followed took.new.followed)
          l.invariant.follows.scenario took.ensures.follows);
    }

pub returns : goal.returns
returns c =
    let l = c.loop-done in
    let over = c.loop-done-test.false in
    let few = l.invariant.few in
    let same : l.done ≡ c.args.count = omega (arith, over, few) in
    subst (λ n. Follows 0 (after_turns (system c.args.world.now.scenario) c.args.leaf n) c.args.world.now l.world c.args.followed.now l.followed) same
    l.invariant.follows
