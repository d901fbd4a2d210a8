-- More turns, each of which is a step.
use Rattle.std.proofs.Common.{◌≡◌, ◌∙◌, ◌+◌, ◌<◌, arith, length, refl, subst, sym}
use Rattle.gq_model.specs.machine.Rest.{while_can}
use Rattle.gq_model.specs.machine.Scenario.{Scenario, components, system}
use Rattle.gq_traces.specs.Trace.{after_turns}
use Rattle.gq_traces.specs.internal.Follows.{Follows}
use Rattle.gq_traces.proofs.Printed_turns.{after_sum}
use Rattle.gq_traces.proofs.Repeated_leaf_turns.{come_first, come_more}
use Rattle.gq_traces.proofs.Unprinted_turns.{follows_both, follows_none}
use Rattle.gq_traces.proofs.follow.take_able.Goals as goal

pub loop-done-init : goal.loop-done-init
loop-done-init c =
    let w = c.args.world.now in
    let s = system w.scenario in
    record {
      come = come_first s c.args.leaf c.args.most w.world;
      follows = follows_none (after_turns s c.args.leaf 0) w c.args.followed.now (λ t. refl) c.requires.followed;
    }

pub take_steps-done-requires-clause-leaf : goal.take_steps-done-requires-clause-leaf
take_steps-done-requires-clause-leaf c =
    subst (λ (s : Scenario). c.args.leaf < length (components s)) (sym c.loop-done.invariant.follows.scenario) c.requires.leaf

pub take_steps-done-requires-clause-followed : goal.take_steps-done-requires-clause-followed
take_steps-done-requires-clause-followed c = c.loop-done.invariant.follows.followed

pub take_steps-done-requires-clause-able : goal.take_steps-done-requires-clause-able
take_steps-done-requires-clause-able c = sym c.can_run.ensures ∙ c.if-can_run.true

pub loop-done-preserved : goal.loop-done-preserved
loop-done-preserved c =
    let w = c.args.world.now in
    let s = system w.scenario in
    let x = c.args.leaf in
    let l = c.loop-done in
    let took = c.take_steps-done in
    let few = took.ensures.few in
    let test = c.loop-done-test.true in
    record {
      come = come_more s x c.args.most l.done took.result w.world l.world.world took.new.world.world (omega (arith, few, test))
          (subst (λ (r : Scenario). while_can took.result (system r) l.world.world x ≡ (took.result, took.new.world.world)) l.invariant.follows.scenario
          took.ensures.taken) l.invariant.come;
      follows = follows_both 0 0 (after_turns s x l.done) (after_turns s x took.result) (after_turns s x (l.done + took.result)) w l.world took.new.world
          c.args.followed.now l.followed took.new.followed (after_sum s x l.done took.result) l.invariant.follows
          (subst (λ (r : Scenario). Follows 0 (after_turns (system r) x took.result) l.world took.new.world l.followed took.new.followed)
          l.invariant.follows.scenario took.ensures.follows);
    }
