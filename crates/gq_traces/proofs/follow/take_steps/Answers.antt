-- Turns that a leaf takes alone, or one.
use Rattle.std.proofs.Common.{◌≡◌, ◌∙◌, ℕ, ap, length, refl, subst, sym, arith}
use Rattle.std.proofs.lemmas.List.{with_items_is}
use Rattle.std.specs.Prelude.{IsOk}
use Rattle.std.specs.Vec.{with_items}
use Rattle.gq_model.specs.machine.Rest.{while_can}
use Rattle.gq_model.specs.machine.Scenario.{Scenario, components, system}
use Rattle.gq_model.specs.machine.Step.{next}
use Rattle.gq_model.specs.machine.World as model
use Rattle.gq_traces.specs.Trace.{after_turn, after_turns}
use Rattle.gq_traces.specs.declared.follow.Followed.{Followed}
use Rattle.gq_traces.specs.internal.Follows.{Follows}
use Rattle.gq_traces.proofs.Steps_taken_alone.{able_alone, followed, steps_as}
use Rattle.gq_traces.proofs.Steps_when_able.{followed_step}
use Rattle.gq_traces.proofs.Unprinted_turns.{follows_both}
use Rattle.gq_traces.proofs.follow.take_steps.Goals as goal

pub returns-then-alone-gt0-clause-taken : goal.returns-then-alone-gt0-clause-taken
returns-then-alone-gt0-clause-taken c =
    let w = c.args.world.now in
    let took = c.steps_alone-alone in
    (able_alone c.as_slice.result.now c.args.leaf took.result w.world took.new.world.world c.as_mut_slice.result.now took.new.aheads (system w.scenario)
    took.ensures.steps c.requires.able).0

pub returns-then-alone-gt0-clause-follows : goal.returns-then-alone-gt0-clause-follows
returns-then-alone-gt0-clause-follows c =
    let w = c.args.world.now in
    let f = c.args.followed.now in
    let took = c.steps_alone-alone in
    let after : Followed = record { programs = f.programs; aheads = with_items f.aheads took.new.aheads } in
    let long = took.auto.aheads ∙ c.as_mut_slice.ensures.len in
    followed w took.new.world f after c.args.leaf took.result took.ensures.scenario took.ensures.running took.ensures.signals c.requires.leaf
    c.counted.ensures.leaves
    c.requires.followed refl
    (steps_as w.scenario c.as_slice.result.now f.programs.items c.as_mut_slice.result.now f.aheads.items took.new.aheads after.aheads.items c.args.leaf
    took.result w.world took.new.world.world c.as_slice.ensures.value c.as_mut_slice.ensures.value (sym (with_items_is f.aheads took.new.aheads long))
    took.ensures.steps)

pub take_turn-requires-clause-followed : goal.take_turn-requires-clause-followed
take_turn-requires-clause-followed c =
    let w = c.args.world.now in
    let f = c.args.followed.now in
    let took = c.steps_alone-alone in
    let after : Followed = record { programs = f.programs; aheads = with_items f.aheads took.new.aheads } in
    let long = took.auto.aheads ∙ c.as_mut_slice.ensures.len in
    (followed w took.new.world f after c.args.leaf took.result took.ensures.scenario took.ensures.running took.ensures.signals c.requires.leaf
    c.counted.ensures.leaves
    c.requires.followed refl
    (steps_as w.scenario c.as_slice.result.now f.programs.items c.as_mut_slice.result.now f.aheads.items took.new.aheads after.aheads.items c.args.leaf
    took.result w.world took.new.world.world c.as_slice.ensures.value c.as_mut_slice.ensures.value (sym (with_items_is f.aheads took.new.aheads long))
    took.ensures.steps)).followed

pub returns-clause-taken : goal.returns-clause-taken
returns-clause-taken c =
    let w = c.args.world.now in
    let f = c.args.followed.now in
    let s = w.scenario in
    let x = c.args.leaf in
    let took = c.steps_alone-alone in
    let last = c.take_turn in
    let after : Followed = record { programs = f.programs; aheads = with_items f.aheads took.new.aheads } in
    let none = c.if-alone-gt0.false in
    let zero_taken : took.result ≡ 0 = omega (arith, none) in
    let alone = able_alone c.as_slice.result.now x took.result w.world took.new.world.world c.as_mut_slice.result.now took.new.aheads (system s)
    took.ensures.steps c.requires.able in
    let same : w.world ≡ took.new.world.world = ap (λ (p : ℕ × model.World). p.1) (ap (λ n. while_can n (system s) w.world x) (sym zero_taken) ∙ alone.0) in
    let follows = subst (λ (r : Scenario). Follows 0 (after_turn (system r) x) took.new.world last.new.world after last.new.followed) took.ensures.scenario
    last.ensures in
    ap (λ (v : model.World). while_can 1 (system s) v x) same
    ∙ followed_step s x took.new.world last.new.world after last.new.followed took.ensures.scenario c.requires.leaf
    (subst (λ (v : model.World). length v.leaves ≡ length (components s)) same c.counted.ensures.leaves)
    (take_turn-requires-clause-followed c.before) alone.1 (subst (λ (v : model.World). IsOk (next (system s) v x)) same (c.laws.ensures.goes_on x)) follows

pub returns-clause-follows : goal.returns-clause-follows
returns-clause-follows c =
    let w = c.args.world.now in
    let f = c.args.followed.now in
    let s = system w.scenario in
    let x = c.args.leaf in
    let took = c.steps_alone-alone in
    let after : Followed = record { programs = f.programs; aheads = with_items f.aheads took.new.aheads } in
    let long = took.auto.aheads ∙ c.as_mut_slice.ensures.len in
    let none = c.if-alone-gt0.false in
    let zero_taken : took.result ≡ 0 = omega (arith, none) in
    let first = followed w took.new.world f after x took.result took.ensures.scenario took.ensures.running took.ensures.signals c.requires.leaf
    c.counted.ensures.leaves
    c.requires.followed refl
    (steps_as w.scenario c.as_slice.result.now f.programs.items c.as_mut_slice.result.now f.aheads.items took.new.aheads after.aheads.items x
    took.result w.world took.new.world.world c.as_slice.ensures.value c.as_mut_slice.ensures.value (sym (with_items_is f.aheads took.new.aheads long))
    took.ensures.steps) in
    let last = c.take_turn in
    follows_both 0 0 (after_turns s x took.result) (after_turn s x)
    (after_turns s x 1) w took.new.world last.new.world f after last.new.followed
    (λ t. ap (λ n. after_turn s x (after_turns s x n t)) zero_taken) first
    (subst (λ (r : Scenario). Follows 0 (after_turn (system r) x) took.new.world last.new.world after last.new.followed) first.scenario last.ensures)
