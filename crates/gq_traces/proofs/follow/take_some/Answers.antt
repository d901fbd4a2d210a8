-- Turns that a leaf takes alone, and one more.
use Rattle.std.proofs.Common.{◌+◌, ◌∙◌, refl, subst, sym}
use Rattle.std.proofs.lemmas.List.{with_items_is}
use Rattle.std.specs.Vec.{with_items}
use Rattle.gq_model.specs.machine.Scenario.{Scenario, system}
use Rattle.gq_traces.specs.Trace.{after_turn, after_turns}
use Rattle.gq_traces.specs.declared.follow.Followed.{Followed}
use Rattle.gq_traces.specs.internal.Follows.{Follows}
use Rattle.gq_traces.proofs.Steps_taken_alone.{followed, steps_as}
use Rattle.gq_traces.proofs.Unprinted_turns.{follows_both, turns_more}
use Rattle.gq_traces.proofs.follow.take_some.Goals as goal

pub returns-then-alone-most-clause-follows : goal.returns-then-alone-most-clause-follows
returns-then-alone-most-clause-follows c =
    let w = c.args.world.now in
    let f = c.args.followed.now in
    let took = c.steps_alone-alone in
    let after : Followed = record { programs = f.programs; aheads = with_items f.aheads took.new.aheads } in
    let long = took.auto.aheads ∙ c.as_mut_slice.ensures.len in
    followed w took.new.world f after c.args.leaf took.result took.ensures.scenario took.ensures.running took.ensures.signals c.requires.leaf
    c.counted.ensures.leaves
    c.requires.followed refl
    (steps_as w.scenario c.as_slice.result.now f.programs.items c.as_mut_slice.result.now f.aheads.items took.new.aheads after.aheads.items c.args.leaf
    took.result w.world took.new.world.world c.as_slice.ensures.value c.as_mut_slice.ensures.value (sym (with_items_is f.aheads took.new.aheads long))
    took.ensures.steps)

pub take_turn-requires-clause-followed : goal.take_turn-requires-clause-followed
take_turn-requires-clause-followed c =
    let w = c.args.world.now in
    let f = c.args.followed.now in
    let took = c.steps_alone-alone in
    let after : Followed = record { programs = f.programs; aheads = with_items f.aheads took.new.aheads } in
    let long = took.auto.aheads ∙ c.as_mut_slice.ensures.len in
    (followed w took.new.world f after c.args.leaf took.result took.ensures.scenario took.ensures.running took.ensures.signals c.requires.leaf
    c.counted.ensures.leaves
    c.requires.followed refl
    (steps_as w.scenario c.as_slice.result.now f.programs.items c.as_mut_slice.result.now f.aheads.items took.new.aheads after.aheads.items c.args.leaf
    took.result w.world took.new.world.world c.as_slice.ensures.value c.as_mut_slice.ensures.value (sym (with_items_is f.aheads took.new.aheads long))
    took.ensures.steps)).followed

pub returns-clause-follows : goal.returns-clause-follows
returns-clause-follows c =
    let w = c.args.world.now in
    let f = c.args.followed.now in
    let took = c.steps_alone-alone in
    let after : Followed = record { programs = f.programs; aheads = with_items f.aheads took.new.aheads } in
    let long = took.auto.aheads ∙ c.as_mut_slice.ensures.len in
    let first = followed w took.new.world f after c.args.leaf took.result took.ensures.scenario took.ensures.running took.ensures.signals c.requires.leaf
    c.counted.ensures.leaves
    c.requires.followed refl
    (steps_as w.scenario c.as_slice.result.now f.programs.items c.as_mut_slice.result.now f.aheads.items took.new.aheads after.aheads.items c.args.leaf
    took.result w.world took.new.world.world c.as_slice.ensures.value c.as_mut_slice.ensures.value (sym (with_items_is f.aheads took.new.aheads long))
    took.ensures.steps) in
    let last = c.take_turn in
    follows_both 0 0 (after_turns (system w.scenario) c.args.leaf took.result) (after_turn (system w.scenario) c.args.leaf)
    (after_turns (system w.scenario) c.args.leaf (took.result + 1)) w took.new.world last.new.world f after last.new.followed
    (turns_more (system w.scenario) c.args.leaf took.result) first
    (subst (λ (r : Scenario). Follows 0 (after_turn (system r) c.args.leaf) took.new.world last.new.world after last.new.followed) first.scenario last.ensures)
