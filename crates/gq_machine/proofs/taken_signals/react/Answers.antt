-- A leaf that takes a signal.
use Rattle.std.proofs.Common.{◌≡◌, ◌+◌, ◌<◌, ◌^◌, ℕ, Some, None, refl, sym, ap, subst, ◌∙◌, rules}
use Rattle.std.specs.Prelude.{option_map, slice_get, slice_set}
use Rattle.gq_model.specs.declared.phase.Phase.TheVariants as phase
use Rattle.gq_model.specs.declared.section.Section.TheVariants.{Reacting}
use Rattle.gq_model.specs.machine.Doing.{Quiet}
use Rattle.gq_model.specs.machine.Program.{section_in}
use Rattle.gq_model.specs.machine.Scenario.{system}
use Rattle.gq_model.specs.machine.Step.{first_signal}
use Rattle.gq_model.proofs.Small_facts.{some_same}
use Rattle.gq_statements.specs.Systems.{stage_in}
use Rattle.gq_leaf.specs.Coded.{Coded}
use Rattle.gq_leaf.specs.Leaf_states.{leaf_of}
use Rattle.gq_machine.specs.Machine_world.{frame_of}
use Rattle.gq_machine.proofs.Machine_leaf_frames.{elsewhere, leaf_set}
use Rattle.gq_machine.proofs.Machine_invariant_step.{kept_one}
use Rattle.gq_machine.proofs.Machine_signals.{body_there, first_found, none_there, section_reported, serves_alone}
use Rattle.gq_machine.proofs.Slot_system_kept.{scene_self}
use Rattle.gq_machine.proofs.Stepping_leaf_facts.{item_there, of_leaf, standing}
use Rattle.gq_machine.proofs.taken_signals.react.Goals as goal

pub react-requires-clause-steps : goal.react-requires-clause-steps
react-requires-clause-steps c =
    let can = c.requires.serves.can in
    let there = item_there c.args.state.now.leaves.items c.args.number can.leaf c.index_mut-leaf.result.now can.leaf_is c.index_mut-leaf.ensures.value in
    subst (λ (l : Coded). l.state.steps + 1 < 2 ^ 64) (some_same (sym can.leaf_is ∙ there)) can.countable

pub react-requires-clause-no_request : goal.react-requires-clause-no_request
react-requires-clause-no_request c =
    let can = c.requires.serves.can in
    let m = c.args.state.now in
    let x = c.args.number in
    let old = c.index_mut-leaf.result.now in
    let there = item_there m.leaves.items x can.leaf old can.leaf_is c.index_mut-leaf.ensures.value in
    let serves = of_leaf (λ l. l.state.phase ≡ phase.Serving) (slice_get m.leaves.items x) old there c.requires.serves.serves in
    serves_alone c.args.fixed.now m can.holds c.lawful.ensures x can.component old can.component_is there serves

pub react-requires-clause-first : goal.react-requires-clause-first
react-requires-clause-first c =
    let can = c.requires.serves.can in
    let m = c.args.state.now in
    let x = c.args.number in
    let old = c.index_mut-leaf.result.now in
    let there = item_there m.leaves.items x can.leaf old can.leaf_is c.index_mut-leaf.ensures.value in
    of_leaf (λ l. option_map (λ p. p.0) (first_signal l.state.signals) ≡ Some c.args.signal) (slice_get m.leaves.items x) old there c.requires.first

pub returns-then-not-has_section-clause-step : goal.returns-then-not-has_section-clause-step
returns-then-not-has_section-clause-step c =
    let can = c.requires.serves.can in
    let f = c.args.fixed.now in
    let m = c.args.state.now in
    let x = c.args.number in
    let own = can.component in
    let leaf = can.leaf in
    let serves = of_leaf (λ l. l.state.phase ≡ phase.Serving) (slice_get m.leaves.items x) leaf can.leaf_is c.requires.serves.serves in
    let named = of_leaf (λ l. option_map (λ p. p.0) (first_signal l.state.signals) ≡ Some c.args.signal) (slice_get m.leaves.items x) leaf can.leaf_is
    c.requires.first in
    let first = first_found (first_signal leaf.state.signals) c.args.signal named in
    let none = none_there (section_in (Reacting c.args.signal) own.node.program.sections)
    (sym (section_reported f m can.holds x own leaf c.index.result.now c.args.signal can.component_is can.leaf_is c.index.ensures c.requires.few)
    ∙ sym c.has_section.ensures ∙ c.if-not-has_section.true) in
    c.reacts.ensures.missing (system f.table) (frame_of f.table m.leaves.items) m.slots x own leaf f.services.buffers c.args.signal first.0 c.lawful.ensures
    (standing f m can.holds c.lawful.ensures x own leaf can.component_is can.leaf_is) serves first.1 none

pub returns-clause-step : goal.returns-clause-step
returns-clause-step c =
    let can = c.requires.serves.can in
    let f = c.args.fixed.now in
    let m = c.args.state.now in
    let ls = m.leaves.items in
    let x = c.args.number in
    let own = can.component in
    let old = c.index_mut-leaf.result.now in
    let new = c.react.new.self in
    let there = item_there ls x can.leaf old can.leaf_is c.index_mut-leaf.ensures.value in
    let serves = of_leaf (λ l. l.state.phase ≡ phase.Serving) (slice_get ls x) old there c.requires.serves.serves in
    let named = of_leaf (λ l. option_map (λ p. p.0) (first_signal l.state.signals) ≡ Some c.args.signal) (slice_get ls x) old there c.requires.first in
    let first = first_found (first_signal old.state.signals) c.args.signal named in
    let body = body_there (section_in (Reacting c.args.signal) own.node.program.sections)
    (sym (section_reported f m can.holds x own old c.index.result.now c.args.signal can.component_is there c.index.ensures c.requires.few)
    ∙ sym c.has_section.ensures ∙ c.if-not-has_section.false) in
    let alone = serves_alone f m can.holds c.lawful.ensures x own old can.component_is there serves in
    c.reacts.ensures.taken (system f.table) (frame_of f.table ls) (frame_of f.table (slice_set ls x new)) m.slots x own old f.services.buffers c.args.signal
    first.0 body.0 c.lawful.ensures (standing f m can.holds c.lawful.ensures x own old can.component_is there) serves alone first.1 body.1
    (elsewhere f.table ls x new)
    (leaf_set f.table ls x own old new can.component_is there ∙ ap (λ (l : Coded). leaf_of own.node.program l.state) (c.react.ensures first.0 first.1))

pub returns-clause-leaves : goal.returns-clause-leaves
returns-clause-leaves c =
    record {
      holds =
          let can = c.requires.serves.can in
          let f = c.args.fixed.now in
          let m = c.args.state.now in
          let x = c.args.number in
          let old = c.index_mut-leaf.result.now in
          let there = item_there m.leaves.items x can.leaf old can.leaf_is c.index_mut-leaf.ensures.value in
          let serves = of_leaf (λ l. l.state.phase ≡ phase.Serving) (slice_get m.leaves.items x) old there c.requires.serves.serves in
          let named = of_leaf (λ l. option_map (λ p. p.0) (first_signal l.state.signals) ≡ Some c.args.signal) (slice_get m.leaves.items x) old there
          c.requires.first in
          let first = first_found (first_signal old.state.signals) c.args.signal named in
          let is = c.react.ensures first.0 first.1 in
          kept_one f m _ x can.component old c.react.new.self Quiet can.holds c.lawful.ensures c.lawful.ensures can.component_is there refl
          (ap (λ (l : Coded). l.code) is) (ap (λ (l : Coded). stage_in l.state.phase) is ∙ sym (ap stage_in serves)) (scene_self m.slots)
          (returns-clause-step c);
      leaves = search rules;
      slots = search rules;
    }
