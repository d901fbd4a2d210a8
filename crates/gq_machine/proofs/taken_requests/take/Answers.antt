-- A request that is taken.
use Rattle.std.proofs.Common.{◌≡◌, ◌<◌, ◌+◌, ◌^◌, ℕ, refl, sym, ap, subst, Some, None, Ok, Err, ◌∙◌, rules}
use Rattle.std.specs.Prelude.{slice_get}
use Rattle.std.proofs.lemmas.Option.{slice_get_within}
use Rattle.gq_model.specs.declared.phase.Phase.TheVariants as phase
use Rattle.gq_model.specs.machine.Doing.{Quiet}
use Rattle.gq_model.specs.machine.Scenario.{components}
use Rattle.gq_model.specs.machine.Step.{first_signal}
use Rattle.gq_model.proofs.Small_facts.{some_same}
use Rattle.gq_statements.specs.Systems.{stage_in}
use Rattle.gq_statements.specs.Serving.{found}
use Rattle.gq_leaf.specs.Coded.{Coded}
use Rattle.gq_machine.proofs.Machine_invariant_step.{kept_one}
use Rattle.gq_machine.proofs.Slot_system_kept.{scene_taken}
use Rattle.gq_machine.proofs.Stepping_leaf_facts.{item_there, live, of_leaf}
use Rattle.gq_machine.proofs.Machine_request_taking.{goes, led}
use Rattle.gq_machine.proofs.taken_requests.take.Goals as goal

pub returns-in-Err-clause-wrong : goal.returns-in-Err-clause-wrong
returns-in-Err-clause-wrong c =
    let can = c.requires.serves.can in
    let m = c.args.state.now in
    let x = c.args.number in
    let serves = of_leaf (λ l. l.state.phase ≡ phase.Serving) (slice_get m.leaves.items x) can.leaf can.leaf_is c.requires.serves.serves in
    let none = of_leaf (λ y. first_signal y.state.signals ≡ None) (slice_get m.leaves.items x) can.leaf can.leaf_is c.requires.no_signal in
    led c.args.fixed.now m can.holds c.lawful.ensures x can.component can.leaf can.component_is can.leaf_is serves none c.provider-provider.result.sections.now
    c.accept.new.slots (found c.args.request c.accept.result) (Err c.in-Err.wrong) c.scenario_laws.ensures.interfaces c.provider-provider.ensures.sections
    c.accept.ensures.step (ap (found c.args.request) c.in-Err.is)

pub returns-in-Ok-clause-step : goal.returns-in-Ok-clause-step
returns-in-Ok-clause-step c =
    let can = c.requires.serves.can in
    let f = c.args.fixed.now in
    let m = c.args.state.now in
    let x = c.args.number in
    let t = c.accept.new.slots in
    let r = c.args.request in
    let old = c.index_mut-leaf.result.now in
    let there = item_there m.leaves.items x can.leaf old can.leaf_is c.index_mut-leaf.ensures.value in
    let serves = of_leaf (λ l. l.state.phase ≡ phase.Serving) (slice_get m.leaves.items x) old there c.requires.serves.serves in
    let none = of_leaf (λ y. first_signal y.state.signals ≡ None) (slice_get m.leaves.items x) old there c.requires.no_signal in
    goes f m can.holds c.lawful.ensures x can.component old can.component_is there serves none t r r c.args.level c.begin.new.leaf c.in-Ok.ensures.takes
    c.requires.first.oldest c.requires.first.level c.begin.ensures
    (led f m can.holds c.lawful.ensures x can.component old can.component_is there serves none c.provider-provider.result.sections.now t
    (found r c.accept.result) (Ok (Some r)) c.scenario_laws.ensures.interfaces c.provider-provider.ensures.sections c.accept.ensures.step
    (ap (found r) c.in-Ok.is))

pub returns-in-Ok-clause-leaves : goal.returns-in-Ok-clause-leaves
returns-in-Ok-clause-leaves c =
    record {
      holds =
          let can = c.requires.serves.can in
          let f = c.args.fixed.now in
          let m = c.args.state.now in
          let x = c.args.number in
          let t = c.accept.new.slots in
          let old = c.index_mut-leaf.result.now in
          let there = item_there m.leaves.items x can.leaf old can.leaf_is c.index_mut-leaf.ensures.value in
          let serves = of_leaf (λ l. l.state.phase ≡ phase.Serving) (slice_get m.leaves.items x) old there c.requires.serves.serves in
          let none = of_leaf (λ y. first_signal y.state.signals ≡ None) (slice_get m.leaves.items x) old there c.requires.no_signal in
          kept_one f m _ x can.component old c.begin.new.leaf Quiet can.holds c.lawful.ensures c.lawful-in-Ok.ensures can.component_is there refl
          (ap (λ (l : Coded). l.code) c.begin.ensures) (ap (λ (l : Coded). stage_in l.state.phase) c.begin.ensures ∙ sym (ap stage_in serves))
          (scene_taken m.slots t x c.args.request c.in-Ok.ensures.takes) (returns-in-Ok-clause-step c);
      leaves = search rules;
      slots = search rules;
    }

pub accept-requires-clause-live : goal.accept-requires-clause-live
accept-requires-clause-live c =
    let can = c.requires.serves.can in
    let m = c.args.state.now in
    let x = c.args.number in
    let serves = of_leaf (λ l. l.state.phase ≡ phase.Serving) (slice_get m.leaves.items x) can.leaf can.leaf_is c.requires.serves.serves in
    let none = of_leaf (λ y. first_signal y.state.signals ≡ None) (slice_get m.leaves.items x) can.leaf can.leaf_is c.requires.no_signal in
    live c.args.fixed.now m can.holds c.lawful.ensures x can.component can.leaf can.component_is can.leaf_is (ap stage_in serves)

pub accept-requires-clause-first : goal.accept-requires-clause-first
accept-requires-clause-first c =
    record {
      oldest = c.requires.first.oldest;
      there = c.requires.first.taken;
      its = c.requires.first.its;
      level = λ up. subst (λ (l : ℕ). l < 3) c.requires.first.level (c.requires.first.within up);
    }

pub begin-requires-clause-steps : goal.begin-requires-clause-steps
begin-requires-clause-steps c =
    let can = c.requires.serves.can in
    let m = c.args.state.now in
    let there = item_there m.leaves.items c.args.number can.leaf c.index_mut-leaf.result.now can.leaf_is c.index_mut-leaf.ensures.value in
    subst (λ (l : Coded). l.state.steps + 1 < 2 ^ 64) (some_same (sym can.leaf_is ∙ there)) can.countable

pub begin-requires-clause-level : goal.begin-requires-clause-level
begin-requires-clause-level c = c.requires.first.low

pub scenario_laws-requires : goal.scenario_laws-requires
scenario_laws-requires c = slice_get_within (components c.args.fixed.now.table) c.args.number c.requires.serves.can.component c.requires.serves.can.component_is

pub returns-in-Err-clause-leaves : goal.returns-in-Err-clause-leaves
returns-in-Err-clause-leaves c =
    record {
      holds = search rules;
      leaves = search rules;
      slots = c.in-Err.ensures.unchanged;
    }
