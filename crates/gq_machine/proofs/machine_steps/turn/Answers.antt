-- One turn of a leaf.
use Rattle.std.proofs.Common.{◌≡◌, ◌∙◌, sym, subst, arith}
use Rattle.gq_model.specs.declared.phase.Phase.TheVariants as phase
use Rattle.gq_model.specs.machine.Scenario.{components, system}
use Rattle.gq_model.proofs.Small_facts.{get_within}
use Rattle.gq_bytecode.specs.Nexts.{Active}
use Rattle.gq_leaf.specs.Coded.{Coded}
use Rattle.gq_leaf.specs.Idle_phases.{Rests}
use Rattle.gq_machine.specs.Machine_world.{frame_of}
use Rattle.gq_machine.specs.internal.Machine_invariant.{Holds, OfLeaf}
use Rattle.gq_machine.proofs.Resting_phases.{acts, at_rest}
use Rattle.gq_machine.proofs.Machine_unchanged_world.{holds_same, from_err}
use Rattle.gq_machine.proofs.Stepping_leaf_facts.{can_step, item_there, standing}
use Rattle.gq_machine.proofs.machine_steps.turn.Goals as goal

pub returns-in-Pending-clause-step : goal.returns-in-Pending-clause-step
returns-in-Pending-clause-step c =
    let f = c.args.fixed.now in
    let m = c.args.state.now in
    let h = c.requires.holds in
    let x = c.args.number in
    let less = c.requires.leaf in
    let count = h.count in
    let component = get_within (components f.table) x less in
    let leaf = get_within m.leaves.items x (omega (arith, less, count)) in
    let old = c.index.result.now in
    let there = item_there m.leaves.items x leaf.0 old leaf.1 c.index.ensures in
    c.rests.ensures (system f.table) (frame_of f.table m.leaves.items) m.slots x component.0 old f.services.buffers c.lawful.ensures
    (standing f m h c.lawful.ensures x component.0 old component.1 there) (subst Rests c.phase.ensures (at_rest c.phase.result c.in-Pending.is))

pub returns-in-Err-clause-holds : goal.returns-in-Err-clause-holds
returns-in-Err-clause-holds c =
    let f = c.args.fixed.now in
    from_err c.take_next.result (Holds f c.take_next.new.state) _ _ c.take_next.ensures.leaves.holds c.take_next.ensures.leaves.leaves
    c.take_next.ensures.leaves.slots (λ e g.
    holds_same f c.args.state.now c.take_next.new.state e g c.requires.holds)

pub take_next-requires : goal.take_next-requires
take_next-requires c =
    record {
      serves = record {
        can =
            can_step c.args.fixed.now c.args.state.now c.args.number c.requires.holds c.requires.leaf c.requires.countable;
        serves =
            let f = c.args.fixed.now in
            let m = c.args.state.now in
            let x = c.args.number in
            let less = c.requires.leaf in
            let count = c.requires.holds.count in
            let leaf = get_within m.leaves.items x (omega (arith, less, count)) in
            let there = item_there m.leaves.items x leaf.0 c.index.result.now leaf.1 c.index.ensures in
            subst (OfLeaf (λ (l : Coded). l.state.phase ≡ phase.Serving)) (sym there) (sym c.phase.ensures ∙ c.in-Serving.is);
      };
    }

pub act-requires-clause-acts : goal.act-requires-clause-acts
act-requires-clause-acts c =
    record {
      can =
          can_step c.args.fixed.now c.args.state.now c.args.number c.requires.holds c.requires.leaf c.requires.countable;
      active =
          let f = c.args.fixed.now in
          let m = c.args.state.now in
          let x = c.args.number in
          let less = c.requires.leaf in
          let count = c.requires.holds.count in
          let leaf = get_within m.leaves.items x (omega (arith, less, count)) in
          let there = item_there m.leaves.items x leaf.0 c.index.result.now leaf.1 c.index.ensures in
          subst (OfLeaf (λ (l : Coded). Active l.state.phase)) (sym there) (subst Active c.phase.ensures (acts c.phase.result c.in-Running.is));
    }
