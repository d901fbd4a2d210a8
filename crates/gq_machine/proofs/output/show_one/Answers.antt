-- A number that a leaf shows, where it takes steps of its own.
use Rattle.std.proofs.Common.{sym, subst, arith}
use Rattle.gq_model.proofs.Small_facts.{get_within}
use Rattle.gq_bytecode.specs.Nexts.{Active}
use Rattle.gq_leaf.specs.Coded.{Coded}
use Rattle.gq_machine.specs.internal.Machine_invariant.{OfLeaf}
use Rattle.gq_machine.proofs.Stepping_leaf_facts.{item_there}
use Rattle.gq_machine.proofs.Machine_step_counts.{can_by_turns, counted_there}
use Rattle.gq_machine.proofs.Resting_phases.{acts}
use Rattle.gq_machine.proofs.output.show_one.Goals as goal

pub show_next-requires-clause-goes : goal.show_next-requires-clause-goes
show_next-requires-clause-goes c =
    let m = c.args.state.now in
    let x = c.args.number in
    record {
      can = can_by_turns c.args.fixed.now c.args.state.now c.args.number c.args.turns c.requires.can c.lawful.ensures c.requires.some;
      active =
          let less = c.requires.can.leaf in
          let count = c.requires.can.holds.count in
          let leaf = get_within m.leaves.items x (omega (arith, less, count)) in
          let there = item_there m.leaves.items x leaf.0 c.index.result.now leaf.1 c.index.ensures in
          subst (OfLeaf (λ (l : Coded). Active l.state.phase)) (sym there) (subst Active c.phase.ensures (acts c.phase.result c.in-Running.is));
      countable =
          let f = c.args.fixed.now in
          counted_there f m c.requires.can.holds c.lawful.ensures x c.args.turns c.requires.can.leaf c.requires.can.countable;
    }
