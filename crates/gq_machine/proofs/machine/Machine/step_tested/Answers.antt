-- One turn of a leaf.
use Rattle.std.proofs.Common.{◌<◌, ◌+◌, ◌^◌, length, sym, subst}
use Rattle.std.specs.Prelude.{slice_get}
use Rattle.gq_model.specs.machine.Scenario.{components}
use Rattle.gq_leaf.specs.Coded.{Coded}
use Rattle.gq_machine.specs.Machines.{Machine}
use Rattle.gq_machine.specs.internal.Machine_invariant.{OfLeaf}
use Rattle.gq_machine.specs.Countable.{IsCountable}
use Rattle.gq_machine.proofs.Machine_step_counts.{counted_there}
use Rattle.gq_machine.proofs.machine.Machine.step_tested.Goals as goal

pub turn-requires-clause-countable : goal.turn-requires-clause-countable
turn-requires-clause-countable c =
    let f = c.self.inside.fixed in
    let m = c.self.inside.state in
    let x = c.args.leaf in
    let less = subst (λ (v : Machine). x < length (components v.scenario)) (sym c.self.view_is) c.requires.leaf in
    let count = subst (λ (v : Machine). IsCountable v.world x) (sym c.self.view_is) c.requires.countable in
    subst (λ y. OfLeaf (λ (k : Coded). k.state.steps + 1 < 2 ^ 64) (slice_get m.leaves.items y)) (sym c.index.ensures)
    (counted_there f m c.self.invariant c.lawful.ensures x 1 less count)
