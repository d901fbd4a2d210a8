-- A leaf: after which it starts, its items, and its next step.
use Rattle.std.proofs.Common.{IfSome, subst}
use Rattle.std.specs.Prelude.{slice_get}
use Rattle.gq_model.specs.machine.Scenario.{Scenario, components, system}
use Rattle.gq_traces.specs.Account_state.{start_text}
use Rattle.gq_traces.specs.internal.Printed_steps.{Goes}
use Rattle.gq_traces.proofs.Printed_leaves.{leaf_reported}
use Rattle.gq_traces.proofs.Sound_world_leaves.{leaves_are}
use Rattle.gq_traces.proofs.account_state.write_leaf.Goals as goal

pub write_next-requires-clause-leaves : goal.write_next-requires-clause-leaves
write_next-requires-clause-leaves g c = leaves_are c.args.machine.now c.requires.stands

pub returns : goal.returns
returns g c t at aheads =
    let m = c.args.machine.now in
    let a = c.write_start-going in
    let b = c.write_items-going in
    leaf_reported g.W.Write.contents m.scenario m.world c.args.leaf c.phase-phase.result t c.args.out.now a.new.out b.new.out c.write_next.new.out c.args.going
    a.result b.result c.write_next.result at (leaves_are m c.requires.stands) c.requires.leaf c.phase-phase.ensures
    (subst (λ (s : Scenario). IfSome (slice_get (components s) c.args.leaf)
    (λ d. Goes g.W.Write.contents c.args.out.now a.new.out c.args.going a.result (start_text (system s) d c.phase-phase.result))) c.table.ensures a.ensures)
    b.ensures (c.write_next.ensures t.aheads aheads)
