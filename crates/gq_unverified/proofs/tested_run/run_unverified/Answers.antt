use Rattle.std.proofs.Common.{◌<◌, ◌^◌, ℕ, List, length, refl, subst, sym}
use Rattle.gq_model.specs.declared.act.TurnLine.{TurnLine}
use Rattle.gq_model.specs.machine.Scenario.{components}
use Rattle.gq_world.specs.internal.Act_transitions.{AreOf}
use Rattle.gq_world.proofs.Run_text.{lines_of_leaves}
use Rattle.gq_unverified.specs.internal.Taking.{turns_in}
use Rattle.gq_unverified.proofs.Bounded_turn_count.{few_of}
use Rattle.gq_unverified.proofs.tested_run.run_unverified.Goals as goal

pub run_table-requires-clause-ready : goal.run_table-requires-clause-ready
run_table-requires-clause-ready g c = c.unverified_laws.ensures c.args.scenario.now c.in_ok-table.table c.in_ok-table.ensures.read

pub run_table-requires-clause-leaves : goal.run_table-requires-clause-leaves
run_table-requires-clause-leaves g c =
    let s = c.in_ok-table.table in
    subst (λ (t : List TurnLine). AreOf (length (components s)) t) (sym c.as_slice.ensures.value)
    (lines_of_leaves s s c.args.turns.now c.in_ok-turns.turns.items refl c.in_ok-turns.ensures.listed)

pub run_table-requires-clause-few : goal.run_table-requires-clause-few
run_table-requires-clause-few g c =
    subst (λ (t : List TurnLine). turns_in t < 2 ^ 64) (sym c.as_slice.ensures.value)
    (few_of c.in_ok-table.table c.args.turns.now c.in_ok-turns.turns.items c.in_ok-turns.ensures.listed)
