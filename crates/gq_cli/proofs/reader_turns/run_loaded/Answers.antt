-- The turns are those of the world's own scenario.
use Rattle.std.proofs.Common.{◌≤◌, List, subst, sym, length, arith}
use Rattle.gq_model.specs.declared.act.TurnLine.{TurnLine}
use Rattle.gq_model.specs.machine.Scenario.{components}
use Rattle.gq_world.specs.World_between_turns.{AreOf, greatest_lines}
use Rattle.gq_world.proofs.Run_text.{lines_are_few, lines_of_leaves}
use Rattle.gq_cli.proofs.reader_turns.run_loaded.Goals as goal

pub run_world-requires-clause-leaves : goal.run_world-requires-clause-leaves
run_world-requires-clause-leaves g c =
    let s = c.args.world.now.scenario in
    let read = c.in_ok-items.ensures.turns in
    subst (AreOf (length (components s))) (sym c.as_slice.ensures.value)
    (lines_of_leaves s c.table.result.now read.text c.in_ok-items.items.items c.table.ensures read.so)

pub run_world-requires-clause-few : goal.run_world-requires-clause-few
run_world-requires-clause-few g c =
    let read = c.in_ok-items.ensures.turns in
    let few : length c.as_slice.result.now ≤ greatest_lines =
    subst (λ (l : List TurnLine). length l ≤ greatest_lines) (sym c.as_slice.ensures.value)
    (lines_are_few c.table.result.now read.text c.in_ok-items.items.items read.so) in
    let none = c.requires.signals in
    omega (arith, few, none)
