use Rattle.std.proofs.Common.{◌≡◌, ◌≤◌, sym, ap, subst, length, ℕ, List, Ok, ◌∙◌, arith}
use Rattle.gq_model.specs.machine.Scenario.{Scenario, components, system}
use Rattle.gq_model.specs.declared.act.TurnLine.{TurnLine}
use Rattle.gq_model.specs.texts.Turns.{acts_of, listed}
use Rattle.gq_world.specs.World_between_turns.{greatest_lines}
use Rattle.gq_world.specs.internal.Act_transitions.{AreOf, acts_of_lines, turns_written}
use Rattle.gq_reports.specs.Whole.{whole_of, written_turns}
use Rattle.gq_reports.proofs.Command_text_endings.{all_written, cut_short}
use Rattle.gq_world.proofs.Run_text.{lines_are_few, lines_of_leaves}
use Rattle.gq_world.proofs.run.run_turns.Goals as goal

pub run_world-requires-clause-leaves : goal.run_world-requires-clause-leaves
run_world-requires-clause-leaves g c =
    let s = c.args.world.now.scenario in
    subst (AreOf (length (components s))) (sym c.as_slice.ensures.value)
    (lines_of_leaves s c.table.result.now c.args.turns.now c.in-Ok.turns.items c.table.ensures c.in-Ok.ensures)

pub run_world-requires-clause-few : goal.run_world-requires-clause-few
run_world-requires-clause-few g c =
    let few : length c.as_slice.result.now ≤ greatest_lines =
    subst (λ (l : List TurnLine). length l ≤ greatest_lines) (sym c.as_slice.ensures.value)
    (lines_are_few c.table.result.now c.args.turns.now c.in-Ok.turns.items c.in-Ok.ensures) in
    let none = c.requires.signals in
    omega (arith, few, none)

-- what the lines that were read with the world's own table write
module _ (s t : Scenario) (text : List ℕ) (lines slice : List TurnLine) (same : t ≡ s) (reads : listed t text ≡ Ok lines) (is : slice ≡ lines) where
  reads_own : listed s text ≡ Ok lines
  reads_own = ap (λ (r : Scenario). listed r text) (sym same) ∙ reads

  pub given : turns_written s text ≡ Ok (whole_of s (acts_of_lines s slice))
  given =
      ap (λ l. written_turns s (acts_of (system s) l)) reads_own
      ∙ sym (ap (λ (l : List TurnLine). written_turns s (Ok (acts_of_lines s l))) is)

pub returns-in-Ok-run_world : goal.returns-in-Ok-run_world
returns-in-Ok-run_world g c =
    let s = c.args.world.now.scenario in
    let e = given s c.table.result.now c.args.turns.now c.in-Ok.turns.items c.as_slice.result.now c.table.ensures c.in-Ok.ensures c.as_slice.ensures.value in
    all_written g.W.Write.contents (turns_written s c.args.turns.now) (whole_of s (acts_of_lines s c.as_slice.result.now)) e _ _ c.run_world.result _ _
    c.in-Ok-run_world.is c.run_world.ensures

pub returns : goal.returns
returns g c =
    let s = c.args.world.now.scenario in
    let e = given s c.table.result.now c.args.turns.now c.in-Ok.turns.items c.as_slice.result.now c.table.ensures c.in-Ok.ensures c.as_slice.ensures.value in
    cut_short g.W.Write.contents (turns_written s c.args.turns.now) (whole_of s (acts_of_lines s c.as_slice.result.now)) e _ _ c.run_world.result _ c.in-Err.is
    c.run_world.ensures
