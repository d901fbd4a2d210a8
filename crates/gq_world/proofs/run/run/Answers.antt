use Rattle.std.proofs.Common.{◌≡◌, ap, sym, subst, List, ℕ, Result, Ok, Err}
use Rattle.std.specs.Prelude.{OnOk}
use Rattle.gq_model.specs.machine.Scenario.{Scenario}
use Rattle.gq_model.specs.texts.Turns.{turned}
use Rattle.gq_load.specs.Load.{loaded}
use Rattle.gq_world.specs.Headline.{WritesPromised}
use Rattle.gq_reports.specs.Command_outcomes.{IsWhole, WritesAs}
use Rattle.gq_world.specs.internal.Act_transitions.{turns_written}
use Rattle.gq_reports.specs.Whole.{run_written, with_scenario, written_turns}
use Rattle.gq_world.proofs.Run_text.{promised}
use Rattle.gq_world.proofs.run.run.Goals as goal

-- what is written for a text that is loaded
runs : (scenario text : List ℕ) (s : Scenario) → loaded scenario ≡ Ok s → run_written scenario text ≡ turns_written s text
runs scenario text s load = ap (λ l. with_scenario l (λ r. written_turns r (turned r text))) load

on_ok_then : {A B : Type 0} (r : Result A B) (P Q : Type 0) → (P → Q) → OnOk r P → OnOk r Q
on_ok_then (Ok a) P Q f h = f h
on_ok_then (Err b) P Q f h = h

pub returns-clause-writes : goal.returns-clause-writes
returns-clause-writes g c =
    let same = runs c.args.scenario.now c.args.turns.now c.in_ok-world.world.scenario c.in_ok-world.ensures.loaded in
    subst (λ w. WritesAs g.W.Write.contents w c.args.out.now c.run_turns-ran.new.out c.run_turns-ran.result) (sym same) c.run_turns-ran.ensures

pub returns-clause-promised : goal.returns-clause-promised
returns-clause-promised g c =
    let s = c.in_ok-world.world.scenario in
    let scenario = c.args.scenario.now in
    let text = c.args.turns.now in
    let a = g.W.Write.contents c.args.out.now.writer in
    let b = g.W.Write.contents c.run_turns-ran.new.out.writer in
    on_ok_then c.run_turns-ran.result (IsWhole (turns_written s text) a b) (WritesPromised scenario text a b)
    (promised scenario text s a b c.in_ok-world.ensures.loaded c.in_ok-world.ensures.accepted c.in_ok-world.ensures.upheld) c.run_turns-ran.ensures.written
