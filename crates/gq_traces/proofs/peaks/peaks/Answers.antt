-- What is written of a scenario's text.
use Rattle.std.proofs.Common.{◌≡◌, List, Ok, ap, sym, subst, ℕ}
use Rattle.gq_model.specs.machine.Scenario.{Scenario}
use Rattle.gq_load.specs.Load.{loaded}
use Rattle.gq_reports.specs.Command_outcomes.{WritesAs}
use Rattle.gq_reports.specs.Whole.{with_scenario}
use Rattle.gq_traces.specs.Traces_written.{peaks_from, peaks_written}
use Rattle.gq_traces.proofs.peaks.peaks.Goals as goal

written : (scenario text : List ℕ) (s : Scenario) → loaded scenario ≡ Ok s → peaks_written scenario text ≡ peaks_from s text
written scenario text s load = ap (λ l. with_scenario l (λ r. peaks_from r text)) load

pub returns : goal.returns
returns g c =
    let same = written c.args.scenario.now c.args.turns.now c.in_ok-world.world.scenario c.in_ok-world.ensures.loaded in
    subst (λ w. WritesAs g.W.Write.contents w c.args.out.now c.peaks_of_world-written.new.out c.peaks_of_world-written.result) (sym same)
    c.peaks_of_world-written.ensures
