-- What is reported of a scenario's text.
use Rattle.std.proofs.Common.{◌≡◌, List, Ok, Option, ap, sym, subst, ℕ}
use Rattle.gq_model.specs.machine.Scenario.{Scenario}
use Rattle.gq_load.specs.Load.{loaded}
use Rattle.gq_reports.specs.Command_outcomes.{WritesAs}
use Rattle.gq_reports.specs.Whole.{with_scenario}
use Rattle.gq_traces.specs.Traces_written.{state_from, state_written}
use Rattle.gq_traces.proofs.account_state.state.Goals as goal

reports : (first : Option ℕ) (scenario text : List ℕ) (s : Scenario) → loaded scenario ≡ Ok s → state_written first scenario text ≡ state_from first s text
reports first scenario text s load = ap (λ l. with_scenario l (λ r. state_from first r text)) load

pub returns : goal.returns
returns g c =
    let same = reports c.args.first c.args.scenario.now c.args.turns.now c.in_ok-world.world.scenario c.in_ok-world.ensures.loaded in
    subst (λ w. WritesAs g.W.Write.contents w c.args.out.now c.state_of_world-written.new.out c.state_of_world-written.result) (sym same)
    c.state_of_world-written.ensures
