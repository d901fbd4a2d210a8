-- All was reported, or a write failed.
use Rattle.std.proofs.Common.{Ok, refl}
use Rattle.gq_reports.proofs.Command_text_endings.{all_written, cut_short}
use Rattle.gq_traces.specs.First_turns.{some_turns}
use Rattle.gq_model.specs.machine.Scenario.{system}
use Rattle.gq_traces.specs.Account_state.{state_text}
use Rattle.gq_traces.specs.Trace.{start_traced}
use Rattle.gq_traces.specs.internal.Line_acts.{acts_along}
use Rattle.gq_traces.proofs.account_state.state_after.Goals as goal

pub returns-in-Ok-write_state : goal.returns-in-Ok-write_state
returns-in-Ok-write_state g c =
    let s = c.args.world.now.scenario in
    let text = state_text s (some_turns c.args.first (acts_along (system s) c.args.turns.now (start_traced (system s)))) in
    all_written g.W.Write.contents (Ok text) text refl _ _ c.write_state.result _ _ c.in-Ok-write_state.is c.write_state.ensures

pub returns : goal.returns
returns g c =
    let s = c.args.world.now.scenario in
    let text = state_text s (some_turns c.args.first (acts_along (system s) c.args.turns.now (start_traced (system s)))) in
    cut_short g.W.Write.contents (Ok text) text refl _ _ c.write_state.result _ c.in-Err-write_state.is c.write_state.ensures
