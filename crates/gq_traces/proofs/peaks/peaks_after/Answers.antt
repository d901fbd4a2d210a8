-- All was written, or a write failed.
use Rattle.std.proofs.Common.{Ok, refl}
use Rattle.gq_reports.proofs.Command_text_endings.{all_written, cut_short}
use Rattle.gq_model.specs.machine.Run.{begun}
use Rattle.gq_model.specs.machine.Scenario.{system}
use Rattle.gq_model.specs.texts.Turns.{acts_from}
use Rattle.gq_traces.specs.Account_peaks.{peaks_text}
use Rattle.gq_traces.proofs.peaks.peaks_after.Goals as goal

pub returns-in-Ok-write_peaks : goal.returns-in-Ok-write_peaks
returns-in-Ok-write_peaks g c =
    let s = c.args.world.now.scenario in
    let text = peaks_text s (acts_from (system s) (begun (system s)) c.args.turns.now) in
    all_written g.W.Write.contents (Ok text) text refl _ _ c.write_peaks.result _ _ c.in-Ok-write_peaks.is c.write_peaks.ensures

pub returns : goal.returns
returns g c =
    let s = c.args.world.now.scenario in
    let text = peaks_text s (acts_from (system s) (begun (system s)) c.args.turns.now) in
    cut_short g.W.Write.contents (Ok text) text refl _ _ c.write_peaks.result _ c.in-Err-write_peaks.is c.write_peaks.ensures
