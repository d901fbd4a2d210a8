-- A leaf that uses more, or not.
use Rattle.gq_traces.proofs.Peaks_kept.{is_raised}
use Rattle.gq_traces.proofs.peaks.raised.Goals as goal

pub returns : goal.returns
returns c =
    let m = c.args.machine.now in
    is_raised m.scenario m.world c.args.leaf c.args.turn c.args.old c.peaks_now-now.result _ c.peaks_now-now.ensures c.higher.ensures c.higher-2.ensures
