-- The peaks of a run are the greatest uses over its worlds.
use Rattle.gq_traces.proofs.Peaks_shown.{shows_peaks}
use Rattle.gq_traces.proofs.peaks_laws.peaks_laws.Goals as goal

pub returns : goal.returns
returns c scenario turns text e = shows_peaks scenario turns text e
