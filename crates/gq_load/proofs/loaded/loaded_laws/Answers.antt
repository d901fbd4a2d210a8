use Rattle.gq_laws.proofs.upheld_worlds.Upheld_runs.{run_upholds}
use Rattle.gq_load.proofs.Sound_texts.{loaded_sound}
use Rattle.gq_load.proofs.loaded.loaded_laws.Goals as goal

pub returns-clause-sound : goal.returns-clause-sound
returns-clause-sound c text s e = loaded_sound text s e

pub returns-clause-runs : goal.returns-clause-runs
returns-clause-runs c text s turns e = run_upholds s (loaded_sound text s e) turns
