use Rattle.gq_sizes.proofs.Judged_texts.{accepted_judged, accepted_least, judged_formed, judged_passes, judged_sized}
use Rattle.gq_sizes.proofs.least_size_laws.size_laws.Goals as goal

pub returns-clause-formed : goal.returns-clause-formed
returns-clause-formed c text s judged = judged_formed text s judged

pub returns-clause-passes : goal.returns-clause-passes
returns-clause-passes c text s judged = judged_passes text s judged

pub returns-clause-sized : goal.returns-clause-sized
returns-clause-sized c text s judged quiet ends = judged_sized text s judged quiet ends

pub returns-clause-judged : goal.returns-clause-judged
returns-clause-judged c text s accepted = accepted_judged text s accepted

pub returns-clause-least : goal.returns-clause-least
returns-clause-least c text s accepted = accepted_least text s accepted
