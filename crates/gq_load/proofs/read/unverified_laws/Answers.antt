-- Laws of what is read and resolved.
use Rattle.gq_load.proofs.Read_texts.{unverified_ready}
use Rattle.gq_load.proofs.read.unverified_laws.Goals as goal

pub returns : goal.returns
returns c = unverified_ready
