-- Laws of what is read.
use Rattle.gq_load.proofs.Read_texts.{text_read, text_differ, loaded_read, loaded_ready}
use Rattle.gq_load.proofs.read.read_laws.Goals as goal

pub returns-clause-read : goal.returns-clause-read
returns-clause-read c = loaded_read

pub returns-clause-ready : goal.returns-clause-ready
returns-clause-ready c = loaded_ready

pub returns-clause-in_text : goal.returns-clause-in_text
returns-clause-in_text c = text_read

pub returns-clause-differ : goal.returns-clause-differ
returns-clause-differ c = text_differ
