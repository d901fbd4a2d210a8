use Rattle.gq_asm.proofs.Word_prefix_statements.{begins}
use Rattle.gq_asm.proofs.word_prefixes.found.Goals as goal

pub returns : goal.returns
returns c = begins c.args.text.now c.args.shape c.args.rest.now c.requires
