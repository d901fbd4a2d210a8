use Rattle.std.proofs.Common.{sym, ◌∙◌}
use Rattle.gq_model.specs.machine.Program.{text_eq}
use Rattle.gq_resolve.proofs.Afters_named.{named_before}
use Rattle.gq_resolve.proofs.start_after.is_taken.Goals as goal

pub returns : goal.returns
returns c = c.is_named.ensures ∙ sym (named_before (text_eq c.args.name.now) c.args.earlier.now)
