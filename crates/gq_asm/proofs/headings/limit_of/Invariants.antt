use Rattle.std.proofs.Common.{◌≡◌, drop}
use Rattle.gq_model.specs.texts.Text.{limit_of}
use Rattle.gq_asm.proofs.headings.limit_of.Given as goal

abbrev pub invariant-loop-given : goal.invariant-loop-given
invariant-loop-given l = limit_of l.local (drop l.given-index l.limits) ≡ limit_of l.local l.limits
