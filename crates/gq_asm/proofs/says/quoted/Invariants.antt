use Rattle.std.proofs.Common.{◌≡◌, take, drop}
use Rattle.gq_model.specs.texts.Spelling.{quoted}
use Rattle.gq_asm.specs.internal.Quotes.{onto}
use Rattle.gq_asm.proofs.says.quoted.Given as goal

abbrev pub invariant-loop-i : goal.invariant-loop-i
invariant-loop-i l = onto (take l.i l.text) (quoted (drop l.i l.text)) ≡ quoted l.text
