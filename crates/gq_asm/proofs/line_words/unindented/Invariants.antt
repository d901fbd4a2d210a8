use Rattle.std.proofs.Common.{◌≡◌, drop}
use Rattle.gq_model.specs.texts.Letters.{unindented}
use Rattle.gq_asm.proofs.line_words.unindented.Given as goal

abbrev pub invariant-loop-i : goal.invariant-loop-i
invariant-loop-i l = unindented (drop l.i l.text) ≡ unindented l.text
