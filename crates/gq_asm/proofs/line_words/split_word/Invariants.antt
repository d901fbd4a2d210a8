use Rattle.std.proofs.Common.{◌≡◌, ◌++◌, take, drop}
use Rattle.gq_model.specs.texts.Letters.{past_word}
use Rattle.gq_asm.specs.Pieces.{prefix_word}
use Rattle.gq_asm.proofs.line_words.split_word.Given as goal

abbrev pub invariant-loop-i : goal.invariant-loop-i
invariant-loop-i l = (take l.i l.text ++ prefix_word (drop l.i l.text) ≡ prefix_word l.text) × (past_word (drop l.i l.text) ≡ past_word l.text)
