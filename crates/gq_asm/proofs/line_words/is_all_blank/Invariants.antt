use Rattle.std.proofs.Common.{◌≡◌, drop}
use Rattle.gq_model.specs.machine.Lists.{all_of}
use Rattle.gq_model.specs.texts.Letters.{is_blank}
use Rattle.gq_asm.proofs.line_words.is_all_blank.Given as goal

abbrev pub invariant-loop-byte : goal.invariant-loop-byte
invariant-loop-byte l = all_of is_blank (drop l.byte-index l.text) ≡ all_of is_blank l.text
