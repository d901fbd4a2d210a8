use Rattle.std.proofs.Common.{◌≡◌, drop}
use Rattle.gq_model.specs.texts.Spelling.{shape_of_word}
use Rattle.gq_program.specs.Statement_table.{spellings_of}
use Rattle.gq_program.proofs.shapes.with_word.Given as goal

abbrev pub invariant-loop-shape : goal.invariant-loop-shape
invariant-loop-shape l = shape_of_word l.word (spellings_of (drop l.shape-index l.shapes)) ≡ shape_of_word l.word (spellings_of l.shapes)
