-- The operands of a usual line.
use Rattle.std.specs.Prelude.{◌≡◌, ℕ, ◌++◌, true, List, [], ◌∷◌, Some, Ok}
use Rattle.gq_model.specs.machine.Lists.{all_of}
use Rattle.gq_model.specs.declared.program.Instruction.{Instruction}
use Rattle.gq_model.specs.texts.Letters.{words}
use Rattle.gq_model.specs.texts.Spelling.{Shape, instruction_in}
use Rattle.gq_asm.specs.Word_prefixes.{is_plain}
use Rattle.gq_asm.specs.Pieces.{prefix_word, past_feed, fed_line}

-- a word stands between a blank and a line feed
pub record IsLastWord (text word rest : List ℕ) : Type 0 where
  pub split : text ≡ 32 ∷ (word ++ 10 ∷ rest)
  pub plain : all_of is_plain word ≡ true

-- what stands up to the line feed are the operands of this instruction
pub record Completes (text : List ℕ) (shape : Shape) (i : Instruction) (rest : List ℕ) : Type 0 where
  pub fed : past_feed text ≡ Some rest
  pub cut : prefix_word (fed_line text) ≡ []
  pub read : (after : List ℕ) → instruction_in after shape (words (fed_line text)) ≡ Ok i
