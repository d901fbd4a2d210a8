-- Usual lines: one statement, its operands with one blank before each, and a line feed right after it.
use Rattle.std.specs.Prelude.{◌≡◌, ℕ, List, ◌∷◌, Some, Ok}
use Rattle.gq_model.specs.declared.program.Instruction.{Instruction}
use Rattle.gq_model.specs.texts.Letters.{words}
use Rattle.gq_model.specs.texts.Text.{OpenBlock, Reading, counted, put, line_read}
use Rattle.gq_asm.specs.Pieces.{past_feed, fed_line}

-- the first line is this statement, wherever a statement may stand
pub record IsUsual (text : List ℕ) (i : Instruction) (rest : List ℕ) : Type 0 where
  pub fed : past_feed text ≡ Some rest
  pub read : (r : Reading) (k : ℕ) (b : OpenBlock) (blocks : List OpenBlock) → r.blocks ≡ b ∷ blocks →
      line_read r k (fed_line text) (words (fed_line text)) ≡ counted r (λ s. put s (Ok i))
