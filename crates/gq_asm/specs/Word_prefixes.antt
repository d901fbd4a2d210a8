-- The word of a statement at the start of a text.
use Rattle.std.specs.Prelude.{◌≡◌, ℕ, nat_lt, Bool, true, ◌&&◌, not, List, ◌++◌, Some, codes}
use Rattle.gq_model.specs.machine.Lists.{all_of}
use Rattle.gq_model.specs.machine.Program.{text_eq}
use Rattle.gq_model.specs.texts.Spelling.{shape_of_word, spellings}
use Rattle.gq_model.specs.texts.Text.{is_comment}
use Rattle.gq_program.specs.declared.shapes.Shape.{Shape}
use Rattle.gq_program.specs.Statement_table.{shape_of}

-- a byte that ends no word and no line
abbrev pub is_plain : ℕ → Bool
is_plain c = nat_lt 32 c

-- a word that begins no comment, and is none of those of blocks
abbrev pub is_of_statement : List ℕ → Bool
is_of_statement word =
    not (is_comment word) && not (text_eq word (codes "end")) && not (text_eq word (codes "else"))
    && not (text_eq word (codes "if")) && not (text_eq word (codes "loop"))

-- a text begins with the bytes of the word of a statement, and these follow
pub record BeginsWith (text : List ℕ) (shape : Shape) (rest : List ℕ) : Type 0 where
  pub word : List ℕ
  pub split : text ≡ word ++ rest
  pub plain : all_of is_plain word ≡ true
  pub of_statement : is_of_statement word ≡ true
  pub spelled : shape_of_word word spellings ≡ Some (shape_of shape)
