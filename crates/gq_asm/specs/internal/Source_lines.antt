-- The lines of a text: what is left of them, and the one that is read by the way of usual lines.
use Rattle.std.specs.Prelude.{◌≡◌, ◌<◌, ℕ, suc, length, List, [], Option, Some, None, Ok}
use Rattle.gq_model.specs.texts.Code.{greatest_statements}
use Rattle.gq_model.specs.texts.Letters.{words, lines}
use Rattle.gq_model.specs.texts.Text.{Reading, line_read}
use Rattle.gq_asm.specs.Pieces.{past_feed, fed_line}

-- the lines of a text that may not be there
abbrev pub lines_left : Option (List ℕ) → List (List ℕ)
lines_left None = []
lines_left (Some text) = lines text

-- how many bytes are left, and one for the text itself
abbrev pub size_left : Option (List ℕ) → ℕ
size_left None = 0
size_left (Some text) = suc (length text)

-- a block is open, and a statement more may come
abbrev pub IsTaking : Reading → Type 0
IsTaking r = (0 < length r.blocks) × (r.count < greatest_statements)

-- the first line is read, and these bytes follow its line feed
pub record ReadsUsual (text rest : List ℕ) (old new : Reading) : Type 0 where
  pub fed : past_feed text ≡ Some rest
  pub read : (k : ℕ) → line_read old k (fed_line text) (words (fed_line text)) ≡ Ok new
