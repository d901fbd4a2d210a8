-- What the word of a statement reports.
use Rattle.std.proofs.Common.{◌≡◌, ℕ, true, List, ◌++◌, Some, ap, refl, ◌∙◌}
use Rattle.gq_model.specs.machine.Lists.{all_of}
use Rattle.gq_model.specs.machine.Program.{text_eq}
use Rattle.gq_model.specs.texts.Spelling.{shape_of_word, spellings}
use Rattle.gq_model.proofs.Small_facts.{text_is}
use Rattle.gq_program.specs.declared.shapes.Shape.{Shape}
use Rattle.gq_program.specs.Statement_table.{shape_of, word_of}
use Rattle.gq_program.proofs.Statement_table_entries.{found_by_word, each_word}
use Rattle.gq_asm.specs.Word_prefixes.{is_plain, is_of_statement, BeginsWith}

-- a word is that of a statement where it has the same bytes
pub spelled : (word text : List ℕ) (s : Shape) → text_eq word text ≡ true → shape_of_word text spellings ≡ Some (shape_of s) →
    shape_of_word word spellings ≡ Some (shape_of s)
spelled word text s same is = ap (λ (w : List ℕ). shape_of_word w spellings) (text_is word text same) ∙ is

-- what holds of the word of each statement
abbrev Reports : Shape → Type 0
Reports s = (all_of is_plain (word_of s) ≡ true) × (is_of_statement (word_of s) ≡ true) × (shape_of_word (word_of s) spellings ≡ Some (shape_of s))

reports : (s : Shape) → Reports s
reports s = (each_word (all_of is_plain) refl s, each_word is_of_statement refl s, found_by_word s)

-- a text that begins with the word of a statement
pub begins : (text : List ℕ) (s : Shape) (rest : List ℕ) → text ≡ word_of s ++ rest → BeginsWith text s rest
begins text s rest e =
    let t = reports s in record { word = word_of s; split = e; plain = t.0; of_statement = t.1; spelled = t.2 }
