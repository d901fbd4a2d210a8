-- A program as text, with the numbers of its statements.
use Rattle.std.specs.Prelude.{◌≡◌, ℕ, zero, suc, ◌+◌, ◌-◌, ◌==◌, if◌then◌else◌, List, [], ◌∷◌, ◌++◌, Option, Some, None, codes, decimal, length, map}
use Rattle.gq_model.specs.declared.section.Section.{Section}
use Rattle.gq_model.specs.machine.Program.{Statements, Done, Do, If, Loop, Program, size}
use Rattle.gq_model.specs.machine.Sections.{section_word}
use Rattle.gq_model.specs.texts.Operands.{greatest_number}
use Rattle.gq_views.specs.Listing.{indented, instruction_text, listing_lines, loop_text}

-- a line of the listing, with the number of its statement, where it is one's first line
abbrev pub Row : Type 0
Row = Option ℕ × List ℕ

abbrev pub blanks : ℕ → List ℕ
blanks zero = []
blanks (suc n) = 32 ∷ blanks n

-- the number at the right end of five columns, and a blank
abbrev pub margin : Option ℕ → List ℕ
margin None = blanks 6
margin (Some n) = blanks (5 - length (decimal n)) ++ decimal n ++ codes " "

-- each line behind its margin, with a line feed
abbrev pub text_of : List Row → List ℕ
text_of [] = []
text_of (row ∷ rest) = margin row.0 ++ row.1 ++ 10 ∷ text_of rest

-- the second arm is reported where it does something
abbrev pub other_rows : ℕ → Statements → List Row → List Row
other_rows depth Done rows = []
other_rows depth other rows = (None, indented depth (codes "else")) ∷ rows

-- statements of which the first has the number n; those of arms and bodies are counted, too
abbrev pub statement_rows : (depth n : ℕ) → Statements → List Row
statement_rows depth n Done = []
statement_rows depth n (Do i rest) = (Some n, indented depth (instruction_text i)) ∷ statement_rows depth (suc n) rest
statement_rows depth n (If arm other rest) =
    (Some n, indented depth (codes "if")) ∷ statement_rows (suc depth) (suc n) arm
    ++ other_rows depth other (statement_rows (suc depth) (suc n + size arm) other)
    ++ (None, indented depth (codes "end")) ∷ statement_rows depth (suc n + size arm + size other) rest
statement_rows depth n (Loop count body rest) =
    (Some n, indented depth (loop_text count)) ∷ statement_rows (suc depth) (suc n) body
    ++ (None, indented depth (codes "end")) ∷ statement_rows depth (suc n + size body) rest

abbrev pub local_rows : ℕ → List ℕ → List Row
local_rows i [] = []
local_rows i (n ∷ rest) =
    (if n == greatest_number then [] else (None, codes "local " ++ decimal i ++ codes " " ++ decimal n) ∷ []) ++ local_rows (suc i) rest

-- the statements of each section are counted from 1
abbrev pub section_rows : List (Section × Statements) → List Row
section_rows [] = []
section_rows (p ∷ rest) = (None, section_word p.0) ∷ statement_rows 1 1 p.1 ++ (None, codes "end") ∷ section_rows rest

abbrev pub program_rows : Program → List Row
program_rows p = local_rows 0 p.locals ++ section_rows p.sections

abbrev pub numbered_listing : Program → List ℕ
numbered_listing p = text_of (program_rows p)

-- WHAT HOLDS OF IT

-- the numbers of these lines
abbrev pub number_in : Option ℕ → List ℕ
number_in None = []
number_in (Some n) = n ∷ []

abbrev pub numbers_of : List Row → List ℕ
numbers_of [] = []
numbers_of (row ∷ rest) = number_in row.0 ++ numbers_of rest

-- so many numbers from n on
abbrev pub counted_from : ℕ → ℕ → List ℕ
counted_from n zero = []
counted_from n (suc k) = n ∷ counted_from (suc n) k

-- without their margins these are the lines of the listing, and the statements of each section are numbered in turn, from 1
pub record NumbersListing (p : Program) : Type 0 where
  pub lines : map (λ (row : Row). row.1) (program_rows p) ≡ listing_lines p
  pub numbers : (body : Statements) → numbers_of (statement_rows 1 1 body) ≡ counted_from 1 (size body)
