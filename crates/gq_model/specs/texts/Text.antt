-- The program that a text spells, or its first fault and the line.
use Rattle.std.specs.Prelude.{ℕ, suc, nat_lt, ◌==◌, if◌then◌else◌, Bool, false, ◌||◌, List, [], ◌∷◌, ◌++◌, length, Option, Some, None, Result, Ok, Err, codes}
use Rattle.gq_model.specs.machine.Sections.{Section, SectionKind, row, all_kinds, of_kind, all_sections}
use Rattle.gq_model.specs.machine.Program.{Statements, Done, Do, If, Loop, ◌then◌, section_in, Program, text_eq}
use Rattle.gq_model.specs.texts.Letters.{lines, words, unindented, past_word, number_in}
use Rattle.gq_model.specs.texts.Operands.{greatest_number}
use Rattle.gq_model.specs.texts.Code.{greatest_statements}
use Rattle.gq_model.specs.texts.Spelling.{TextFault, UnknownWord, BadNumber, Unclosed, StrayEnd, SectionTwice, TooLong, spellings, shape_of_word, Spelled}
use Rattle.gq_model.specs.texts.Spelling.{found, instruction_in}

-- a section, the first or the second arm of an `if`, or the body of a loop
pub data BlockKind : Type 0 where
  Section_block : (section : Section) → BlockKind
  First_arm : BlockKind
  Second_arm : (arm : Statements) → BlockKind
  Loop_body : (count : ℕ) → BlockKind

-- a block that is not closed yet: the line that opened it, and its statements so far
pub record OpenBlock : Type 0 where
  pub kind : BlockKind
  pub line : ℕ
  pub before : Statements

-- what has been read: the limits of locals, the closed sections, how many statements, and the open blocks, the innermost first
pub record Reading : Type 0 where
  pub limits : List (ℕ × ℕ)
  pub sections : List (Section × Statements)
  pub count : ℕ
  pub blocks : List OpenBlock

abbrev pub Read : Type 0
Read = Result Reading TextFault

-- no word is left on the line
abbrev pub at_end : List (List ℕ) → Read → Read
at_end [] next = next
at_end (word ∷ rest) next = Err UnknownWord

-- the next word as a number in range
abbrev pub numbered : ℕ → ℕ → List (List ℕ) → (ℕ → List (List ℕ) → Read) → Read
numbered low high [] go = Err BadNumber
numbered low high (word ∷ rest) go = found (number_in 10 low high word) BadNumber (λ n. go n rest)

-- BLOCKS

-- the same blocks with these statements at the end of the innermost
abbrev pub add_to : Statements → List OpenBlock → List OpenBlock
add_to new [] = []
add_to new (b ∷ blocks) = record b { before = b.before then new } ∷ blocks

abbrev pub opening : Reading → BlockKind → ℕ → Reading
opening r kind k = record r { blocks = record { kind = kind; line = k; before = Done } ∷ r.blocks }

-- a block's statements once it is closed, as a part of what is around it
abbrev pub close_block : Reading → BlockKind → Statements → List OpenBlock → Reading
close_block r (Section_block s) before blocks = record r { sections = (s, before) ∷ r.sections; blocks = blocks }
close_block r First_arm before blocks = record r { blocks = add_to (If before Done Done) blocks }
close_block r (Second_arm arm) before blocks = record r { blocks = add_to (If arm before Done) blocks }
close_block r (Loop_body n) before blocks = record r { blocks = add_to (Loop n before Done) blocks }

abbrev pub ended : Reading → List OpenBlock → List (List ℕ) → Read
ended r [] rest = Err StrayEnd
ended r (b ∷ blocks) rest = at_end rest (Ok (close_block r b.kind b.before blocks))

-- `else` ends the first arm of an `if`
abbrev pub turned_over : Reading → BlockKind → OpenBlock → List OpenBlock → List (List ℕ) → Read
turned_over r First_arm b blocks rest = at_end rest (Ok (record r { blocks = record b { kind = Second_arm b.before; before = Done } ∷ blocks }))
turned_over r kind b blocks rest = Err StrayEnd

abbrev pub other_arm : Reading → List OpenBlock → List (List ℕ) → Read
other_arm r [] rest = Err StrayEnd
other_arm r (b ∷ blocks) rest = turned_over r b.kind b blocks rest

-- STATEMENTS

-- one statement more, of at most 4096
abbrev pub counted : Reading → (Reading → Read) → Read
counted r go = if nat_lt r.count greatest_statements then go (record r { count = suc r.count }) else Err TooLong

-- one block more, of at most four in a section
abbrev pub nested : Reading → (Reading → Read) → Read
nested r go = counted r (λ s. if nat_lt (length s.blocks) 5 then go s else Err TooLong)

abbrev pub put : Reading → Spelled → Read
put r (Ok i) = Ok (record r { blocks = add_to (Do i Done) r.blocks })
put r (Err fault) = Err fault

-- a line in a section: its words, and what follows the first as it stands
abbrev pub statement : Reading → ℕ → List ℕ → List (List ℕ) → List ℕ → Read
statement r k word rest after =
    if text_eq word (codes "end") then ended r r.blocks rest else
    (if text_eq word (codes "else") then other_arm r r.blocks rest else
    (if text_eq word (codes "if") then nested r (λ s. at_end rest (Ok (opening s First_arm k))) else
    (if text_eq word (codes "loop") then nested r (λ s. numbered 1 65535 rest (λ n more. at_end more (Ok (opening s (Loop_body n) k)))) else
    found (shape_of_word word spellings) UnknownWord (λ shape. counted r (λ s. put s (instruction_in after shape rest))))))

-- OUTSIDE SECTIONS

abbrev pub limit_of : ℕ → List (ℕ × ℕ) → Option ℕ
limit_of i [] = None
limit_of i (p ∷ rest) = if p.0 == i then Some p.1 else limit_of i rest

-- what is given a second time
abbrev pub once : {A : Type 0} → Option A → Read → Read
once None next = next
once (Some a) next = Err SectionTwice

abbrev pub heading : Reading → ℕ → Section → List (List ℕ) → Read
heading r k s rest = once (section_in s r.sections) (at_end rest (Ok (opening r (Section_block s) k)))

-- a local and its limit
abbrev pub local : Reading → List (List ℕ) → Read
local r rest =
    numbered 0 7 rest (λ i more. once (limit_of i r.limits)
    (numbered 0 greatest_number more (λ n last. at_end last (Ok (record r { limits = (i, n) ∷ r.limits })))))

-- the kind of section whose heading has this word
abbrev pub kind_with : List ℕ → List SectionKind → Option SectionKind
kind_with word [] = None
kind_with word (k ∷ rest) = if text_eq word (row k).word then Some k else kind_with word rest

-- the heading of a section of this kind, whose level stands behind its word, where it has levels
abbrev pub headed : Reading → ℕ → SectionKind → Option (ℕ × ℕ) → List (List ℕ) → Read
headed r k kind None rest = heading r k (of_kind kind 0) rest
headed r k kind (Some levels) rest = numbered levels.0 levels.1 rest (λ l more. heading r k (of_kind kind l) more)

-- a heading, or a line that can't stand there
abbrev pub headed_or_stray : Reading → ℕ → List ℕ → List (List ℕ) → Option SectionKind → Read
headed_or_stray r k word rest None = if text_eq word (codes "end") || text_eq word (codes "else") then Err StrayEnd else Err UnknownWord
headed_or_stray r k word rest (Some kind) = headed r k kind (row kind).levels rest

-- a line outside sections
abbrev pub outside : Reading → ℕ → List ℕ → List (List ℕ) → Read
outside r k word rest = if text_eq word (codes "local") then local r rest else headed_or_stray r k word rest (kind_with word all_kinds)

-- TEXTS

abbrev pub is_comment : List ℕ → Bool
is_comment [] = false
is_comment (c ∷ rest) = c == 35

abbrev pub in_place : Reading → List OpenBlock → ℕ → List ℕ → List (List ℕ) → List ℕ → Read
in_place r [] k word rest after = outside r k word rest
in_place r (b ∷ blocks) k word rest after = statement r k word rest after

-- the k-th line, by its words; one without words and a comment say nothing
abbrev pub line_read : Reading → ℕ → List ℕ → List (List ℕ) → Read
line_read r k line [] = Ok r
line_read r k line (word ∷ rest) = if is_comment word then Ok r else in_place r r.blocks k word rest (past_word (unindented line))

-- a fault bears the number of its line
abbrev pub on_line : ℕ → Read → (Reading → Result Program (TextFault × ℕ)) → Result Program (TextFault × ℕ)
on_line k (Ok r) go = go r
on_line k (Err fault) go = Err (fault, k)

abbrev pub limit_or_greatest : Option ℕ → ℕ
limit_or_greatest None = greatest_number
limit_or_greatest (Some n) = n

abbrev pub limits_from : List (ℕ × ℕ) → List ℕ → List ℕ
limits_from limits [] = []
limits_from limits (i ∷ rest) = limit_or_greatest (limit_of i limits) ∷ limits_from limits rest

abbrev pub section_entry : Section → Option Statements → List (Section × Statements)
section_entry s None = []
section_entry s (Some body) = (s, body) ∷ []

-- the sections that were given, in their order
abbrev pub in_order : List (Section × Statements) → List Section → List (Section × Statements)
in_order given [] = []
in_order given (s ∷ rest) = section_entry s (section_in s given) ++ in_order given rest

-- at the end of the text every block is closed
abbrev pub finished : Reading → List OpenBlock → Result Program (TextFault × ℕ)
finished r [] =
    Ok (record { sections = in_order r.sections all_sections; locals = limits_from r.limits (0 ∷ 1 ∷ 2 ∷ 3 ∷ 4 ∷ 5 ∷ 6 ∷ 7 ∷ []) })
finished r (b ∷ blocks) = Err (Unclosed, b.line)

-- the program of these lines, of which the first is the k-th
abbrev pub lines_read : Reading → ℕ → List (List ℕ) → Result Program (TextFault × ℕ)
lines_read r k [] = finished r r.blocks
lines_read r k (line ∷ rest) = on_line k (line_read r k line (words line)) (λ s. lines_read s (suc k) rest)

abbrev pub assembled : List ℕ → Result Program (TextFault × ℕ)
assembled text = lines_read (record { limits = []; sections = []; count = 0; blocks = [] }) 1 (lines text)
