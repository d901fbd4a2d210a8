-- All that a listing has is printed.
use Rattle.std.proofs.Common.{◌≡◌, ℕ, zero, suc, ◌+◌, ◌-◌, ◌<◌, ◌≤◌, ◌^◌, Bool, true, false, List, [], ◌∷◌, ◌++◌, length, Ok, refl, arith}
use Rattle.std.specs.Prelude.{◌&&◌, nat_le, nat_lt, ◌==◌, if◌then◌else◌, decimal, codes}
use Rattle.std.proofs.lemmas.Bool.{and_parts, eqb-true, leb-true}
use Rattle.gq_model.specs.declared.program.Instruction.{Instruction}
use Rattle.gq_model.specs.declared.section.Section.{Section}
use Rattle.gq_model.specs.declared.section.Section.TheVariants.{Main, Opening, Upgrading, Calling, Closing, Reacting}
use Rattle.gq_model.specs.machine.Lists.{all_of, between}
use Rattle.gq_model.specs.machine.Program.{Program, Statements, Done, Do, If, Loop}
use Rattle.gq_model.specs.texts.Operands.{greatest_number, in_range, operands}
use Rattle.gq_model.specs.texts.Code.{IsProgram, are_sections, greatest_statements, is_body}
use Rattle.gq_model.specs.machine.Sections.{is_section, section_number, section_word}
use Rattle.gq_model.specs.texts.Text.{assembled}
use Rattle.gq_views.specs.Listing.{indent, indented, instruction_text, listing, locals_lines, loop_text, operands_text, other_lines, sections_lines}
use Rattle.gq_views.specs.Listing.{statements_lines}
use Rattle.gq_views.proofs.Listed_numbers.{all_append}
use Rattle.gq_views.proofs.Listed_lines.{AllPrinted, both_printed, decimal_solid, is_printed, solid_printed}
use Rattle.gq_views.proofs.Listed_operands.{word_printed}
use Rattle.gq_views.proofs.Listed_instructions.{keyword, plain, plain_from}
use Rattle.gq_views.proofs.Listed_reads.{spelled_back}
use Rattle.gq_model.proofs.Section_laws.{first_of}
use Rattle.gq_views.proofs.Listed_sections.{Sections}
use Rattle.gq_views.proofs.Listed_programs.{read_back, total}

decimal_printed : (n : ℕ) → n < 2 ^ 64 → all_of is_printed (decimal n) ≡ true
decimal_printed n small = solid_printed (decimal n) (decimal_solid n small)

indent_printed : (d : ℕ) (text : List ℕ) → all_of is_printed text ≡ true → all_of is_printed (indented d text) ≡ true
indent_printed d text h = all_append is_printed (indent d) text (blanks d) h
  where
    blanks : (d : ℕ) → all_of is_printed (indent d) ≡ true
    blanks zero = refl
    blanks (suc d) = blanks d

instruction_printed : (x : Instruction) → all_of in_range (operands x) ≡ true → all_of is_printed (instruction_text x) ≡ true
instruction_printed x h =
    all_append is_printed (keyword x) (operands_text (operands x)) (word_printed (keyword x) (plain_from (keyword x) (plain x)).word) (spelled_back x h).printed

loop_printed : (n : ℕ) → between 1 65535 n ≡ true → all_of is_printed (loop_text n) ≡ true
loop_printed n h =
    let t = and_parts (nat_le 1 n) (nat_le n 65535) h in
    all_append is_printed (codes "loop ") (decimal n) refl (decimal_printed n (omega (arith, leb-true n 65535 t.1)))

with_other : (d : ℕ) (other : Statements) (ls : List (List ℕ)) → AllPrinted ls → AllPrinted (other_lines d other ls)
with_other d Done ls h = tt
with_other d (Do i rest) ls h = (indent_printed d (codes "else") refl, h)
with_other d (If x y rest) ls h = (indent_printed d (codes "else") refl, h)
with_other d (Loop n x rest) ls h = (indent_printed d (codes "else") refl, h)

statements_printed : (n d : ℕ) (s : Statements) → is_body n s ≡ true → AllPrinted (statements_lines d s)
statements_printed n d Done h = tt
statements_printed n d (Do i rest) h =
    let t = and_parts (all_of in_range (operands i)) (is_body n rest) h in
    (indent_printed d (instruction_text i) (instruction_printed i t.0), statements_printed n d rest t.1)
statements_printed n d (If arm other rest) h =
    let t = and_parts (nat_lt 0 n && is_body (n - 1) arm && is_body (n - 1) other) (is_body n rest) h in
    let u = and_parts (nat_lt 0 n && is_body (n - 1) arm) (is_body (n - 1) other) t.0 in
    let v = and_parts (nat_lt 0 n) (is_body (n - 1) arm) u.0 in
    let inner = statements_lines (suc d) arm in
    let closing = other_lines d other (statements_lines (suc d) other) in
    let last : List (List ℕ) = indented d (codes "end") ∷ statements_lines d rest in
    let both = both_printed inner closing (statements_printed (n - 1) (suc d) arm v.1)
    (with_other d other (statements_lines (suc d) other) (statements_printed (n - 1) (suc d) other u.1)) in
    (indent_printed d (codes "if") refl, both_printed (inner ++ closing) last both (indent_printed d (codes "end") refl, statements_printed n d rest t.1))
statements_printed n d (Loop m body rest) h =
    let t = and_parts (nat_lt 0 n && between 1 65535 m && is_body (n - 1) body) (is_body n rest) h in
    let u = and_parts (nat_lt 0 n && between 1 65535 m) (is_body (n - 1) body) t.0 in
    let v = and_parts (nat_lt 0 n) (between 1 65535 m) u.0 in
    let last : List (List ℕ) = indented d (codes "end") ∷ statements_lines d rest in (
      indent_printed d (loop_text m) (loop_printed m v.1),
      both_printed (statements_lines (suc d) body) last (statements_printed (n - 1) (suc d) body u.1)
          (indent_printed d (codes "end") refl, statements_printed n d rest t.1),
    )

section_printed : (s : Section) → is_section s ≡ true → all_of is_printed (section_word s) ≡ true
section_printed Main h = refl
section_printed Opening h = refl
section_printed (Upgrading l) h =
    let t = and_parts (nat_le 1 l) (nat_le l 3) h in
    all_append is_printed (codes "up ") (decimal l) refl (decimal_printed l (omega (arith, leb-true l 3 t.1)))
section_printed (Calling l) h = all_append is_printed (codes "call ") (decimal l) refl (decimal_printed l (omega (arith, leb-true l 3 h)))
section_printed (Closing l) h = all_append is_printed (codes "close ") (decimal l) refl (decimal_printed l (omega (arith, leb-true l 3 h)))
section_printed (Reacting i) h = all_append is_printed (codes "on ") (decimal i) refl (decimal_printed i (omega (arith, leb-true i 2 h)))

sections_printed : (n : ℕ) (ps : Sections) → are_sections n ps ≡ true → AllPrinted (sections_lines ps)
sections_printed n [] h = tt
sections_printed n (p ∷ rest) h =
    let f = first_of n p rest h in (
      section_printed p.0 f.section,
      both_printed (statements_lines 1 p.1) (codes "end" ∷ sections_lines rest) (statements_printed 4 1 p.1 f.body) (
        refl,
        sections_printed
            (1 + section_number p.0) rest f.rest,
      ),
    )

local_printed : (i n : ℕ) → i < 2 ^ 64 → n < 2 ^ 64 → (b : Bool)
    → AllPrinted (if b then [] else (codes "local " ++ decimal i ++ codes " " ++ decimal n) ∷ [])
local_printed i n si sn true = tt
local_printed i n si sn false = (
  all_append is_printed (codes "local " ++ decimal i ++ codes " ") (decimal n)
      (all_append is_printed (codes "local " ++ decimal i) (codes " ") (all_append is_printed (codes "local ") (decimal i) refl (decimal_printed i si)) refl)
      (decimal_printed n sn),
  tt,
)

locals_printed : (i : ℕ) (ns : List ℕ) → i + length ns ≤ 8 → all_of (between 0 greatest_number) ns ≡ true → AllPrinted (locals_lines i ns)
locals_printed i [] few h = tt
locals_printed i (n ∷ rest) few h =
    let t = and_parts (between 0 greatest_number n) (all_of (between 0 greatest_number) rest) h in
    let u = and_parts (nat_le 0 n) (nat_le n greatest_number) t.0 in
    both_printed (if n == greatest_number then [] else (codes "local " ++ decimal i ++ codes " " ++ decimal n) ∷ []) (locals_lines (suc i) rest)
    (local_printed i n (omega (arith, few)) (omega (arith, leb-true n greatest_number u.1)) (n == greatest_number))
    (locals_printed (suc i) rest (omega (arith, few)) t.1)

-- the listing of a program is assembled as that program
pub listed : (p : Program) → IsProgram p → assembled (listing p) ≡ Ok p
listed p h =
    let a = and_parts (length p.locals == 8 && all_of (between 0 greatest_number) p.locals && are_sections 0 p.sections)
    (nat_le (total p.sections) greatest_statements) h in
    let b = and_parts (length p.locals == 8 && all_of (between 0 greatest_number) p.locals) (are_sections 0 p.sections) a.0 in
    let c = and_parts (length p.locals == 8) (all_of (between 0 greatest_number) p.locals) b.0 in
    let long : length p.locals ≡ 8 = eqb-true (length p.locals) 8 c.0 in
    read_back p h (both_printed (locals_lines 0 p.locals) (sections_lines p.sections)
    (locals_printed 0 p.locals (omega (arith, long)) c.1) (sections_printed 0 p.sections b.1))
