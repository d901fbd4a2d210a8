-- What a text is assembled to is a program.
use Rattle.std.proofs.Common.{◌≡◌, ℕ, suc, ◌+◌, ◌<◌, ◌≤◌, List, [], ◌∷◌, length, true, Option, Some, None, Result, Ok, Err, refl, arith}
use Rattle.std.specs.Prelude.{nat_lt, nat_le, ◌==◌, ◌&&◌, ◌||◌, if◌then◌else◌, codes, sum_by}
use Rattle.std.proofs.lemmas.Bool.{and_parts, and_from, ltb-true, le-leb, cond_both}
use Rattle.gq_model.specs.machine.Program.{Done, Do, section_in, Program, size, text_eq}
use Rattle.gq_model.specs.machine.Sections.{Section, Main, Opening, Upgrading, Calling, Closing, Reacting, all_sections, is_section, SectionKind, row}
use Rattle.gq_model.specs.machine.Sections.{all_kinds}
use Rattle.gq_model.specs.declared.section.SectionKind.TheVariants as kinds
use Rattle.gq_model.specs.machine.Lists.{all_of, between}
use Rattle.gq_model.specs.texts.Letters.{lines, words, unindented, past_word, number_in}
use Rattle.gq_model.specs.texts.Operands.{operands, in_range, greatest_number}
use Rattle.gq_model.specs.texts.Code.{are_sections, greatest_statements, IsProgram}
use Rattle.gq_model.specs.texts.Spelling.{TextFault, UnknownWord, BadNumber, TooLong, spellings, shape_of_word, Spelled, instruction_in}
use Rattle.gq_model.specs.texts.Text.{Section_block, First_arm, Second_arm, Loop_body, BlockKind, OpenBlock, Reading, Read, at_end, numbered, opening}
use Rattle.gq_model.specs.texts.Text.{close_block, ended, turned_over, other_arm, counted, nested, put, statement, limit_of, once, heading, local, outside}
use Rattle.gq_model.specs.texts.Text.{kind_with, headed, headed_or_stray}
use Rattle.gq_model.specs.texts.Text.{is_comment, in_place, line_read, on_line, limits_from, in_order, finished, lines_read, assembled}
use Rattle.gq_model.proofs.Holding_results.{Holds, holds_at}
use Rattle.gq_model.proofs.Shape_spelling.{word_fills}
use Rattle.gq_model.proofs.Decoded_programs.{all_in_order}
use Rattle.gq_model.proofs.Assembled_instructions.{found_holds, number_between, instruction_holds}
use Rattle.gq_model.proofs.Assembled_sections.{limits_fit, ordered, ordered_size, sections_size}
use Rattle.gq_model.proofs.Assembled_blocks.{IsReading, AreOpen, blocks_size, added, closed}

-- STEPS

at_end_holds : (words : List (List ℕ)) (next : Read) → Holds IsReading next → Holds IsReading (at_end words next)
at_end_holds [] next h = h
at_end_holds (word ∷ rest) next h = tt

numbered_holds : (low high : ℕ) (words : List (List ℕ)) (go : ℕ → List (List ℕ) → Read)
    → ((n : ℕ) (more : List (List ℕ)) → between low high n ≡ true → Holds IsReading (go n more)) → Holds IsReading (numbered low high words go)
numbered_holds low high [] go h = tt
numbered_holds low high (word ∷ rest) go h = found_holds IsReading (number_in 10 low high word) BadNumber (λ n. go n rest)
    (λ n e. h n rest (number_between 10 low high word n e))

-- one statement more was counted
abbrev one_more : Reading → Reading
one_more r = record r { count = suc r.count }

counted_holds : (r : Reading) (go : Reading → Read) → (r.count < greatest_statements → Holds IsReading (go (one_more r))) → Holds IsReading (counted r go)
counted_holds r go h = cond_both (nat_lt r.count greatest_statements) (go (one_more r)) (Err TooLong) (Holds IsReading)
    (λ t. h (ltb-true r.count greatest_statements t)) (λ _. tt)

nested_holds : (r : Reading) (go : Reading → Read) → (r.count < greatest_statements → length r.blocks ≤ 4 → Holds IsReading (go (one_more r)))
    → Holds IsReading (nested r go)
nested_holds r go h =
    counted_holds r (λ s. if nat_lt (length s.blocks) 5 then go s else Err TooLong) (λ less.
    cond_both (nat_lt (length r.blocks) 5) (go (one_more r)) (Err TooLong) (Holds IsReading) (λ t. let few = ltb-true (length r.blocks) 5 t in
    h less (omega (arith, few))) (λ _. tt))

-- STATEMENTS

ended_holds : (r : Reading) (b : OpenBlock) (outer : List OpenBlock) (rest : List (List ℕ)) → IsReading r → r.blocks ≡ b ∷ outer
    → Holds IsReading (ended r r.blocks rest)
ended_holds r b outer rest h e =
    let blocks : AreOpen (b ∷ outer) = rw e at h.blocks in
    let count : sections_size r.sections + blocks_size (b ∷ outer) ≡ r.count = rw e at h.count in
    rw e (at_end_holds rest (Ok (close_block r b.kind b.before outer)) (closed r b.kind b.before outer h.limits h.sections blocks.0 blocks.1 count h.few))

turned_holds : (r : Reading) (kind : BlockKind) (b : OpenBlock) (outer : List OpenBlock) (rest : List (List ℕ)) → IsReading r
    → r.blocks ≡ record b { kind = kind } ∷ outer → Holds IsReading (turned_over r kind b outer rest)
turned_holds r (Section_block s) b outer rest h e = tt
turned_holds r (Second_arm arm) b outer rest h e = tt
turned_holds r (Loop_body c) b outer rest h e = tt
turned_holds r First_arm b [] rest h e = let blocks : AreOpen (record b { kind = First_arm } ∷ []) = rw e at h.blocks in absurd blocks.0.kind_is
turned_holds r First_arm b (o ∷ outer) rest h e =
    let blocks : AreOpen (record b { kind = First_arm } ∷ o ∷ outer) = rw e at h.blocks in
    let count : sections_size r.sections + blocks_size (record b { kind = First_arm } ∷ o ∷ outer) ≡ r.count = rw e at h.count in
    at_end_holds rest _ (record {
      limits = h.limits;
      sections = h.sections;
      blocks = (record { kind_is = blocks.0.body; body = refl; few = blocks.0.few }, blocks.1);
      count = omega (arith, count);
      few = h.few;
    })

arm_holds : (r : Reading) (b : OpenBlock) (outer : List OpenBlock) (rest : List (List ℕ)) → IsReading r → r.blocks ≡ b ∷ outer
    → Holds IsReading (other_arm r r.blocks rest)
arm_holds r b outer rest h e = rw e (turned_holds r b.kind b outer rest h e)

opened_arm : (r : Reading) (b : OpenBlock) (outer : List OpenBlock) (k : ℕ) → IsReading r → r.blocks ≡ b ∷ outer → r.count < greatest_statements
    → length r.blocks ≤ 4 → IsReading (opening (one_more r) First_arm k)
opened_arm r b outer k h e less few = record {
  limits = h.limits;
  sections = h.sections;
  blocks = (record { kind_is = rw e tt; body = refl; few = few }, h.blocks);
  count = let c = h.count in omega (arith, c);
  few = less;
}

opened_loop : (r : Reading) (b : OpenBlock) (outer : List OpenBlock) (n k : ℕ) → IsReading r → r.blocks ≡ b ∷ outer → r.count < greatest_statements
    → length r.blocks ≤ 4 → between 1 65535 n ≡ true → IsReading (opening (one_more r) (Loop_body n) k)
opened_loop r b outer n k h e less few t = record {
  limits = h.limits;
  sections = h.sections;
  blocks = (record { kind_is = rw e t; body = refl; few = few }, h.blocks);
  count = let c = h.count in omega (arith, c);
  few = less;
}

put_holds : (r : Reading) (b : OpenBlock) (outer : List OpenBlock) (x : Spelled) → IsReading r → r.blocks ≡ b ∷ outer → r.count < greatest_statements
    → Holds (λ i. all_of in_range (operands i) ≡ true) x → Holds IsReading (put (one_more r) x)
put_holds r b outer (Err fault) h e less i = tt
put_holds r b outer (Ok i) h e less fits =
    let blocks : AreOpen (b ∷ outer) = rw e at h.blocks in
    let count : sections_size r.sections + blocks_size (b ∷ outer) ≡ r.count = rw e at h.count in
    rw e (added r (Do i Done) b outer (suc r.count) h.limits h.sections blocks (and_from (all_of in_range (operands i)) true fits refl)
    (omega (arith, count)) less)

statement_holds : (r : Reading) (b : OpenBlock) (outer : List OpenBlock) (k : ℕ) (word : List ℕ) (rest : List (List ℕ)) (after : List ℕ) → IsReading r
    → r.blocks ≡ b ∷ outer → Holds IsReading (statement r k word rest after)
statement_holds r b outer k word rest after h e =
    cond_both (text_eq word (codes "end")) _ _ (Holds IsReading) (λ _. ended_holds r b outer rest h e) (λ _.
    cond_both (text_eq word (codes "else")) _ _ (Holds IsReading) (λ _. arm_holds r b outer rest h e) (λ _.
    cond_both (text_eq word (codes "if")) _ _ (Holds IsReading)
    (λ _. nested_holds r (λ s. at_end rest (Ok (opening s First_arm k))) (λ less few. at_end_holds rest _ (opened_arm r b outer k h e less few))) (λ _.
    cond_both (text_eq word (codes "loop")) _ _ (Holds IsReading)
    (λ _. nested_holds r (λ s. numbered 1 65535 rest (λ n more. at_end more (Ok (opening s (Loop_body n) k)))) (λ less few.
    numbered_holds 1 65535 rest (λ n more. at_end more (Ok (opening (one_more r) (Loop_body n) k)))
    (λ n more t. at_end_holds more _ (opened_loop r b outer n k h e less few t))))
    (λ _.
    found_holds IsReading (shape_of_word word spellings) UnknownWord (λ shape. counted r (λ s. put s (instruction_in after shape rest))) (λ shape is.
    counted_holds r (λ s. put s (instruction_in after shape rest)) (λ less.
    let row = word_fills word shape is in put_holds r b outer (instruction_in after shape rest) h e less
    (instruction_holds after shape row.0 [] rest row.1 refl)))))))

-- OUTSIDE SECTIONS

once_holds : {A : Type 0} (o : Option A) (next : Read) → Holds IsReading next → Holds IsReading (once o next)
once_holds None next h = h
once_holds (Some a) next h = tt

heading_holds : (r : Reading) (k : ℕ) (s : Section) (rest : List (List ℕ)) → IsReading r → r.blocks ≡ [] → is_section s ≡ true
    → Holds IsReading (heading r k s rest)
heading_holds r k s rest h e is =
    once_holds (section_in s r.sections) (at_end rest (Ok (opening r (Section_block s) k))) (at_end_holds rest _ (record {
      limits = h.limits;
      sections = h.sections;
      blocks = (record { kind_is = rw e is; body = refl; few = rw e (omega arith) }, h.blocks);
      count = let c = h.count in omega (arith, c);
      few = h.few;
    }))

local_holds : (r : Reading) (rest : List (List ℕ)) → IsReading r → Holds IsReading (local r rest)
local_holds r rest h =
    numbered_holds 0 7 rest _ (λ i more _.
    once_holds (limit_of i r.limits) _ (numbered_holds 0 greatest_number more (λ n last. at_end last (Ok (record r { limits = (i, n) ∷ r.limits })))
    (λ n last t.
    at_end_holds last _ (record { limits = (t, h.limits); sections = h.sections; blocks = h.blocks; count = h.count; few = h.few }))))

at_most : (l greatest : ℕ) → between 0 greatest l ≡ true → nat_le l greatest ≡ true
at_most l greatest t = (and_parts (nat_le 0 l) (nat_le l greatest) t).1

headed_holds : (r : Reading) (k : ℕ) (kind : SectionKind) (rest : List (List ℕ)) → IsReading r → r.blocks ≡ []
    → Holds IsReading (headed r k kind (row kind).levels rest)
headed_holds r k kinds.Main rest h e = heading_holds r k Main rest h e refl
headed_holds r k kinds.Opening rest h e = heading_holds r k Opening rest h e refl
headed_holds r k kinds.Upgrading rest h e =
    numbered_holds 1 3 rest (λ l more. heading r k (Upgrading l) more) (λ l more t. heading_holds r k (Upgrading l) more h e t)
headed_holds r k kinds.Calling rest h e =
    numbered_holds 0 3 rest (λ l more. heading r k (Calling l) more) (λ l more t. heading_holds r k (Calling l) more h e (at_most l 3 t))
headed_holds r k kinds.Closing rest h e =
    numbered_holds 0 3 rest (λ l more. heading r k (Closing l) more) (λ l more t. heading_holds r k (Closing l) more h e (at_most l 3 t))
headed_holds r k kinds.Reacting rest h e =
    numbered_holds 0 2 rest (λ i more. heading r k (Reacting i) more) (λ i more t. heading_holds r k (Reacting i) more h e (at_most i 2 t))

headed_or_stray_holds : (r : Reading) (k : ℕ) (word : List ℕ) (rest : List (List ℕ)) (kind : Option SectionKind) → IsReading r → r.blocks ≡ []
    → Holds IsReading (headed_or_stray r k word rest kind)
headed_or_stray_holds r k word rest None h e = cond_both (text_eq word (codes "end") || text_eq word (codes "else")) _ _ (Holds IsReading) (λ _. tt) (λ _. tt)
headed_or_stray_holds r k word rest (Some kind) h e = headed_holds r k kind rest h e

outside_holds : (r : Reading) (k : ℕ) (word : List ℕ) (rest : List (List ℕ)) → IsReading r → r.blocks ≡ [] → Holds IsReading (outside r k word rest)
outside_holds r k word rest h e =
    cond_both (text_eq word (codes "local")) _ _ (Holds IsReading) (λ _. local_holds r rest h)
    (λ _. headed_or_stray_holds r k word rest (kind_with word all_kinds) h e)

-- TEXTS

place_holds : (r : Reading) (blocks : List OpenBlock) (k : ℕ) (word : List ℕ) (rest : List (List ℕ)) (after : List ℕ) → IsReading r → r.blocks ≡ blocks
    → Holds IsReading (in_place r blocks k word rest after)
place_holds r [] k word rest after h e = outside_holds r k word rest h e
place_holds r (b ∷ outer) k word rest after h e = statement_holds r b outer k word rest after h e

line_holds : (r : Reading) (k : ℕ) (line : List ℕ) (words : List (List ℕ)) → IsReading r → Holds IsReading (line_read r k line words)
line_holds r k line [] h = h
line_holds r k line (word ∷ rest) h =
    cond_both (is_comment word) (Ok r) (in_place r r.blocks k word rest (past_word (unindented line))) (Holds IsReading) (λ _. h)
    (λ _. place_holds r r.blocks k word rest (past_word (unindented line)) h refl)

finished_holds : (r : Reading) (blocks : List OpenBlock) → IsReading r → r.blocks ≡ blocks → Holds IsProgram (finished r blocks)
finished_holds r (b ∷ outer) h e = tt
finished_holds r [] h e =
    let sections = in_order r.sections all_sections in
    let locals = limits_from r.limits (0 ∷ 1 ∷ 2 ∷ 3 ∷ 4 ∷ 5 ∷ 6 ∷ 7 ∷ []) in
    let size_fits = ordered_size r.sections h.sections in
    let count : sections_size r.sections + 0 ≡ r.count = rw e at h.count in
    let few = h.few in
    and_from (length locals == 8 && all_of (between 0 greatest_number) locals && are_sections 0 sections)
    (nat_le (sum_by (λ s. size s.1) sections) greatest_statements)
    (and_from (length locals == 8 && all_of (between 0 greatest_number) locals) (are_sections 0 sections)
    (limits_fit (0 ∷ 1 ∷ 2 ∷ 3 ∷ 4 ∷ 5 ∷ 6 ∷ 7 ∷ []) r.limits h.limits) (ordered all_sections 0 r.sections all_in_order h.sections))
    (le-leb (sum_by (λ s. size s.1) sections) greatest_statements (omega (arith, size_fits, count, few)))

on_line_holds : (k : ℕ) (x : Read) (go : Reading → Result Program (TextFault × ℕ)) → Holds IsReading x → ((r : Reading) → IsReading r → Holds IsProgram (go r))
    → Holds IsProgram (on_line k x go)
on_line_holds k (Ok r) go h next = next r h
on_line_holds k (Err fault) go h next = tt

lines_hold : (r : Reading) (k : ℕ) (lines : List (List ℕ)) → IsReading r → Holds IsProgram (lines_read r k lines)
lines_hold r k [] h = finished_holds r r.blocks h refl
lines_hold r k (line ∷ rest) h = on_line_holds k (line_read r k line (words line)) (λ s. lines_read s (suc k) rest) (line_holds r k line (words line) h)
    (λ s g. lines_hold s (suc k) rest g)

-- whatever a text is assembled to is a program
pub assembled_is : (text : List ℕ) (p : Program) → assembled text ≡ Ok p → IsProgram p
assembled_is text p e =
    holds_at IsProgram (assembled text) p (lines_hold (record { limits = []; sections = []; count = 0; blocks = [] }) 1 (lines text)
    (record { limits = tt; sections = tt; blocks = tt; count = refl; few = omega arith })) e
