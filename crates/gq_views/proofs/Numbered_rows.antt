-- The numbered lines of a program as a text that grows at its end.
use Rattle.std.proofs.Common.{◌≡◌, ◌∙◌, ℕ, zero, suc, ◌+◌, ◌-◌, ◌<◌, List, [], ◌∷◌, ◌++◌, length, get_or, drop, ap, sym, refl, arith}
use Rattle.std.proofs.Common.{append_assoc, append-nil, codes, Some, None, Bool, true, false, true≢false, cond, eqb, map}
use Rattle.std.specs.Prelude.{decimal, slice_index}
use Rattle.std.proofs.Math.Seq.{drop-cons}
use Rattle.gq_model.specs.declared.section.Section.{Section}
use Rattle.gq_model.specs.machine.Program.{Program, Statements, Done, Do, size}
use Rattle.gq_model.specs.machine.Program as program
use Rattle.gq_model.specs.machine.Sections.{section_word}
use Rattle.gq_model.specs.texts.Operands.{greatest_number}
use Rattle.gq_program.specs.Statement_trees.{tree_of}
use Rattle.gq_program.specs.declared.program_tree.Statement.{Statement}
use Rattle.gq_program.specs.declared.program_tree.Statement.TheVariants.{Plain, If, Loop}
use Rattle.gq_program.proofs.Statement_list_sizes.{here_is, size_first}
use Rattle.gq_views.specs.Listing.{indented, instruction_text, joined, line, locals_lines, loop_text, other_lines, sections_lines, statements_lines}
use Rattle.gq_views.specs.Numbered.{NumbersListing, Row, blanks, counted_from, local_rows, margin, number_in, numbered_listing, numbers_of, other_rows}
use Rattle.gq_views.specs.Numbered.{section_rows, statement_rows, text_of}
use Rattle.gq_views.proofs.Printed_sections.{next_is}

pub text_append : (a b : List Row) → text_of (a ++ b) ≡ text_of a ++ text_of b
text_append [] b = refl
text_append (r ∷ a) b =
    ap (λ t. margin r.0 ++ r.1 ++ 10 ∷ t) (text_append a b) ∙ sym (append_assoc (margin r.0 ++ r.1) (10 ∷ text_of a) (text_of b))

-- BLANKS

pub blanks_more : (more old all : List ℕ) (left : ℕ) → 0 < left → more ≡ old ++ 32 ∷ [] → old ++ blanks left ≡ all → more ++ blanks (left - 1) ≡ all
blanks_more more old all zero some put so = absurd (omega (arith, some))
blanks_more more old all (suc left) some put so =
    let less : suc left - 1 ≡ left = omega arith in
    rw (less, put) (append_assoc old (32 ∷ []) (blanks left) ∙ so)

-- STATEMENTS

module _ (d : ℕ) where
  rows_first : (n : ℕ) (st : Statement) (rest : List Statement)
      → statement_rows d n (tree_of (st ∷ rest))
      ≡ statement_rows d n (tree_of (st ∷ [])) ++ statement_rows d (n + size (tree_of (st ∷ []))) (tree_of rest)
  rows_first n (Plain i) rest =
      let next : suc n ≡ n + size (tree_of (Plain i ∷ [])) = omega arith in
      ap (λ m. (Some n, indented d (instruction_text i)) ∷ statement_rows d m (tree_of rest)) next
  rows_first n (If arm other) rest =
      let next : suc n + size arm + size other ≡ n + size (tree_of (If arm other ∷ [])) = omega arith in
      let a = statement_rows (suc d) (suc n) arm in
      let o = other_rows d other (statement_rows (suc d) (suc n + size arm) other) in
      let e : List Row = (None, indented d (codes "end")) ∷ [] in
      let r = statement_rows d (n + size (tree_of (If arm other ∷ []))) (tree_of rest) in
      ap (λ m. (Some n, indented d (codes "if")) ∷ (a ++ o ++ (None, indented d (codes "end")) ∷ statement_rows d m (tree_of rest))) next
      ∙ ap (λ t. (Some n, indented d (codes "if")) ∷ t) (sym (append_assoc (a ++ o) e r))
  rows_first n (Loop count body) rest =
      let next : suc n + size body ≡ n + size (tree_of (Loop count body ∷ [])) = omega arith in
      let b = statement_rows (suc d) (suc n) body in
      let e : List Row = (None, indented d (codes "end")) ∷ [] in
      let r = statement_rows d (n + size (tree_of (Loop count body ∷ []))) (tree_of rest) in
      ap (λ m. (Some n, indented d (loop_text count)) ∷ (b ++ (None, indented d (codes "end")) ∷ statement_rows d m (tree_of rest))) next
      ∙ ap (λ t. (Some n, indented d (loop_text count)) ∷ t) (sym (append_assoc b e r))

  -- the statement that stands there is put, before what is left
  pub statement_put : (items : List Statement) (i : ℕ) (st : Statement) → i < length items → st ≡ get_or items i st
      → (n next : ℕ) (old more all : List ℕ) → next ≡ n + size (tree_of (st ∷ [])) → more ≡ old ++ text_of (statement_rows d n (tree_of (st ∷ [])))
      → old ++ text_of (statement_rows d n (tree_of (drop i items))) ≡ all
      → more ++ text_of (statement_rows d next (tree_of (drop (i + 1) items))) ≡ all
  statement_put items i st less is n next old more all after put so =
      let first = statement_rows d n (tree_of (st ∷ [])) in
      let left = statement_rows d (n + size (tree_of (st ∷ []))) (tree_of (drop (i + 1) items)) in
      let whole : text_of (statement_rows d n (tree_of (drop i items))) ≡ text_of first ++ text_of left =
      ap (λ l. text_of (statement_rows d n (tree_of l))) (here_is items i st less is) ∙ ap text_of (rows_first n st (drop (i + 1) items))
      ∙ text_append first left in
      rw (put, after) (append_assoc old (text_of first) (text_of left) ∙ (ap (λ t. old ++ t) (sym whole) ∙ so))

pub sizes_here : (items : List Statement) (i : ℕ) (st : Statement) → i < length items → st ≡ get_or items i st
    → size (tree_of (drop i items)) ≡ size (tree_of (st ∷ [])) + size (tree_of (drop (i + 1) items))
sizes_here items i st less is = ap (λ l. size (tree_of l)) (here_is items i st less is) ∙ size_first st (drop (i + 1) items)

-- BLOCKS

module _ (d e n : ℕ) (deeper : e ≡ d + 1) where
  inside : e ≡ suc d
  inside = omega (arith, deeper)

  pub plain_text : (words t u v : List ℕ) → u ≡ t ++ margin (Some n) → v ≡ u ++ line d words → v ≡ t ++ text_of ((Some n, indented d words) ∷ [])
  plain_text words t u v p q =
      q ∙ ap (λ l. l ++ line d words) p ∙ append_assoc t (margin (Some n)) (line d words)
      ∙ ap (λ l. t ++ l) (sym (append_assoc (margin (Some n)) (indented d words) (10 ∷ [])))

  pub if_text : (m : ℕ) (arm other : Statements) (t u v w x y : List ℕ) → m ≡ n + 1 + size arm → u ≡ t ++ margin (Some n) → v ≡ u ++ line d (codes "if")
      → w ≡ v ++ text_of (statement_rows e (n + 1) arm) → x ≡ w ++ text_of (other_rows d other (statement_rows e m other))
      → y ≡ x ++ text_of ((None, indented d (codes "end")) ∷ [])
      → y ≡ t ++ text_of (statement_rows d n (program.If arm other Done))
  if_text m arm other t u v w x y between p q r s z =
      let one : n + 1 ≡ suc n = omega arith in
      let all : m ≡ suc n + size arm = omega (arith, between) in
      let f : List Row = (Some n, indented d (codes "if")) ∷ [] in
      let a = statement_rows (suc d) (suc n) arm in
      let o = other_rows d other (statement_rows (suc d) (suc n + size arm) other) in
      let c : List Row = (None, indented d (codes "end")) ∷ [] in
      let w1 : w ≡ v ++ text_of a =
      r ∙ ap (λ k. v ++ text_of (statement_rows k (n + 1) arm)) inside ∙ ap (λ k. v ++ text_of (statement_rows (suc d) k arm)) one in
      let x1 : x ≡ w ++ text_of o =
      s ∙ ap (λ k. w ++ text_of (other_rows d other (statement_rows k m other))) inside
      ∙ ap (λ k. w ++ text_of (other_rows d other (statement_rows (suc d) k other))) all in
      let whole : text_of (f ++ (a ++ o ++ c)) ≡ text_of f ++ (text_of a ++ (text_of o ++ text_of c)) =
      text_append f (a ++ o ++ c)
      ∙ ap (λ l. text_of f ++ l) (text_append (a ++ o) c ∙ ap (λ l. l ++ text_of c) (text_append a o) ∙ append_assoc (text_of a) (text_of o) (text_of c)) in
      four t (text_of f) (text_of a) (text_of o) (text_of c) v w x y (plain_text (codes "if") t u v p q) w1 x1 z ∙ ap (λ l. t ++ l) (sym whole)
    where
      four : (t a b c f u v w x : List ℕ) → u ≡ t ++ a → v ≡ u ++ b → w ≡ v ++ c → x ≡ w ++ f → x ≡ t ++ (a ++ (b ++ (c ++ f)))
      four t a b c f u v w x p q r s = rw (s, r, q, p) (simp append_assoc)

  pub loop_rows : (count : ℕ) (body : Statements) (t u v w x : List ℕ) → u ≡ t ++ margin (Some n) → v ≡ u ++ line d (loop_text count)
      → w ≡ v ++ text_of (statement_rows e (n + 1) body) → x ≡ w ++ text_of ((None, indented d (codes "end")) ∷ [])
      → x ≡ t ++ text_of (statement_rows d n (program.Loop count body Done))
  loop_rows count body t u v w x p q r z =
      let one : n + 1 ≡ suc n = omega arith in
      let f : List Row = (Some n, indented d (loop_text count)) ∷ [] in
      let b = statement_rows (suc d) (suc n) body in
      let c : List Row = (None, indented d (codes "end")) ∷ [] in
      let w1 : w ≡ v ++ text_of b =
      r ∙ ap (λ k. v ++ text_of (statement_rows k (n + 1) body)) inside ∙ ap (λ k. v ++ text_of (statement_rows (suc d) k body)) one in
      let whole : text_of (f ++ (b ++ c)) ≡ text_of f ++ (text_of b ++ text_of c) =
      text_append f (b ++ c) ∙ ap (λ l. text_of f ++ l) (text_append b c) in
      three t (text_of f) (text_of b) (text_of c) v w x (plain_text (loop_text count) t u v p q) w1 z ∙ ap (λ l. t ++ l) (sym whole)
    where
      three : (t a b f u v x : List ℕ) → u ≡ t ++ a → v ≡ u ++ b → x ≡ v ++ f → x ≡ t ++ (a ++ (b ++ f))
      three t a b f u v x p q r = rw (r, q, p) (simp append_assoc)

-- the second arm is reported where it has statements
module _ (d : ℕ) (rows : List Row) where
  printed_other : (st : Statement) (rest : List Statement) → other_rows d (tree_of (st ∷ rest)) rows ≡ (None, indented d (codes "else")) ∷ rows
  printed_other (Plain i) rest = refl
  printed_other (If arm other) rest = refl
  printed_other (Loop count body) rest = refl

  pub other_text : (items : List Statement) → 0 < length items → (t u x : List ℕ) → u ≡ t ++ text_of ((None, indented d (codes "else")) ∷ [])
      → x ≡ u ++ text_of rows → x ≡ t ++ text_of (other_rows d (tree_of items) rows)
  other_text [] h t u x p q = absurd (omega (arith, h))
  other_text (st ∷ rest) h t u x p q =
      let e : List Row = (None, indented d (codes "else")) ∷ [] in
      rw (q, p) (append_assoc t (text_of e) (text_of rows)
      ∙ ap (λ l. t ++ l) (sym (ap text_of (printed_other st rest) ∙ text_append e rows)))

  pub no_other : (items : List Statement) → length items ≡ 0 → (t : List ℕ) → t ≡ t ++ text_of (other_rows d (tree_of items) rows)
  no_other [] h t = sym (append-nil t)
  no_other (st ∷ rest) h t = absurd (omega (arith, h))

-- SECTIONS

-- a section's lines, one piece after the other
pub section_text : (section : Section) (body : Statements) (t u v w x y : List ℕ) → u ≡ t ++ margin None → v ≡ u ++ section_word section → w ≡ v ++ 10 ∷ []
    → x ≡ w ++ text_of (statement_rows 1 1 body) → y ≡ x ++ text_of ((None, indented 0 (codes "end")) ∷ [])
    → y ≡ t ++ text_of (section_rows ((section, body) ∷ []))
section_text section body t u v w x y p q r s z =
    let inner = statement_rows 1 1 body in
    let e : List Row = (None, codes "end") ∷ [] in
    five t (margin None) (section_word section) (text_of inner) (text_of e) u v w x y p q r s z
    ∙ ap (λ l. t ++ (margin None ++ section_word section ++ 10 ∷ l)) (sym (text_append inner e))
  where
    five : (t a b c d u v w x y : List ℕ) → u ≡ t ++ a → v ≡ u ++ b → w ≡ v ++ 10 ∷ [] → x ≡ w ++ c → y ≡ x ++ d → y ≡ t ++ (a ++ b ++ 10 ∷ (c ++ d))
    five t a b c d u v w x y p q r s z = rw (z, s, r, q, p) (simp append_assoc)

sections_first : (p : Section × Statements) (rest : List (Section × Statements))
    → text_of (section_rows (p ∷ rest)) ≡ text_of (section_rows (p ∷ [])) ++ text_of (section_rows rest)
sections_first p rest =
    let e : List Row = (None, codes "end") ∷ [] in
    let head : Row = (None, section_word p.0) in
    ap text_of (ap (λ t. head ∷ t) (sym (append_assoc (statement_rows 1 1 p.1) e (section_rows rest))))
    ∙ text_append (section_rows (p ∷ [])) (section_rows rest)

-- the text of what is left is that of the section that stands there and that of what follows
pub sections_here : (all : List (Section × Statements)) (i : ℕ) (p : Section × Statements) → i < length all → p ≡ get_or all i p
    → text_of (section_rows (drop i all)) ≡ text_of (section_rows (p ∷ [])) ++ text_of (section_rows (drop (i + 1) all))
sections_here all i p within is = ap (λ l. text_of (section_rows l)) (next_is all i p within is) ∙ sections_first p (drop (i + 1) all)

-- LOCALS

local_line : (i n : ℕ) (b : Bool) (t u v : List ℕ) → b ≡ false → u ≡ t ++ margin None
    → v ≡ u ++ joined (cond b [] ((codes "local " ++ decimal i ++ codes " " ++ decimal n) ∷ []))
    → v ≡ t ++ text_of (cond b [] ((None, codes "local " ++ decimal i ++ codes " " ++ decimal n) ∷ []))
local_line i n true t u v e p q = absurd (true≢false e)
local_line i n false t u v e p q =
    let words = codes "local " ++ decimal i ++ codes " " ++ decimal n in
    q ∙ ap (λ l. l ++ (words ++ 10 ∷ [])) p ∙ append_assoc t (margin None) (words ++ 10 ∷ [])
    ∙ ap (λ l. t ++ l) (sym (append_assoc (margin None) words (10 ∷ [])))

-- the line of a local that is reported, behind its margin
pub local_text : (i n : ℕ) (t u v : List ℕ) → eqb n greatest_number ≡ false → u ≡ t ++ margin None → v ≡ u ++ joined (locals_lines i (n ∷ []))
    → v ≡ t ++ text_of (local_rows i (n ∷ []))
local_text i n t u v e p q =
    let words = codes "local " ++ decimal i ++ codes " " ++ decimal n in
    let reported : List (List ℕ) = cond (eqb n greatest_number) [] (words ∷ []) in
    let rows : List Row = cond (eqb n greatest_number) [] ((None, words) ∷ []) in
    local_line i n (eqb n greatest_number) t u v e p (q ∙ ap (λ l. u ++ joined l) (append-nil reported)) ∙ ap (λ r. t ++ text_of r) (sym (append-nil rows))

-- the first local before the others
pub locals_first : (i n : ℕ) (rest : List ℕ) → text_of (local_rows i (n ∷ rest)) ≡ text_of (local_rows i (n ∷ [])) ++ text_of (local_rows (suc i) rest)
locals_first i n rest =
    let rows : List Row = cond (eqb n greatest_number) [] ((None, codes "local " ++ decimal i ++ codes " " ++ decimal n) ∷ []) in
    text_append rows (local_rows (suc i) rest) ∙ ap (λ r. text_of r ++ text_of (local_rows (suc i) rest)) (sym (append-nil rows))

-- the text of what is left is that of the local that stands there and that of what follows
pub locals_here : (all : List ℕ) (i : ℕ) → i < length all
    → text_of (local_rows i (drop i all)) ≡ text_of (local_rows i (slice_index all i ∷ [])) ++ text_of (local_rows (i + 1) (drop (i + 1) all))
locals_here all i within =
    let one : suc i ≡ i + 1 = omega arith in
    ap (λ l. text_of (local_rows i l)) (drop-cons all i 0 within) ∙ locals_first i (slice_index all i) (drop (suc i) all)
    ∙ ap (λ n. text_of (local_rows i (slice_index all i ∷ [])) ++ text_of (local_rows n (drop n all))) one

-- locals and sections, one after the other
pub numbered_text : (p : Program) (none t u : List ℕ) → none ≡ [] → t ≡ none ++ text_of (local_rows 0 p.locals)
    → u ≡ t ++ text_of (section_rows p.sections) → u ≡ numbered_listing p
numbered_text p none t u n e h =
    h
    ∙ (ap (λ l. l ++ text_of (section_rows p.sections)) (e ∙ ap (λ l. l ++ text_of (local_rows 0 p.locals)) n)
    ∙ sym (text_append (local_rows 0 p.locals) (section_rows p.sections)))

-- WITHOUT MARGINS, AND THE NUMBERS ALONE

abbrev lines_of : List Row → List (List ℕ)
lines_of rows = map (λ (row : Row). row.1) rows

lines_append : (a b : List Row) → lines_of (a ++ b) ≡ lines_of a ++ lines_of b
lines_append [] b = refl
lines_append (r ∷ a) b = ap (λ l. r.1 ∷ l) (lines_append a b)

other_lines_are : (d : ℕ) (other : Statements) (rows : List Row) (lines : List (List ℕ)) → lines_of rows ≡ lines
    → lines_of (other_rows d other rows) ≡ other_lines d other lines
other_lines_are d Done rows lines e = refl
other_lines_are d (Do i rest) rows lines e = ap (λ l. indented d (codes "else") ∷ l) e
other_lines_are d (program.If arm other rest) rows lines e = ap (λ l. indented d (codes "else") ∷ l) e
other_lines_are d (program.Loop count body rest) rows lines e = ap (λ l. indented d (codes "else") ∷ l) e

statement_lines_are : (d n : ℕ) (s : Statements) → lines_of (statement_rows d n s) ≡ statements_lines d s
statement_lines_are d n Done = refl
statement_lines_are d n (Do i rest) = ap (λ l. indented d (instruction_text i) ∷ l) (statement_lines_are d (suc n) rest)
statement_lines_are d n (program.If arm other rest) =
    let a = statement_rows (suc d) (suc n) arm in
    let o = other_rows d other (statement_rows (suc d) (suc n + size arm) other) in
    let r : List Row = (None, indented d (codes "end")) ∷ statement_rows d (suc n + size arm + size other) rest in
    ap (λ l. indented d (codes "if") ∷ l) (lines_append (a ++ o) r
    ∙ ap (λ l. l ++ lines_of r) (lines_append a o ∙ ap (λ l. l ++ lines_of o) (statement_lines_are (suc d) (suc n) arm)
    ∙ ap (λ l. statements_lines (suc d) arm ++ l) (other_lines_are d other (statement_rows (suc d) (suc n + size arm) other) (statements_lines (suc d) other)
    (statement_lines_are (suc d) (suc n + size arm) other)))
    ∙ ap (λ l. statements_lines (suc d) arm ++ other_lines d other (statements_lines (suc d) other) ++ indented d (codes "end") ∷ l)
    (statement_lines_are d (suc n + size arm + size other) rest))
statement_lines_are d n (program.Loop count body rest) =
    let b = statement_rows (suc d) (suc n) body in
    let r : List Row = (None, indented d (codes "end")) ∷ statement_rows d (suc n + size body) rest in
    ap (λ l. indented d (loop_text count) ∷ l) (lines_append b r ∙ ap (λ l. l ++ lines_of r) (statement_lines_are (suc d) (suc n) body)
    ∙ ap (λ l. statements_lines (suc d) body ++ indented d (codes "end") ∷ l) (statement_lines_are d (suc n + size body) rest))

section_lines_are : (ps : List (Section × Statements)) → lines_of (section_rows ps) ≡ sections_lines ps
section_lines_are [] = refl
section_lines_are (p ∷ rest) =
    let s = statement_rows 1 1 p.1 in
    let r : List Row = (None, codes "end") ∷ section_rows rest in
    ap (λ l. section_word p.0 ∷ l) (lines_append s r ∙ ap (λ l. l ++ lines_of r) (statement_lines_are 1 1 p.1)
    ∙ ap (λ l. statements_lines 1 p.1 ++ codes "end" ∷ l) (section_lines_are rest))

local_lines_are : (i : ℕ) (ns : List ℕ) → lines_of (local_rows i ns) ≡ locals_lines i ns
local_lines_are i [] = refl
local_lines_are i (n ∷ rest) = by (eqb n greatest_number) (local_rows (suc i) rest) (locals_lines (suc i) rest) (local_lines_are (suc i) rest)
  where
    words : List ℕ
    words = codes "local " ++ decimal i ++ codes " " ++ decimal n

    by : (b : Bool) (rows : List Row) (lines : List (List ℕ)) → lines_of rows ≡ lines
        → lines_of (cond b [] ((None, words) ∷ []) ++ rows) ≡ cond b [] (words ∷ []) ++ lines
    by true rows lines e = e
    by false rows lines e = ap (λ l. words ∷ l) e

numbers_append : (a b : List Row) → numbers_of (a ++ b) ≡ numbers_of a ++ numbers_of b
numbers_append [] b = refl
numbers_append (r ∷ a) b = ap (λ l. number_in r.0 ++ l) (numbers_append a b) ∙ sym (append_assoc (number_in r.0) (numbers_of a) (numbers_of b))

counted_append : (n k m : ℕ) → counted_from n k ++ counted_from (n + k) m ≡ counted_from n (k + m)
counted_append n zero m = let same : n + 0 ≡ n = omega arith in let none : 0 + m ≡ m = omega arith in
    ap (λ i. counted_from i m) same ∙ ap (counted_from n) (sym none)
counted_append n (suc k) m =
    let same : n + suc k ≡ suc n + k = omega arith in
    let all : suc k + m ≡ suc (k + m) = omega arith in
    ap (λ i. n ∷ (counted_from (suc n) k ++ counted_from i m)) same ∙ ap (λ l. n ∷ l) (counted_append (suc n) k m) ∙ ap (counted_from n) (sym all)

other_numbers_are : (d n : ℕ) (other : Statements) (rows : List Row) → numbers_of rows ≡ counted_from n (size other)
    → numbers_of (other_rows d other rows) ≡ counted_from n (size other)
other_numbers_are d n Done rows e = refl
other_numbers_are d n (Do i rest) rows e = e
other_numbers_are d n (program.If arm other rest) rows e = e
other_numbers_are d n (program.Loop count body rest) rows e = e

numbers_are : (d n : ℕ) (s : Statements) → numbers_of (statement_rows d n s) ≡ counted_from n (size s)
numbers_are d n Done = refl
numbers_are d n (Do i rest) =
    let all : size (Do i rest) ≡ suc (size rest) = omega arith in
    ap (λ l. n ∷ l) (numbers_are d (suc n) rest) ∙ ap (counted_from n) (sym all)
numbers_are d n (program.If arm other rest) =
    let a = statement_rows (suc d) (suc n) arm in
    let o = other_rows d other (statement_rows (suc d) (suc n + size arm) other) in
    let r : List Row = (None, indented d (codes "end")) ∷ statement_rows d (suc n + size arm + size other) rest in
    let all : size (program.If arm other rest) ≡ suc (size arm + size other + size rest) = omega arith in
    let between : suc n + (size arm + size other) ≡ suc n + size arm + size other = omega arith in
    ap (λ l. n ∷ l) (numbers_append (a ++ o) r
    ∙ ap (λ l. l ++ numbers_of r) (numbers_append a o ∙ ap (λ l. l ++ numbers_of o) (numbers_are (suc d) (suc n) arm)
    ∙ ap (λ l. counted_from (suc n) (size arm) ++ l) (other_numbers_are d (suc n + size arm) other (statement_rows (suc d) (suc n + size arm) other)
    (numbers_are (suc d) (suc n + size arm) other))
    ∙ counted_append (suc n) (size arm) (size other))
    ∙ ap (λ l. counted_from (suc n) (size arm + size other) ++ l) (numbers_are d (suc n + size arm + size other) rest)
    ∙ ap (λ i. counted_from (suc n) (size arm + size other) ++ counted_from i (size rest)) (sym between)
    ∙ counted_append (suc n) (size arm + size other) (size rest))
    ∙ ap (counted_from n) (sym all)
numbers_are d n (program.Loop count body rest) =
    let b = statement_rows (suc d) (suc n) body in
    let r : List Row = (None, indented d (codes "end")) ∷ statement_rows d (suc n + size body) rest in
    let all : size (program.Loop count body rest) ≡ suc (size body + size rest) = omega arith in
    ap (λ l. n ∷ l) (numbers_append b r ∙ ap (λ l. l ++ numbers_of r) (numbers_are (suc d) (suc n) body)
    ∙ ap (λ l. counted_from (suc n) (size body) ++ l) (numbers_are d (suc n + size body) rest)
    ∙ counted_append (suc n) (size body) (size rest))
    ∙ ap (counted_from n) (sym all)

pub numbers_listing : (p : Program) → NumbersListing p
numbers_listing p = record {
  lines = lines_append (local_rows 0 p.locals) (section_rows p.sections)
      ∙ ap (λ l. l ++ lines_of (section_rows p.sections)) (local_lines_are 0 p.locals)
      ∙ ap (λ l. locals_lines 0 p.locals ++ l) (section_lines_are p.sections);
  numbers = λ body. numbers_are 1 1 body;
}
