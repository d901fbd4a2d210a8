-- What a program's sections are.
use Rattle.std.proofs.Common.{◌≡◌, ◌≤◌, ℕ, arith, ◌+◌, ◌-◌, Bool, true, false, ◌&&◌, List, [], ◌∷◌, refl, ap, sym, subst, IsTrue, Option, Some, None, Bor}
use Rattle.std.specs.Prelude.{nat_lt, nat_le, if◌then◌else◌, ◌==◌, length, sum_by, option_copied, IfSome}
use Rattle.std.proofs.lemmas.List.Sums.{sum_by-cons}
use Rattle.std.proofs.lemmas.Bool.Decides.{nat_tests}
use Rattle.gq_model.specs.machine.Lists.{all_of, between}
use Rattle.gq_model.specs.machine.Program.{Statements, Done, Do, If, Loop, size, Program, section_in}
use Rattle.gq_model.specs.machine.Sections.{same_section, is_section, section_number}
use Rattle.gq_model.specs.declared.section.Section.{Section}
use Rattle.gq_program.specs.declared.program_tree.Body.{Body}
use Rattle.gq_model.specs.texts.Operands.{operands, in_range, greatest_number}
use Rattle.gq_model.specs.texts.Code.{is_body, are_sections, is_program, greatest_statements}
use Rattle.gq_rules.specs.Flowing.{few_loops}

-- both of two tests
pub parts : (a b : Bool) → IsTrue (a && b) → IsTrue a × IsTrue b
parts true b h = (refl, h)
parts false b h = cc

pub both : (a b : Bool) → IsTrue a → IsTrue b → IsTrue (a && b)
both true b h k = k
both false b h k = cc

some_left : (n m : ℕ) → n ≤ m → IsTrue (nat_lt 0 n) → IsTrue (nat_lt 0 m)
some_left n m le h = grind (arith, nat_tests)

-- no more loops than blocks stand in one another
few_blocks : (n m : ℕ) (b : Statements) → n ≤ m → IsTrue (is_body n b) → IsTrue (few_loops m b)
few_blocks n m Done le h = refl
few_blocks n m (Do i rest) le h = few_blocks n m rest le (parts (all_of in_range (operands i)) (is_body n rest) h).1
few_blocks n m (If arm other rest) le h =
    let p = parts (nat_lt 0 n && is_body (n - 1) arm && is_body (n - 1) other) (is_body n rest) h in
    let q = parts (nat_lt 0 n && is_body (n - 1) arm) (is_body (n - 1) other) p.0 in
    let a = parts (nat_lt 0 n) (is_body (n - 1) arm) q.0 in
    let le1 : n - 1 ≤ m = omega (arith, le) in
    both (few_loops m arm && few_loops m other) (few_loops m rest)
    (both (few_loops m arm) (few_loops m other) (few_blocks (n - 1) m arm le1 a.1) (few_blocks (n - 1) m other le1 q.1)) (few_blocks n m rest le p.1)
few_blocks n m (Loop count body rest) le h =
    let p = parts (nat_lt 0 n && between 1 65535 count && is_body (n - 1) body) (is_body n rest) h in
    let q = parts (nat_lt 0 n && between 1 65535 count) (is_body (n - 1) body) p.0 in
    let a = parts (nat_lt 0 n) (between 1 65535 count) q.0 in
    let le1 : n - 1 ≤ m - 1 = omega (arith, le) in
    let lt : IsTrue (nat_lt 0 m) = some_left n m le a.0 in
    both (nat_lt 0 m && few_loops (m - 1) body) (few_loops m rest) (both (nat_lt 0 m) (few_loops (m - 1) body) lt (few_blocks (n - 1) (m - 1) body le1 q.1))
    (few_blocks n m rest le p.1)

at_most : (n m : ℕ) → IsTrue (nat_le n m) → n ≤ m
at_most n m h = grind (arith, nat_tests)

found_by : (p : Section × Statements) (rest : List (Section × Statements)) (b : Statements) (t : Bool) (r : Option Statements) → IsTrue (is_body 4 p.1) →
    (r ≡ Some b → IsTrue (few_loops 4 b) × (size b ≤ sum_by (λ p. size p.1) rest)) → (if t then Some p.1 else r) ≡ Some b →
    IsTrue (few_loops 4 b) × (size b ≤ sum_by (λ p. size p.1) (p ∷ rest))
found_by p rest b true r h go e =
    let same : p.1 ≡ b = cc in
    let sum = sum_by-cons (λ (p : Section × Statements). size p.1) p rest in
    let here : size b ≤ size p.1 = omega (arith, ap size same) in
    (subst (λ b. IsTrue (few_loops 4 b)) same (few_blocks 4 4 p.1 (omega arith) h), omega (arith, here, sum))
found_by p rest b false r h go e =
    let g = go e in
    let sum = sum_by-cons (λ (p : Section × Statements). size p.1) p rest in (g.0, omega (arith, g.1, sum))

-- what is found among sections is one of them
found : (s : Section) (ps : List (Section × Statements)) (b : Statements) (n : ℕ) → IsTrue (are_sections n ps) → section_in s ps ≡ Some b →
    IsTrue (few_loops 4 b) × (size b ≤ sum_by (λ p. size p.1) ps)
found s [] b n h e = cc
found s (p ∷ rest) b n h e =
    let q = parts (is_section p.0 && nat_le n (section_number p.0) && is_body 4 p.1) (are_sections (1 + section_number p.0) rest) h in
    let a = parts (is_section p.0 && nat_le n (section_number p.0)) (is_body 4 p.1) q.0 in
    let go = found s rest b (1 + section_number p.0) q.1 in
    found_by p rest b (same_section s p.0) (section_in s rest) a.1 go e

-- the statements of a section of a program are few, and so are its loops in one another
pub body_laws : (p : Program) (s : Section) (b : Statements) → IsTrue (is_program p) → section_in s p.sections ≡ Some b →
    IsTrue (few_loops 4 b) × (size b ≤ 4096)
body_laws p s b h e =
    let q =
    parts (length p.locals == 8 && all_of (between 0 greatest_number) p.locals && are_sections 0 p.sections)
    (nat_le (sum_by (λ s. size s.1) p.sections) greatest_statements) h in
    let a = parts (length p.locals == 8 && all_of (between 0 greatest_number) p.locals) (are_sections 0 p.sections) q.0 in
    let f = found s p.sections b 0 a.1 e in
    let few = at_most (sum_by (λ s. size s.1) p.sections) greatest_statements q.1 in
    (f.0, omega (arith, f.1, few))

pub body_loops : (r : Option (Bor Body)) (p : Program) (s : Section) → IsTrue (is_program p) → option_copied r ≡ section_in s p.sections →
    IfSome r (λ b. IsTrue (few_loops 4 b.now))
body_loops None p s h e = tt
body_loops (Some b) p s h e = (body_laws p s b.now h (sym e)).0

pub body_few : (r : Option (Bor Body)) (p : Program) (s : Section) → IsTrue (is_program p) → option_copied r ≡ section_in s p.sections →
    IfSome r (λ b. size b.now ≤ 4096)
body_few None p s h e = tt
body_few (Some b) p s h e = (body_laws p s b.now h (sym e)).1

each_from : (n : ℕ) (ps : List (Section × Statements)) → IsTrue (are_sections n ps) → IsTrue (all_of (λ p. is_section p.0) ps)
each_from n [] h = refl
each_from n (p ∷ rest) h =
    let q = parts (is_section p.0 && nat_le n (section_number p.0) && is_body 4 p.1) (are_sections (1 + section_number p.0) rest) h in
    let a = parts (is_section p.0 && nat_le n (section_number p.0)) (is_body 4 p.1) q.0 in
    let b = parts (is_section p.0) (nat_le n (section_number p.0)) a.0 in
    both (is_section p.0) (all_of (λ p. is_section p.0) rest) b.0 (each_from (1 + section_number p.0) rest q.1)

-- each section of a program is one that there may be
pub each_section : (p : Program) → IsTrue (is_program p) → IsTrue (all_of (λ p. is_section p.0) p.sections)
each_section p h =
    let q =
    parts (length p.locals == 8 && all_of (between 0 greatest_number) p.locals && are_sections 0 p.sections)
    (nat_le (sum_by (λ s. size s.1) p.sections) greatest_statements) h in
    let a = parts (length p.locals == 8 && all_of (between 0 greatest_number) p.locals) (are_sections 0 p.sections) q.0 in each_from 0 p.sections a.1

is_most : (n m : ℕ) → n ≤ m → IsTrue (nat_le n m)
is_most n m h = grind (arith, nat_tests)

few_from : (n : ℕ) (ps : List (Section × Statements)) → sum_by (λ p. size p.1) ps ≤ n → IsTrue (all_of (λ p. nat_le (size p.1) n) ps)
few_from n [] h = refl
few_from n (p ∷ rest) h =
    let sum = sum_by-cons (λ (p : Section × Statements). size p.1) p rest in
    both (nat_le (size p.1) n) (all_of (λ p. nat_le (size p.1) n) rest) (is_most (size p.1) n (omega (arith, sum, h))) (few_from n rest (omega (arith, sum, h)))

-- and has few statements
pub few_statements : (p : Program) → IsTrue (is_program p) → IsTrue (all_of (λ p. nat_le (size p.1) 4096) p.sections)
few_statements p h =
    let q =
    parts (length p.locals == 8 && all_of (between 0 greatest_number) p.locals && are_sections 0 p.sections)
    (nat_le (sum_by (λ s. size s.1) p.sections) greatest_statements) h in
    few_from 4096 p.sections (at_most (sum_by (λ s. size s.1) p.sections) greatest_statements q.1)
