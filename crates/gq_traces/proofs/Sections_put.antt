-- The sections of a program, put one after the other.
use Rattle.std.proofs.Common.{◌≡◌, ◌∙◌, ℕ, zero, suc, ◌+◌, ◌-◌, ◌<◌, ◌≤◌, true, false, ◌&&◌, List, [], ◌∷◌, ◌++◌, length, get_or, drop, Option, Some, None}
use Rattle.std.proofs.Common.{IsTrue, refl, ap, sym, subst, arith}
use Rattle.std.specs.Prelude.{sum_by, nat_le, nat_lt, ◌==◌}
use Rattle.std.proofs.lemmas.Bool.{and_parts, leb-true}
use Rattle.std.proofs.lemmas.Bool.Decides.{nat_tests}
use Rattle.std.proofs.lemmas.List.Sums.{sum_by-cons}
use Rattle.gq_model.specs.declared.section.Section.{Section}
use Rattle.gq_model.specs.machine.Lists.{all_of, between}
use Rattle.gq_model.specs.machine.Program.{Program, Statements, Done, Do, If, Loop, section_in, body_of, size}
use Rattle.gq_model.specs.machine.Sections.{same_section, is_section, section_number}
use Rattle.gq_model.specs.texts.Code.{IsProgram, are_sections, greatest_statements, is_body}
use Rattle.gq_model.specs.texts.Operands.{greatest_number, in_range, operands}
use Rattle.gq_traces.specs.Step_positions.{Ends, NumberedStatements, numbered}
use Rattle.gq_traces.specs.declared.numbered_program.NumberedProgram.{NumberedProgram as Entries}
use Rattle.gq_traces.specs.declared.numbered_program.NumberedSection.{NumberedSection}
use Rattle.gq_traces.specs.internal.Flat.{AreParts, ArePartsIn, ArePrograms, IsPart, IsProgramOf, IsRead, IsWithin, Keeps, Puts, PutsSection}

-- DEPTH

-- statements whose blocks are n deep at most have at most n loops in one another
pub within : (m n k : ℕ) (s : Statements) (after : NumberedStatements) → m ≤ n → IsTrue (is_body m s) → IsWithin n after → IsWithin n (numbered k s after)
within m n k Done after less h a = a
within m n k (Do i rest) after less h a =
    let p = and_parts (all_of in_range (operands i)) (is_body m rest) h in within m n (suc k) rest after less p.1 a
within m n k (If arm other rest) after less h a =
    let p = and_parts (nat_lt 0 m && is_body (m - 1) arm && is_body (m - 1) other) (is_body m rest) h in
    let q = and_parts (nat_lt 0 m && is_body (m - 1) arm) (is_body (m - 1) other) p.0 in
    let r = and_parts (nat_lt 0 m) (is_body (m - 1) arm) q.0 in
    let lower : m - 1 ≤ n = omega (arith, less) in
    let next = within m n (suc k + size arm + size other) rest after less p.1 a in
    (within (m - 1) n (suc k) arm _ lower r.1 next, within (m - 1) n (suc k + size arm) other _ lower q.1 next)
within m n k (Loop count body rest) after less h a =
    let p = and_parts (nat_lt 0 m && between 1 65535 count && is_body (m - 1) body) (is_body m rest) h in
    let q = and_parts (nat_lt 0 m && between 1 65535 count) (is_body (m - 1) body) p.0 in
    let r = and_parts (nat_lt 0 m) (between 1 65535 count) q.0 in
    let some = positive m r.0 in (
      omega (arith, some, less),
      within (m - 1) (n - 1) (suc k) body Ends (omega (arith, less)) q.1 tt,
      within m n (suc k + size body) rest after less p.1 a,
    )
  where
    positive : (m : ℕ) → nat_lt 0 m ≡ true → 0 < m
    positive m h = grind (arith, nat_tests, h)

-- EACH SECTION

-- it has few statements, and its blocks are not too deep
pub record Fits (body : Statements) : Type 0 where
  pub few : size body ≤ 4096
  pub deep : IsTrue (is_body 4 body)

abbrev pub AllFit : List (Section × Statements) → Type 0
AllFit [] = Unit {0}
AllFit (s ∷ sections) = Fits s.1 × AllFit sections

all_fit : (n : ℕ) (sections : List (Section × Statements)) → IsTrue (are_sections n sections) → sum_by (λ s. size s.1) sections ≤ 4096 → AllFit sections
all_fit n [] h few = tt
all_fit n (s ∷ sections) h few =
    let a = is_section s.0 && nat_le n (section_number s.0) in
    let p = and_parts (a && is_body 4 s.1) (are_sections (1 + section_number s.0) sections) h in
    let q = and_parts a (is_body 4 s.1) p.0 in
    let sum = sum_by-cons (λ (t : Section × Statements). size t.1) s sections in
    (record { few = omega (arith, sum, few); deep = q.1 }, all_fit (1 + section_number s.0) sections p.1 (omega (arith, sum, few)))

pub program_fits : (p : Program) → IsProgram p → AllFit p.sections
program_fits p h =
    let a = length p.locals == 8 && all_of (between 0 greatest_number) p.locals in
    let few = nat_le (sum_by (λ s. size s.1) p.sections) greatest_statements in
    let q = and_parts (a && are_sections 0 p.sections) few h in
    let r = and_parts a (are_sections 0 p.sections) q.0 in
    all_fit 0 p.sections r.1 (leb-true (sum_by (λ s. size s.1) p.sections) greatest_statements q.1)

pub fits_at : (sections : List (Section × Statements)) (i : ℕ) (s : Section × Statements) → AllFit sections → i < length sections → s ≡ get_or sections i s
    → Fits s.1
fits_at [] i s all less e = absurd (omega (arith, less))
fits_at (t ∷ sections) zero s all less e = subst (λ (z : Section × Statements). Fits z.1) (sym e) all.0
fits_at (t ∷ sections) (suc i) s all less e = fits_at sections i s all.1 (omega (arith, less)) e

-- PARTS

part_stays : (old new : Entries) → Keeps old.entries.items new.entries.items → (body : Statements) (p : NumberedSection) → IsPart old body p → IsPart new body p
part_stays old new keeps body p h = record { reads = keeps p.first _ h.reads; size = h.size; deep = h.deep }

more_parts : (old new : Entries) → Keeps old.entries.items new.entries.items → (ps : List NumberedSection) (ss : List (Section × Statements))
    (p : NumberedSection)
    (s : Section × Statements) → ArePartsIn old ps ss → p.section ≡ s.0 → IsPart new s.1 p → ArePartsIn new (ps ++ p ∷ []) (ss ++ s ∷ [])
more_parts old new keeps [] [] p s h is part = (is, part, tt)
more_parts old new keeps [] (t ∷ ss) p s h is part = absurd h
more_parts old new keeps (q ∷ ps) [] p s h is part = absurd h
more_parts old new keeps (q ∷ ps) (t ∷ ss) p s h is part =
    (h.0, part_stays old new keeps t.1 q h.1, more_parts old new keeps ps ss p s h.2 is part)

pub section_put : (old begun one new : Entries) (section : Section) (body : Statements) (first : Option ℕ) (count : ℕ)
    → begun.entries ≡ old.entries → begun.parts ≡ old.parts → begun.left ≡ count → count ≡ size body → Puts begun one body None first
    → new.entries ≡ one.entries → new.parts.items ≡ one.parts.items ++ record { section = section; first = first; size = count } ∷ []
    → IsTrue (is_body 4 body) → PutsSection old new section body
section_put old begun one new section body first count entries parts left is q same put deep sections h =
    let number = q.number in
    let none : suc one.left ≡ 1 = omega (arith, number, left, is) in
    let read = subst (λ k. IsRead one.entries.items first (numbered k body Ends)) none (q.reads Ends refl) in
    let keeps : Keeps old.entries.items new.entries.items = λ n t g.
    subst (λ (e : _). IsRead e.items n t) (sym same) (q.keeps n t (subst (λ (e : _). IsRead e.items n t) (sym entries) g)) in
    let last : NumberedSection = record { section = section; first = first; size = count } in
    let part : IsPart new body last = record {
      reads = subst (λ (e : _). IsRead e.items first (numbered 1 body Ends)) (sym same) read;
      size = is;
      deep = within 4 4 1 body Ends (omega arith) deep tt;
    } in
    let ps = ap (λ (v : _). v.items) (q.parts ∙ parts) in
    subst (λ ps. ArePartsIn new ps (sections ++ (section, body) ∷ [])) (sym (put ∙ ap (λ l. l ++ last ∷ []) ps))
    (more_parts old new keeps old.parts.items sections last (section, body) h refl part)

-- A SECTION IS FOUND

-- what is left to look at has the section, if there is one
abbrev pub IsLeft : Entries → Section → ℕ → Type 0
IsLeft es section k =
    (sections : List (Section × Statements)) → AreParts es sections
    → (rest : List (Section × Statements)) × ArePartsIn es (drop k es.parts.items) rest × (section_in section sections ≡ section_in section rest)

pub left_first : (es : Entries) (section : Section) → IsLeft es section 0
left_first es section sections h = (sections, h, refl)

other_section : (section : Section) (s : Section × Statements) (rest : List (Section × Statements)) → same_section section s.0 ≡ false
    → section_in section (s ∷ rest) ≡ section_in section rest
other_section section s rest e = rw e refl

this_section : (section : Section) (s : Section × Statements) (rest : List (Section × Statements)) → same_section section s.0 ≡ true
    → section_in section (s ∷ rest) ≡ Some s.1
this_section section s rest e = rw e refl

by_part : (es : Entries) (section : Section) (p : NumberedSection) (ps : List NumberedSection) (rest : List (Section × Statements)) → ArePartsIn es (p ∷ ps)
    rest
    → (s : Section × Statements) × (more : List (Section × Statements)) × (rest ≡ s ∷ more) × (p.section ≡ s.0) × IsPart es s.1 p × ArePartsIn es ps more
by_part es section p ps [] h = absurd h
by_part es section p ps (s ∷ more) h = (s, more, refl, h.0, h.1, h.2)

pub left_next : (es : Entries) (section : Section) (k : ℕ) (p : NumberedSection) → drop k es.parts.items ≡ p ∷ drop (k + 1) es.parts.items
    → same_section section p.section ≡ false → IsLeft es section k → IsLeft es section (k + 1)
left_next es section k p at other h sections all =
    let l = h sections all in
    let b = by_part es section p (drop (k + 1) es.parts.items) l.0 (subst (λ ps. ArePartsIn es ps l.0) at l.1) in
    (b.1, b.5, l.2 ∙ ap (section_in section) b.2 ∙ other_section section b.0 b.1 (ap (same_section section) (sym b.3) ∙ other))

pub found_part : (es : Entries) (section : Section) (k : ℕ) (p : NumberedSection) → drop k es.parts.items ≡ p ∷ drop (k + 1) es.parts.items
    → same_section section p.section ≡ true → IsLeft es section k → (sections : List (Section × Statements)) → AreParts es sections
    → IsPart es (body_of (section_in section sections)) p
found_part es section k p at this h sections all =
    let l = h sections all in
    let b = by_part es section p (drop (k + 1) es.parts.items) l.0 (subst (λ ps. ArePartsIn es ps l.0) at l.1) in
    subst (λ o. IsPart es (body_of o) p)
    (sym (l.2 ∙ ap (section_in section) b.2 ∙ this_section section b.0 b.1 (ap (same_section section) (sym b.3) ∙ this))) b.4

no_part : (es : Entries) (rest : List (Section × Statements)) → ArePartsIn es [] rest → rest ≡ []
no_part es [] h = refl
no_part es (s ∷ rest) h = absurd h

pub none_found : (es : Entries) (section : Section) (k : ℕ) → drop k es.parts.items ≡ [] → IsLeft es section k → (sections : List (Section × Statements))
    → AreParts es sections → IsPart es (body_of (section_in section sections)) (record { section = section; first = None; size = 0 })
none_found es section k at h sections all =
    let l = h sections all in
    let none = no_part es l.0 (subst (λ ps. ArePartsIn es ps l.0) at l.1) in
    subst (λ o. IsPart es (body_of o) (record { section = section; first = None; size = 0 })) (sym (l.2 ∙ ap (section_in section) none))
    (record { reads = refl; size = refl; deep = tt })

-- PROGRAMS

pub more_programs : (all : List Entries) (ps : List Program) (es : Entries) (p : Program) → ArePrograms all ps → IsProgramOf es p
    → ArePrograms (all ++ es ∷ []) (ps ++ p ∷ [])
more_programs [] [] es p h is = (is, tt)
more_programs [] (q ∷ ps) es p h is = absurd h
more_programs (e ∷ all) [] es p h is = absurd h
more_programs (e ∷ all) (q ∷ ps) es p h is = (h.0, more_programs all ps es p h.1 is)
