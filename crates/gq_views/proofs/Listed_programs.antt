-- The listing of a program is assembled as that program.
use Rattle.std.proofs.Common.{◌≡◌, ◌∙◌, ℕ, zero, suc, ◌+◌, ◌<◌, ◌≤◌, ◌^◌, Bool, true, false, List, [], ◌∷◌, ◌++◌, length, Option, Some, None, Ok}
use Rattle.std.proofs.Common.{refl, ap, ap₂, sym, arith, append_assoc, inl, inr}
use Rattle.std.specs.Prelude.{◌&&◌, nat_le, ◌==◌, if◌then◌else◌, decimal, codes, sum_by}
use Rattle.std.proofs.lemmas.Bool.{and_from, and_parts, cases_Bool, leb-true, le-leb, eqb-true}
use Rattle.std.proofs.lemmas.Bool.Decides.{nat_tests}
use Rattle.std.proofs.lemmas.List.Sums.{sum_by-cons}
use Rattle.gq_model.specs.declared.fault.TextFault.TheVariants as fault
use Rattle.gq_model.specs.declared.section.Section.{Section}
use Rattle.gq_model.specs.declared.section.Section.TheVariants.{Main, Opening, Upgrading, Calling, Closing, Reacting}
use Rattle.gq_model.specs.machine.Lists.{all_of, between}
use Rattle.gq_model.specs.machine.Program.{Program, Statements, Done, ◌then◌, size, section_in}
use Rattle.gq_model.specs.texts.Letters.{number_in, words}
use Rattle.gq_model.specs.texts.Operands.{greatest_number}
use Rattle.gq_model.specs.texts.Code.{IsProgram, are_sections, greatest_statements}
use Rattle.gq_model.specs.machine.Sections.{is_section, section_number, section_word}
use Rattle.gq_model.specs.texts.Spelling.{found}
use Rattle.gq_model.specs.texts.Text.{Reading, Read, Section_block, assembled, at_end, heading, limit_of, limit_or_greatest}
use Rattle.gq_model.specs.texts.Text.{limits_from, line_read, lines_read, numbered, once}
use Rattle.gq_views.specs.Listing.{listing, listing_lines, locals_lines, sections_lines, statements_lines}
use Rattle.gq_views.proofs.Listed_numbers.{number_of_32}
use Rattle.gq_views.proofs.Listed_lines.{AllPrinted, is_solid, lines_joined, word_alone, word_first}
use Rattle.gq_views.proofs.Listed_operands.{number_word}
use Rattle.gq_views.proofs.Statement_lines_read_back.{LeadsAt, at, leads_both, leads_none, leads_one, leads_to, opened, statements_lead}
use Rattle.gq_model.proofs.Section_laws.{differ, first_of}
use Rattle.gq_views.proofs.Listed_sections.{Sections, onto, sections_back}

-- SECTIONS

-- a line of a word and a number
two_words : (c : ℕ) (w : List ℕ) (l : ℕ) → all_of is_solid (c ∷ w) ≡ true → l < 2 ^ 64 → words ((c ∷ w) ++ 32 ∷ decimal l) ≡ (c ∷ w) ∷ decimal l ∷ []
two_words c w l solid small =
    let n = number_word l small in
    word_first c w (decimal l) solid
    ∙ ap (λ (ws : List (List ℕ)). (c ∷ w) ∷ ws) (ap words n.is ∙ word_alone n.first n.rest n.solid ∙ ap (λ (t : List ℕ). t ∷ []) (sym n.is))

module _ (k c : ℕ) (L : List (ℕ × ℕ)) (S : Sections) where
  abbrev before : Reading
  before = at L S c []

  abbrev after : Section → Reading
  after s = at L S c (opened L S (Section_block s) k Done ∷ [])

  fresh : (s : Section) → section_in s S ≡ None → once (section_in s S) (Ok (after s)) ≡ Ok (after s)
  fresh s none = ap (λ (o : Option Statements). once o (Ok (after s))) none

  levelled : (low high l : ℕ) (f : ℕ → Section) → high < 2 ^ 32 → between low high l ≡ true
      → numbered low high (decimal l ∷ []) (λ n more. heading before k (f n) more) ≡ heading before k (f l) []
  levelled low high l f few h =
      let t = and_parts (nat_le low l) (nat_le l high) h in
      ap (λ (o : Option ℕ). found o fault.BadNumber (λ n. heading before k (f n) [])) (number_of_32 low high l (omega (arith, leb-true l high t.1, few)) h)

  section_line : (s : Section) → is_section s ≡ true → section_in s S ≡ None → LeadsAt k before (section_word s ∷ []) (after s)
  section_line Main h none = leads_one k before (after Main) (codes "main") (fresh Main none)
  section_line Opening h none = leads_one k before (after Opening) (codes "open") (fresh Opening none)
  section_line (Upgrading l) h none =
      let t = and_parts (nat_le 1 l) (nat_le l 3) h in
      leads_one k before (after (Upgrading l)) (section_word (Upgrading l)) (
      ap (line_read before k (section_word (Upgrading l))) (two_words 117 (112 ∷ []) l refl (omega (arith, leb-true l 3 t.1)))
      ∙ levelled 1 3 l Upgrading (omega arith) h ∙ fresh (Upgrading l) none)
  section_line (Calling l) h none =
      leads_one k before (after (Calling l)) (section_word (Calling l)) (
      ap (line_read before k (section_word (Calling l))) (two_words 99 (97 ∷ 108 ∷ 108 ∷ []) l refl (omega (arith, leb-true l 3 h)))
      ∙ levelled 0 3 l Calling (omega arith) (and_from (nat_le 0 l) (nat_le l 3) (le-leb 0 l (omega arith)) h) ∙ fresh (Calling l) none)
  section_line (Closing l) h none =
      leads_one k before (after (Closing l)) (section_word (Closing l)) (
      ap (line_read before k (section_word (Closing l))) (two_words 99 (108 ∷ 111 ∷ 115 ∷ 101 ∷ []) l refl (omega (arith, leb-true l 3 h)))
      ∙ levelled 0 3 l Closing (omega arith) (and_from (nat_le 0 l) (nat_le l 3) (le-leb 0 l (omega arith)) h) ∙ fresh (Closing l) none)
  section_line (Reacting i) h none =
      leads_one k before (after (Reacting i)) (section_word (Reacting i)) (
      ap (line_read before k (section_word (Reacting i))) (two_words 111 (110 ∷ []) i refl (omega (arith, leb-true i 2 h)))
      ∙ levelled 0 2 i Reacting (omega arith) (and_from (nat_le 0 i) (nat_le i 2) (le-leb 0 i (omega arith)) h) ∙ fresh (Reacting i) none)

end_section : (k c j : ℕ) (L : List (ℕ × ℕ)) (S : Sections) (s : Section) (body : Statements)
    → LeadsAt k (at L S c (opened L S (Section_block s) j body ∷ [])) (codes "end" ∷ []) (at L ((s, body) ∷ S) c [])
end_section k c j L S s body =
    leads_one k (at L S c (opened L S (Section_block s) j body ∷ [])) (at L ((s, body) ∷ S) c []) (codes "end") refl

abbrev pub total : Sections → ℕ
total ps = sum_by (λ s. size s.1) ps

sections_lead : (k n c : ℕ) (L : List (ℕ × ℕ)) (S ps : Sections) → are_sections n ps ≡ true → ((s : Section) → n ≤ section_number s → section_in s S ≡ None)
    → c + total ps ≤ greatest_statements → LeadsAt k (at L S c []) (sections_lines ps) (at L (onto ps S) (c + total ps) [])
sections_lead k n c L S [] h free few = leads_none k (at L S c []) (at L S (c + 0) []) (ap (λ (m : ℕ). at L S m []) (omega arith))
sections_lead k n c L S (p ∷ rest) h free few =
    let f = first_of n p rest h in
    let sum = sum_by-cons (λ (s : Section × Statements). size s.1) p rest in
    let m = section_number p.0 in
    let inner = statements_lines 1 p.1 in
    let i = (k + 1) + length inner in
    let r0 = at L S c [] in
    let r1 = at L S c (opened L S (Section_block p.0) k Done ∷ []) in
    let r2 = at L S (c + size p.1) (opened L S (Section_block p.0) k p.1 ∷ []) in
    let r3 = at L ((p.0, p.1) ∷ S) (c + size p.1) [] in
    let r4 = at L (onto rest ((p.0, p.1) ∷ S)) (c + size p.1 + total rest) [] in
    let first = section_line k c L S p.0 f.section (free p.0 f.at) in
    let second = statements_lead L S (k + 1) 4 1 c (opened L S (Section_block p.0) k Done) [] p.1 f.body (omega arith) (omega (arith, few, sum)) in
    let third = end_section i (c + size p.1) k L S p.0 p.1 in
    let free' : (s : Section) → 1 + m ≤ section_number s → section_in s ((p.0, p.1) ∷ S) ≡ None =
    λ s less. ap (λ (b : Bool). if b then Some p.1 else section_in s S) (differ s p.0 (λ e. omega (arith, e, less)))
    ∙ free s (omega (arith, less, f.at)) in
    let fourth = sections_lead (i + 1) (1 + m) (c + size p.1) L ((p.0, p.1) ∷ S) rest f.rest free' (omega (arith, few, sum)) in
    let tail = leads_both i r2 r3 r4 (codes "end" ∷ []) (sections_lines rest) third fourth in
    let whole = leads_both k r0 r1 r4 (section_word p.0 ∷ []) (inner ++ codes "end" ∷ sections_lines rest) first
    (leads_both (k + 1) r1 r2 r4 inner (codes "end" ∷ sections_lines rest) second tail) in
    leads_to k r0 r4 (at L (onto (p ∷ rest) S) (c + total (p ∷ rest)) []) (sections_lines (p ∷ rest)) whole
    (ap (λ (m : ℕ). at L (onto rest (p ∷ S)) m []) (omega (arith, sum)))

-- LOCALS

-- the limits of these locals, of which the first is the i-th, before others
abbrev pub limits_onto : ℕ → List ℕ → List (ℕ × ℕ) → List (ℕ × ℕ)
limits_onto i [] L = L
limits_onto i (n ∷ rest) L = limits_onto (suc i) rest (if n == greatest_number then L else (i, n) ∷ L)

abbrev one_onto : ℕ → ℕ → List (ℕ × ℕ) → List (ℕ × ℕ)
one_onto i n L = if n == greatest_number then L else (i, n) ∷ L

other_limit : (i j n : ℕ) (L : List (ℕ × ℕ)) → (j ≡ i → ⊥) → limit_of j (one_onto i n L) ≡ limit_of j L
other_limit i j n L other = elim (cases_Bool (n == greatest_number)) [
  | inl e ↦ ap (λ (b : Bool). limit_of j (if b then L else (i, n) ∷ L)) e
  | inr e ↦
      let no : (i == j) ≡ false = grind (arith, nat_tests) in
      ap (λ (b : Bool). limit_of j (if b then L else (i, n) ∷ L)) e ∙ ap (λ (b : Bool). if b then Some n else limit_of j L) no
]

own_limit : (i n : ℕ) (L : List (ℕ × ℕ)) → limit_of i L ≡ None → limit_or_greatest (limit_of i (one_onto i n L)) ≡ n
own_limit i n L none = elim (cases_Bool (n == greatest_number)) [
  | inl e ↦
      ap (λ (b : Bool). limit_or_greatest (limit_of i (if b then L else (i, n) ∷ L))) e ∙ ap limit_or_greatest none ∙ sym (eqb-true n greatest_number e)
  | inr e ↦
      let yes : (i == i) ≡ true = grind (arith, nat_tests) in
      ap (λ (b : Bool). limit_or_greatest (limit_of i (if b then L else (i, n) ∷ L))) e
      ∙ ap (λ (b : Bool). limit_or_greatest (if b then Some n else limit_of i L)) yes
]

low_limit : (i j : ℕ) (ns : List ℕ) (L : List (ℕ × ℕ)) → j < i → limit_of j (limits_onto i ns L) ≡ limit_of j L
low_limit i j [] L less = refl
low_limit i j (n ∷ rest) L less = low_limit (suc i) j rest (one_onto i n L) (omega (arith, less)) ∙ other_limit i j n L (λ e. omega (arith, e, less))

-- the numbers from i on
abbrev count_up : ℕ → ℕ → List ℕ
count_up i zero = []
count_up i (suc n) = i ∷ count_up (suc i) n

limits_back : (i : ℕ) (ns : List ℕ) (L : List (ℕ × ℕ)) → ((j : ℕ) → i ≤ j → limit_of j L ≡ None)
    → limits_from (limits_onto i ns L) (count_up i (length ns)) ≡ ns
limits_back i [] L free = refl
limits_back i (n ∷ rest) L free =
    let L' = one_onto i n L in
    ap₂ (λ (m : ℕ) (ms : List ℕ). m ∷ ms)
    (ap limit_or_greatest (low_limit (suc i) i rest L' (omega arith)) ∙ own_limit i n L (free i (omega arith)))
    (limits_back (suc i) rest L' (λ j less. other_limit i j n L (λ e. omega (arith, e, less)) ∙ free j (omega (arith, less))))

abbrev local_text : ℕ → ℕ → List ℕ
local_text i n = codes "local " ++ decimal i ++ codes " " ++ decimal n

local_parts : (i n : ℕ) → local_text i n ≡ codes "local" ++ 32 ∷ (decimal i ++ 32 ∷ decimal n)
local_parts i n = ap (λ (t : List ℕ). codes "local" ++ 32 ∷ t) (append_assoc (decimal i) (32 ∷ []) (decimal n))

local_words : (i n : ℕ) → i < 2 ^ 64 → n < 2 ^ 64 → words (local_text i n) ≡ codes "local" ∷ decimal i ∷ decimal n ∷ []
local_words i n fi fn =
    let a = number_word i fi in
    let b = number_word n fn in
    let second : words (decimal i ++ 32 ∷ decimal n) ≡ decimal i ∷ words (decimal n) =
    ap (λ (t : List ℕ). words (t ++ 32 ∷ decimal n)) a.is ∙ word_first a.first a.rest (decimal n) a.solid ∙ ap (λ (t : List ℕ). t ∷ words (decimal n))
    (sym a.is) in
    let third : words (decimal n) ≡ decimal n ∷ [] = ap words b.is ∙ word_alone b.first b.rest b.solid ∙ ap (λ (t : List ℕ). t ∷ []) (sym b.is) in
    ap words (local_parts i n) ∙ word_first 108 (111 ∷ 99 ∷ 97 ∷ 108 ∷ []) (decimal i ++ 32 ∷ decimal n) refl
    ∙ ap (λ (ws : List (List ℕ)). codes "local" ∷ ws) (second ∙ ap (λ (ws : List (List ℕ)). decimal i ∷ ws) third)

local_line : (k c i n : ℕ) (L : List (ℕ × ℕ)) (S : Sections) → i ≤ 7 → between 0 greatest_number n ≡ true → limit_of i L ≡ None
    → LeadsAt k (at L S c []) (local_text i n ∷ []) (at ((i, n) ∷ L) S c [])
local_line k c i n L S low fits none =
    let r = at L S c [] in
    let s = at ((i, n) ∷ L) S c [] in
    let t = and_parts (nat_le 0 n) (nat_le n greatest_number) fits in
    let few : n ≤ greatest_number = leb-true n greatest_number t.1 in
    let given : ℕ → Read = λ j. once (limit_of j L) (numbered 0 greatest_number (decimal n ∷ []) (λ m last. at_end last (Ok (record r {
      limits =
          (j, m) ∷ L;
    })))) in
    let value : Option ℕ → Read = λ o. found o fault.BadNumber (λ m. at_end [] (Ok (record r { limits = (i, m) ∷ L }))) in
    leads_one k r s (local_text i n) (
    ap (line_read r k (local_text i n)) (local_words i n (omega (arith, low)) (omega (arith, few)))
    ∙ ap (λ (o : Option ℕ). found o fault.BadNumber given)
    (number_of_32 0 7 i (omega (arith, low)) (and_from (nat_le 0 i) (nat_le i 7) (le-leb 0 i (omega arith)) (le-leb i 7 low)))
    ∙ ap (λ (o : Option ℕ). once o (value (number_in 10 0 greatest_number (decimal n)))) none
    ∙ ap value (number_of_32 0 greatest_number n (omega (arith, few)) fits))

-- a local is reported where it has a limit
local_lead : (k c i n : ℕ) (L : List (ℕ × ℕ)) (S : Sections) → i ≤ 7 → between 0 greatest_number n ≡ true → limit_of i L ≡ None → (b : Bool)
    → LeadsAt k (at L S c []) (if b then [] else local_text i n ∷ []) (at (if b then L else (i, n) ∷ L) S c [])
local_lead k c i n L S low fits none true = leads_none k (at L S c []) (at L S c []) refl
local_lead k c i n L S low fits none false = local_line k c i n L S low fits none

locals_lead : (k c i : ℕ) (ns : List ℕ) (L : List (ℕ × ℕ)) (S : Sections) → i + length ns ≤ 8 → all_of (between 0 greatest_number) ns ≡ true
    → ((j : ℕ) → i ≤ j → limit_of j L ≡ None) → LeadsAt k (at L S c []) (locals_lines i ns) (at (limits_onto i ns L) S c [])
locals_lead k c i [] L S few fits free = leads_none k (at L S c []) (at L S c []) refl
locals_lead k c i (n ∷ rest) L S few fits free =
    let t = and_parts (between 0 greatest_number n) (all_of (between 0 greatest_number) rest) fits in
    let L' = one_onto i n L in
    let prefix : List (List ℕ) = if n == greatest_number then [] else local_text i n ∷ [] in
    let first = local_lead k c i n L S (omega (arith, few)) t.0 (free i (omega arith)) (n == greatest_number) in
    let next = locals_lead (k + length prefix) c (suc i) rest L' S (omega (arith, few)) t.1
    (λ j less. other_limit i j n L (λ e. omega (arith, e, less)) ∙ free j (omega (arith, less))) in
    leads_both k (at L S c []) (at L' S c []) (at (limits_onto (suc i) rest L') S c []) prefix (locals_lines (suc i) rest) first next

-- PROGRAMS

eight : (ns : List ℕ) (L : List (ℕ × ℕ)) → length ns ≡ 8 → limits_from L (0 ∷ 1 ∷ 2 ∷ 3 ∷ 4 ∷ 5 ∷ 6 ∷ 7 ∷ []) ≡ limits_from L (count_up 0 (length ns))
eight ns L e = ap (λ (n : ℕ). limits_from L (count_up 0 n)) (sym e)

pub read_back : (p : Program) → IsProgram p → AllPrinted (listing_lines p) → assembled (listing p) ≡ Ok p
read_back p h printed =
    let a = and_parts (length p.locals == 8 && all_of (between 0 greatest_number) p.locals && are_sections 0 p.sections)
    (nat_le (total p.sections) greatest_statements) h in
    let b = and_parts (length p.locals == 8 && all_of (between 0 greatest_number) p.locals) (are_sections 0 p.sections) a.0 in
    let c = and_parts (length p.locals == 8) (all_of (between 0 greatest_number) p.locals) b.0 in
    let long : length p.locals ≡ 8 = eqb-true (length p.locals) 8 c.0 in
    let L = limits_onto 0 p.locals [] in
    let first = locals_lead 1 0 0 p.locals [] [] (omega (arith, long)) c.1 (λ j less. refl) in
    let k = 1 + length (locals_lines 0 p.locals) in
    let few : total p.sections ≤ greatest_statements = leb-true (total p.sections) greatest_statements a.1 in
    let second = sections_lead k 0 0 L [] p.sections b.1 (λ s less. refl) (omega (arith, few)) in
    let last = at L (onto p.sections []) (0 + total p.sections) [] in
    let whole = leads_both 1 (at [] [] 0 []) (at L [] 0 []) last (locals_lines 0 p.locals) (sections_lines p.sections) first second in
    ap (lines_read (at [] [] 0 []) 1) (lines_joined (listing_lines p) printed) ∙ whole ([] ∷ [])
    ∙ ap₂ (λ (ss : Sections) (ls : List ℕ). Ok (record { sections = ss; locals = ls })) (sections_back p.sections b.1)
    (eight p.locals L long ∙ limits_back 0 p.locals [] (λ j less. refl))
