-- Sections in their order, and their bits.
use Rattle.std.proofs.Common.{◌≡◌, ◌<◌, ◌≤◌, ℕ, suc, arith, ◌+◌, ◌*◌, ◌^◌, ◌&&◌, List, [], ◌∷◌, drop, length, get_or, refl, ap, sym, ◌∙◌, add-one}
use Rattle.std.proofs.Common.{IsTrue, Fits, w16}
use Rattle.std.proofs.Math.Seq.{drop-cons}
use Rattle.std.proofs.Math.Pow.{pow_mono}
use Rattle.std.proofs.Math.Nat.{pow-succ'}
use Rattle.std.proofs.lemmas.Bool.{leb-true}
use Rattle.std.proofs.lemmas.List.Sums.{sum_by-cons}
use Rattle.std.specs.Prelude.{nat_le, ◌==◌, sum_by}
use Rattle.gq_model.specs.machine.Lists.{all_of, between}
use Rattle.gq_model.specs.machine.Program.{Statements, Program, size}
use Rattle.gq_model.specs.texts.Operands.{greatest_number}
use Rattle.gq_model.specs.declared.section.Section.{Section}
use Rattle.gq_model.specs.declared.section.Section.TheVariants.{Main, Opening, Upgrading, Calling, Closing}
use Rattle.gq_model.specs.texts.Code.{IsProgram, greatest_statements, is_body, are_sections, section_bits}
use Rattle.gq_model.specs.machine.Sections.{is_section, section_number}
use Rattle.gq_model.proofs.Section_laws.{first_of, number_below}
use Rattle.gq_code.specs.Codes.{has_code}
use Rattle.gq_code.specs.internal.Coded_sections.{have_codes}
use Rattle.gq_code.proofs.Coded_statements.{parts, both, body_has}

abbrev pub Sections : Type 0
Sections = List (Section × Statements)

-- sections in their order have a code
pub sections_have : (n : ℕ) (sections : Sections) → IsTrue (are_sections n sections) → IsTrue (have_codes sections)
sections_have n [] h = refl
sections_have n (p ∷ rest) h =
    let f = first_of n p rest h in both (has_code p.1) (have_codes rest) (body_has 4 p.1 f.body) (sections_have (1 + section_number p.0) rest f.rest)

twice : (k : ℕ) → 2 ^ (1 + k) ≡ 2 * 2 ^ k
twice k = ap (λ n. 2 ^ n) {x = 1 + k} {y = suc k} (omega arith) ∙ pow-succ' 2 k

-- their bits are below the 16th
pub bits_below : (n : ℕ) (sections : Sections) → n ≤ 16 → IsTrue (are_sections n sections) → section_bits sections + 2 ^ n ≤ 65536
bits_below n [] less h = let e = pow_mono less in omega (arith, e)
bits_below n (p ∷ rest) less h =
    let f = first_of n p rest h in
    let k = section_number p.0 in
    let small = number_below p.0 f.section in
    let next = bits_below (1 + k) rest (omega (arith, small)) f.rest in
    let here = sum_by-cons (λ q. 2 ^ section_number q.0) p rest in
    let after = pow_mono f.at in
    omega (arith, next, here, after, twice k)

-- the section that stands there comes next
here_is : (sections : Sections) (i : ℕ) (p : Section × Statements) → i < length sections → p ≡ get_or sections i p → drop i sections ≡ p ∷ drop (i + 1) sections
here_is sections i p less e = drop-cons sections i p less ∙ (ap (λ h. h ∷ drop (suc i) sections) (sym e) ∙ ap (λ n. p ∷ drop n sections) (sym (add-one i)))

-- one bit more is still below
pub bits_fit : (sections : Sections) (i : ℕ) (p : Section × Statements) (bits bit : ℕ) → i < length sections → p ≡ get_or sections i p →
    bits + section_bits (drop i sections) ≡ section_bits sections → bit ≡ 2 ^ section_number p.0
    → IsTrue (are_sections 0 sections) → Fits w16 (bits + bit)
bits_fit sections i p bits bit less e sum b h =
    let all = bits_below 0 sections (omega arith) h in
    let here = ap section_bits (here_is sections i p less e) ∙ sum_by-cons (λ q. 2 ^ section_number q.0) p (drop (i + 1) sections) in
    omega (arith, all, here, sum, b)

-- a program's sections stand in their order
pub sections_of : (p : Program) → IsProgram p → IsTrue (are_sections 0 p.sections)
sections_of p h =
    let a =
    parts (length p.locals == 8 && all_of (between 0 greatest_number) p.locals && are_sections 0 p.sections)
    (nat_le (sum_by (λ s. size s.1) p.sections) greatest_statements) h in
    (parts (length p.locals == 8 && all_of (between 0 greatest_number) p.locals) (are_sections 0 p.sections) a.0).1
