-- Each section of a program is of a level up to 3.
use Rattle.std.proofs.Common.{◌≡◌, ℕ, zero, suc, ◌<◌, true, List, [], ◌∷◌, length, ◌&&◌, Some, refl, ap, ◌∙◌, IsTrue, arith}
use Rattle.std.specs.Prelude.{nat_le, get_or, slice_get}
use Rattle.gq_model.proofs.Small_facts.{some_same}
use Rattle.std.proofs.lemmas.Bool.{and_parts, leb-true, le-leb}
use Rattle.gq_model.specs.declared.section.Section.{Section}
use Rattle.gq_model.specs.declared.section.Section.TheVariants.{Main, Opening, Upgrading, Calling, Closing, Reacting}
use Rattle.gq_model.specs.machine.Lists.{all_of}
use Rattle.gq_model.specs.machine.Program.{Program, Statements}
use Rattle.gq_model.specs.rules.Kinds.{Subject}
use Rattle.gq_model.specs.machine.Sections.{level_of, is_section}
use Rattle.gq_model.specs.texts.Code.{IsProgram}
use Rattle.gq_rules.proofs.Program_section_facts.{each_section}
use Rattle.gq_sizes.specs.Needing.{AreLow}

low : (s : Section) → is_section s ≡ true → nat_le (level_of s) 3 ≡ true
low Main e = refl
low Opening e = refl
low (Upgrading l) e = (and_parts (nat_le 1 l) (nat_le l 3) e).1
low (Calling l) e = e
low (Closing l) e = e
low (Reacting i) e = let k = leb-true i 2 e in le-leb i 3 (omega (arith, k))

all_low : (ps : List (Section × Statements)) → all_of (λ p. is_section p.0) ps ≡ true → all_of (λ p. nat_le (level_of p.0) 3) ps ≡ true
all_low [] e = refl
all_low (p ∷ rest) e =
    let both = and_parts (is_section p.0) (all_of (λ p. is_section p.0) rest) e in
    ap (λ b. b && all_of (λ p. nat_le (level_of p.0) 3) rest) (low p.0 both.0) ∙ all_low rest both.1

levels_low : (p : Program) → IsProgram p → IsTrue (all_of (λ p. nat_le (level_of p.0) 3) p.sections)
levels_low p is = all_low p.sections (each_section p is)

-- and so it is of all leaves
pub all_leaves_low : (vs : List Subject) → ((k : ℕ) (v : Subject) → slice_get vs k ≡ Some v → IsProgram v.program) → AreLow vs
all_leaves_low [] are = tt
all_leaves_low (v ∷ rest) are = (levels_low v.program (are zero v refl), all_leaves_low rest (λ k w there. are (suc k) w there))

-- an element by its place
pub got : {A : Type 0} → (xs : List A) (k : ℕ) (x d : A) → slice_get xs k ≡ Some x → get_or xs k d ≡ x
got [] k x d there = absurd cc
got (y ∷ rest) zero x d there = some_same there
got (y ∷ rest) (suc k) x d there = got rest k x d there

pub within : {A : Type 0} → (xs : List A) (k : ℕ) (x : A) → slice_get xs k ≡ Some x → k < length xs
within [] k x there = absurd cc
within (y ∷ rest) zero x there = omega arith
within (y ∷ rest) (suc k) x there = let h = within rest k x there in omega (arith, h)
