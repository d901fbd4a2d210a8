-- The program at the end of a text.
use Rattle.std.proofs.Common.{◌≡◌, ℕ, List, [], ◌∷◌, length, drop, Ok, refl, ap, ◌∙◌, arith}
use Rattle.gq_model.specs.declared.section.Section.{Section}
use Rattle.gq_model.specs.machine.Program.{Statements}
use Rattle.gq_model.specs.machine.Sections.{all_sections}
use Rattle.gq_model.specs.texts.Text.{OpenBlock, Reading, limits_from, in_order, finished}

-- where nothing comes first there is nothing
pub none_first : {A : Type 0} (xs rest : List A) → xs ≡ rest → rest ≡ drop 1 xs → xs ≡ []
none_first [] rest e f = refl
none_first {A} (x ∷ xs) rest e f = let n = ap (λ (l : List A). length l) (e ∙ f) in absurd (omega (arith, n))

-- where no block is open, the sections are put in order, and each local has its limit
pub finished_none : (r : Reading) (blocks : List OpenBlock) (sections : List (Section × Statements)) (locals : List ℕ) → blocks ≡ [] →
    sections ≡ in_order r.sections all_sections → locals ≡ limits_from r.limits (0 ∷ 1 ∷ 2 ∷ 3 ∷ 4 ∷ 5 ∷ 6 ∷ 7 ∷ []) →
    finished r blocks ≡ Ok (record { sections = sections; locals = locals })
finished_none r blocks sections locals e f g = rw (e, f, g) refl
