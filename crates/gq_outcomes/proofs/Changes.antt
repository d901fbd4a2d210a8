-- Statements that change own slots, one after the other.
use Rattle.std.proofs.Common.{◌≡◌, ℕ, ◌+◌, ◌<◌, Bool, true, false, ◌||◌, ◌&&◌, not, List, [], ◌∷◌, length, drop, get_or, refl, ap, sym, ◌∙◌}
use Rattle.gq_model.specs.declared.section.Section.{Section}
use Rattle.gq_model.specs.machine.Program.{Statements}
use Rattle.gq_model.specs.machine.Sections.{is_start_section}
use Rattle.gq_program.specs.declared.program_tree.Statement.{Statement}
use Rattle.gq_program.specs.declared.program_tree.Statement.TheVariants.{Plain, If, Loop}
use Rattle.gq_program.specs.Statement_trees.{tree_of}
use Rattle.gq_races.specs.Races.{changes_own}
use Rattle.gq_resolve.proofs.Mapped_list_growth.{next_is}
use Rattle.gq_outcomes.specs.internal.Racy.{changes_in, changes_later}

pub or_none : (a : Bool) → (a || false) ≡ a
or_none true = refl
or_none false = refl

or_else : (a b : Bool) → a ≡ false → (a || b) ≡ b
or_else true b e = absurd (cc e)
or_else false b e = refl

or_first : (a b : Bool) → a ≡ true → (a || b) ≡ true
or_first true b e = refl
or_first false b e = absurd (cc e)

or_three : (a b c : Bool) → (a || b || c) ≡ ((a || b || false) || c)
or_three true b c = refl
or_three false true c = refl
or_three false false c = refl

-- a statement before others
first_changes : (st : Statement) (rest : List Statement) → changes_in (tree_of (st ∷ rest)) ≡ (changes_in (tree_of (st ∷ [])) || changes_in (tree_of rest))
first_changes (Plain i) rest = ap (λ b. b || changes_in (tree_of rest)) (sym (or_none (changes_own i)))
first_changes (If arm other) rest = or_three (changes_in arm) (changes_in other) (changes_in (tree_of rest))
first_changes (Loop n body) rest = ap (λ b. b || changes_in (tree_of rest)) (sym (or_none (changes_in body)))

-- where the next one changes nothing, the others are left
pub changes_left : (items : List Statement) (k : ℕ) (st : Statement) → k < length items → st ≡ get_or items k st → changes_in (tree_of (st ∷ [])) ≡ false
    → changes_in (tree_of (drop k items)) ≡ changes_in (tree_of (drop (k + 1) items))
changes_left items k st less is none =
    ap (λ l. changes_in (tree_of l)) (next_is items k st less is)
    ∙ (first_changes st (drop (k + 1) items) ∙ or_else (changes_in (tree_of (st ∷ []))) (changes_in (tree_of (drop (k + 1) items))) none)

-- where it does, some do
pub changes_here : (items : List Statement) (k : ℕ) (st : Statement) → k < length items → st ≡ get_or items k st → changes_in (tree_of (st ∷ [])) ≡ true
    → changes_in (tree_of (drop k items)) ≡ true
changes_here items k st less is does =
    ap (λ l. changes_in (tree_of l)) (next_is items k st less is)
    ∙ (first_changes st (drop (k + 1) items) ∙ or_first (changes_in (tree_of (st ∷ []))) (changes_in (tree_of (drop (k + 1) items))) does)

-- SECTIONS

pub parts_left : (items : List (Section × Statements)) (k : ℕ) (p : Section × Statements) → k < length items → p ≡ get_or items k p
    → (not (is_start_section p.0) && changes_in p.1) ≡ false → changes_later (drop k items) ≡ changes_later (drop (k + 1) items)
parts_left items k p less is none =
    ap changes_later (next_is items k p less is) ∙ or_else (not (is_start_section p.0) && changes_in p.1) (changes_later (drop (k + 1) items)) none

pub parts_here : (items : List (Section × Statements)) (k : ℕ) (p : Section × Statements) → k < length items → p ≡ get_or items k p
    → (not (is_start_section p.0) && changes_in p.1) ≡ true → changes_later (drop k items) ≡ true
parts_here items k p less is does =
    ap changes_later (next_is items k p less is) ∙ or_first (not (is_start_section p.0) && changes_in p.1) (changes_later (drop (k + 1) items)) does
