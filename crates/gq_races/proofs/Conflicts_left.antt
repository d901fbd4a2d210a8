-- Statements that are races or orders, one after the other.
use Rattle.std.proofs.Common.{◌≡◌, ℕ, suc, ◌+◌, ◌<◌, Bool, true, false, cond, ◌||◌, ◌&&◌, not, List, [], ◌∷◌, ◌++◌, length, drop, get_or}
use Rattle.std.proofs.Common.{map, refl, ap, sym, ◌∙◌}
use Rattle.gq_model.specs.declared.section.Section.{Section}
use Rattle.gq_model.specs.machine.Program.{Statements}
use Rattle.gq_model.specs.machine.Sections.{is_start_section}
use Rattle.gq_program.specs.declared.program_tree.Statement.{Statement}
use Rattle.gq_program.specs.declared.program_tree.Statement.TheVariants as tree
use Rattle.gq_program.specs.Statement_trees.{tree_of}
use Rattle.gq_model.specs.declared.program.Instruction.{Instruction}
use Rattle.gq_model.specs.machine.Program.{Done, Do, If, Loop, size}
use Rattle.gq_model.specs.machine.Scenario.{Component}
use Rattle.gq_races.specs.Races.{Stated, each_stated, for_several, found_in, stated_in, stated_of}
use Rattle.gq_races.specs.Race_text.{is_conflict, opened_text, shared_text, sharing_lines}
use Rattle.gq_resolve.proofs.Mapped_list_growth.{next_is}
use Rattle.gq_races.specs.internal.Conflicts.{conflicts, conflicts_in, conflicts_later, sharing}

or_none : (a : Bool) → (a || false) ≡ a
or_none true = refl
or_none false = refl

or_else : (a b : Bool) → a ≡ false → (a || b) ≡ b
or_else true b e = absurd (cc e)
or_else false b e = refl

or_first : (a b : Bool) → a ≡ true → (a || b) ≡ true
or_first true b e = refl
or_first false b e = absurd (cc e)

or_three : (a b c : Bool) → (a || b || c) ≡ ((a || b || false) || c)
or_three true b c = refl
or_three false true c = refl
or_three false false c = refl

-- a statement before others
first_conflicts : (st : Statement) (rest : List Statement)
    → conflicts_in (tree_of (st ∷ rest)) ≡ (conflicts_in (tree_of (st ∷ [])) || conflicts_in (tree_of rest))
first_conflicts (tree.Plain i) rest = ap (λ b. b || conflicts_in (tree_of rest)) (sym (or_none (conflicts i)))
first_conflicts (tree.If arm other) rest = or_three (conflicts_in arm) (conflicts_in other) (conflicts_in (tree_of rest))
first_conflicts (tree.Loop n body) rest = ap (λ b. b || conflicts_in (tree_of rest)) (sym (or_none (conflicts_in body)))

-- where the next one is none, the others are left
pub conflicts_left : (items : List Statement) (k : ℕ) (st : Statement) → k < length items → st ≡ get_or items k st → conflicts_in (tree_of (st ∷ [])) ≡ false
    → conflicts_in (tree_of (drop k items)) ≡ conflicts_in (tree_of (drop (k + 1) items))
conflicts_left items k st less is none =
    ap (λ l. conflicts_in (tree_of l)) (next_is items k st less is)
    ∙ (first_conflicts st (drop (k + 1) items) ∙ or_else (conflicts_in (tree_of (st ∷ []))) (conflicts_in (tree_of (drop (k + 1) items))) none)

-- where it is one, some are
pub conflicts_here : (items : List Statement) (k : ℕ) (st : Statement) → k < length items → st ≡ get_or items k st → conflicts_in (tree_of (st ∷ [])) ≡ true
    → conflicts_in (tree_of (drop k items)) ≡ true
conflicts_here items k st less is does =
    ap (λ l. conflicts_in (tree_of l)) (next_is items k st less is)
    ∙ (first_conflicts st (drop (k + 1) items) ∙ or_first (conflicts_in (tree_of (st ∷ []))) (conflicts_in (tree_of (drop (k + 1) items))) does)

-- SECTIONS

pub parts_left : (items : List (Section × Statements)) (k : ℕ) (p : Section × Statements) → k < length items → p ≡ get_or items k p
    → (not (is_start_section p.0) && conflicts_in p.1) ≡ false → conflicts_later (drop k items) ≡ conflicts_later (drop (k + 1) items)
parts_left items k p less is none =
    ap conflicts_later (next_is items k p less is) ∙ or_else (not (is_start_section p.0) && conflicts_in p.1) (conflicts_later (drop (k + 1) items)) none

pub parts_here : (items : List (Section × Statements)) (k : ℕ) (p : Section × Statements) → k < length items → p ≡ get_or items k p
    → (not (is_start_section p.0) && conflicts_in p.1) ≡ true → conflicts_later (drop k items) ≡ true
parts_here items k p less is does =
    ap conflicts_later (next_is items k p less is) ∙ or_first (not (is_start_section p.0) && conflicts_in p.1) (conflicts_later (drop (k + 1) items)) does

-- WHETHER THERE ARE ANY

abbrev is_any : {A : Type 0} → List A → Bool
is_any [] = false
is_any (a ∷ rest) = true

any_both : {A : Type 0} (a b : List A) → is_any (a ++ b) ≡ (is_any a || is_any b)
any_both [] b = refl
any_both (x ∷ a) b = refl

any_one : {A : Type 0} (b : Bool) (a : A) → is_any (cond b (a ∷ []) []) ≡ b
any_one true a = refl
any_one false a = refl

-- statements of a section
found_more : (n : ℕ) (s : Statements) → is_any (found_in (is_conflict true) n s) ≡ conflicts_in s
found_more n Done = refl
found_more n (Do i rest) =
    any_both (cond (conflicts i) ((n, i) ∷ []) []) (found_in (is_conflict true) (suc n) rest)
    ∙ (λ e. any_one {A = ℕ × Instruction} (conflicts i) (n, i) e || found_more (suc n) rest e)
found_more n (If arm other rest) =
    any_both (found_in (is_conflict true) (suc n) arm ++ found_in (is_conflict true) (suc n + size arm) other) _
    ∙ (ap (λ b. b || is_any (found_in (is_conflict true) (suc n + size arm + size other) rest))
    (any_both (found_in (is_conflict true) (suc n) arm) (found_in (is_conflict true) (suc n + size arm) other))
    ∙ ((λ e. (found_more (suc n) arm e || found_more (suc n + size arm) other e) || found_more (suc n + size arm + size other) rest e)
    ∙ or_assoc (conflicts_in arm) (conflicts_in other) (conflicts_in rest)))
  where
    or_assoc : (a b c : Bool) → ((a || b) || c) ≡ (a || b || c)
    or_assoc true b c = refl
    or_assoc false b c = refl
found_more n (Loop count body rest) =
    any_both (found_in (is_conflict true) (suc n) body) (found_in (is_conflict true) (suc n + size body) rest)
    ∙ (λ e. found_more (suc n) body e || found_more (suc n + size body) rest e)

found_none : (n : ℕ) (s : Statements) → found_in (is_conflict false) n s ≡ []
found_none n Done = refl
found_none n (Do i rest) = found_none (suc n) rest
found_none n (If arm other rest) =
    λ e. (found_none (suc n) arm e ++ found_none (suc n + size arm) other e) ++ found_none (suc n + size arm + size other) rest e
found_none n (Loop count body rest) = λ e. found_none (suc n) body e ++ found_none (suc n + size body) rest e

found_any : (several : Bool) (n : ℕ) (s : Statements) → is_any (found_in (is_conflict several) n s) ≡ (several && conflicts_in s)
found_any true n s = found_more n s
found_any false n s = ap is_any (found_none n s)

stated_any : (leaf : List ℕ) (section : Section) (found : List (ℕ × Instruction)) → is_any (each_stated leaf section found) ≡ is_any found
stated_any leaf section [] = refl
stated_any leaf section (c ∷ found) = refl

sections_any : (shared : Bool) (leaf : List ℕ) (sections : List (Section × Statements))
    → is_any (stated_in (λ section. is_conflict (for_several shared section)) leaf sections) ≡ (shared && conflicts_later sections)
sections_any shared leaf [] = none shared
  where
    none : (shared : Bool) → false ≡ (shared && false)
    none true = refl
    none false = refl
sections_any shared leaf (p ∷ rest) =
    let found = found_in (is_conflict (for_several shared p.0)) 1 p.1 in
    any_both (each_stated leaf p.0 found) (stated_in (λ section. is_conflict (for_several shared section)) leaf rest)
    ∙ ((λ e. (stated_any leaf p.0 found ∙ found_any (for_several shared p.0) 1 p.1) e || sections_any shared leaf rest e)
    ∙ apart shared (not (is_start_section p.0)) (conflicts_in p.1) (conflicts_later rest))
  where
    apart : (shared later one more : Bool) → (((shared && later) && one) || (shared && more)) ≡ (shared && ((later && one) || more))
    apart true later one more = refl
    apart false later one more = refl

-- what stands before the lines of a leaf, as the code finds it
pub sharing_is : (shared : Bool) (c : Component) (openers : List Stated)
    → sharing shared c openers ≡ sharing_lines c openers (stated_of is_conflict shared c)
sharing_is shared c openers =
    ap (λ b. cond b (shared_text c ∷ map opened_text openers) []) (sym (sections_any shared c.label c.node.program.sections))
    ∙ by (stated_of is_conflict shared c)
  where
    by : (found : List Stated) → cond (is_any found) (shared_text c ∷ map opened_text openers) [] ≡ sharing_lines c openers found
    by [] = refl
    by (r ∷ found) = refl
