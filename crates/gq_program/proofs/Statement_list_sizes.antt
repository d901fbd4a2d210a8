-- A statement is no larger than the list that it stands in.
use Rattle.std.proofs.Common.{◌≡◌, ◌<◌, ◌≤◌, ℕ, zero, suc, arith, ◌+◌, List, [], ◌∷◌, ◌++◌, drop, length, get_or, ap, sym, subst, ◌∙◌, add-one}
use Rattle.std.proofs.Math.Seq.{drop-cons}
use Rattle.gq_model.specs.machine.Program.{size}
use Rattle.gq_program.specs.Statement_trees.{tree_of}
use Rattle.gq_program.specs.declared.program_tree.Statement.{Statement}
use Rattle.gq_program.specs.declared.program_tree.Statement.TheVariants.{Plain, If, Loop}

-- the statement that stands there comes next
pub here_is : (items : List Statement) (i : ℕ) (s : Statement) → i < length items → s ≡ get_or items i s → drop i items ≡ s ∷ drop (i + 1) items
here_is items i s less e = drop-cons items i s less ∙ (ap (λ h. h ∷ drop (suc i) items) (sym e) ∙ ap (λ n. s ∷ drop n items) (sym (add-one i)))

pub size_first : (s : Statement) (rest : List Statement) → size (tree_of (s ∷ rest)) ≡ size (tree_of (s ∷ [])) + size (tree_of rest)
size_first (Plain i) rest = omega arith
size_first (If arm other) rest = omega arith
size_first (Loop count body) rest = omega arith

-- the last statement and those before it
pub size_last : (items : List Statement) (s : Statement) → size (tree_of (items ++ s ∷ [])) ≡ size (tree_of items) + size (tree_of (s ∷ []))
size_last [] s = omega arith
size_last (t ∷ items) s =
    let all = size_first t (items ++ s ∷ []) in let prefix = size_first t items in let last = size_last items s in omega (arith, all, prefix, last)

size_drop : (items : List Statement) (i : ℕ) → size (tree_of (drop i items)) ≤ size (tree_of items)
size_drop items zero = omega arith
size_drop [] (suc i) = omega arith
size_drop (s ∷ items) (suc i) = let h = size_drop items i in let k = size_first s items in omega (arith, h, k)

pub size_here : (items : List Statement) (i : ℕ) (s : Statement) → i < length items → s ≡ get_or items i s → size (tree_of (s ∷ [])) ≤ size (tree_of items)
size_here items i s less e =
    let h = size_first s (drop (i + 1) items) in
    let k = subst (λ l. size (tree_of l) ≤ size (tree_of items)) (here_is items i s less e) (size_drop items i) in omega (arith, h, k)
