-- The code of statements, one after the other.
use Rattle.std.proofs.Common.{◌≡◌, ◌<◌, ℕ, ◌+◌, ◌-◌, Bool, true, false, ◌&&◌, List, [], ◌∷◌, drop, length, get_or, refl}
use Rattle.std.proofs.Common.{subst, IsTrue}
use Rattle.std.specs.Prelude.{nat_lt}
use Rattle.gq_model.specs.machine.Lists.{all_of, between}
use Rattle.gq_model.specs.machine.Program.{Statements}
use Rattle.gq_model.specs.machine.Program as program
use Rattle.gq_model.specs.texts.Operands.{operands, in_range}
use Rattle.gq_model.specs.texts.Code.{is_body}
use Rattle.gq_program.specs.Statement_trees.{tree_of}
use Rattle.gq_program.proofs.Statement_list_sizes.{here_is}
use Rattle.gq_code.specs.Codes.{has_code}
use Rattle.gq_program.specs.declared.program_tree.Statement.{Statement}
use Rattle.gq_program.specs.declared.program_tree.Statement.TheVariants.{Plain, If, Loop}

pub parts : (a b : Bool) → IsTrue (a && b) → IsTrue a × IsTrue b
parts true b h = (refl, h)
parts false b h = cc

pub both : (a b : Bool) → IsTrue a → IsTrue b → IsTrue (a && b)
both true b h k = k
both false b h k = cc

-- where a list has a code, so has its first statement, and so have those after it
first_has : (s : Statement) (rest : List Statement) → IsTrue (has_code (tree_of (s ∷ rest))) →
    IsTrue (has_code (tree_of (s ∷ []))) × IsTrue (has_code (tree_of rest))
first_has (Plain i) rest h =
    let p = parts (all_of in_range (operands i)) (has_code (tree_of rest)) h in
    (both (all_of in_range (operands i)) true p.0 refl, p.1)
first_has (If arm other) rest h =
    let p = parts (has_code arm && has_code other) (has_code (tree_of rest)) h in
    (both (has_code arm && has_code other) true p.0 refl, p.1)
first_has (Loop count body) rest h =
    let p = parts (has_code body) (has_code (tree_of rest)) h in
    (both (has_code body) true p.0 refl, p.1)

-- it has a code
pub has_here : (items : List Statement) (i : ℕ) (s : Statement) → i < length items → s ≡ get_or items i s → IsTrue (has_code (tree_of (drop i items))) →
    IsTrue (has_code (tree_of (s ∷ [])))
has_here items i s less e h = (first_has s (drop (i + 1) items) (subst (λ l. IsTrue (has_code (tree_of l))) (here_is items i s less e) h)).0

-- whatever the depth, a body has a code
pub body_has : (n : ℕ) (b : Statements) → IsTrue (is_body n b) → IsTrue (has_code b)
body_has n program.Done h = refl
body_has n (program.Do i rest) h =
    let p = parts (all_of in_range (operands i)) (is_body n rest) h in both (all_of in_range (operands i)) (has_code rest) p.0 (body_has n rest p.1)
body_has n (program.If arm other rest) h =
    let p = parts (nat_lt 0 n && is_body (n - 1) arm && is_body (n - 1) other) (is_body n rest) h in
    let q = parts (nat_lt 0 n && is_body (n - 1) arm) (is_body (n - 1) other) p.0 in
    let a = parts (nat_lt 0 n) (is_body (n - 1) arm) q.0 in
    both (has_code arm && has_code other) (has_code rest) (both (has_code arm) (has_code other) (body_has (n - 1) arm a.1) (body_has (n - 1) other q.1))
    (body_has n rest p.1)
body_has n (program.Loop count body rest) h =
    let p = parts (nat_lt 0 n && between 1 65535 count && is_body (n - 1) body) (is_body n rest) h in
    let q = parts (nat_lt 0 n && between 1 65535 count) (is_body (n - 1) body) p.0 in
    both (has_code body) (has_code rest) (body_has (n - 1) body q.1) (body_has n rest p.1)
