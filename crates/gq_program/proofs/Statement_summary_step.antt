-- What is noted of one statement more.
use Rattle.std.proofs.Common.{◌≡◌, ℕ, zero, suc, arith, ◌+◌, ◌*◌, ◌-◌, ◌^◌, min, Bool, true, false, ◌&&◌, List, [], ◌∷◌, ◌++◌, length, refl, ap, sym, ◌∙◌}
use Rattle.std.specs.Prelude.{Result, Ok, Err, OnOk}
use Rattle.gq_model.specs.rules.Budgets.{cost}
use Rattle.gq_program.specs.Statement_trees.{tree_of}
use Rattle.gq_program.specs.Notes.{asks_nothing, is_quiet, keeps_slots, is_still}
use Rattle.gq_program.specs.internal.Listed_statements.{further, AreNotes}
use Rattle.gq_program.specs.declared.notes.StatementSummary.{StatementSummary}
use Rattle.gq_program.specs.declared.program_tree.Statement.{Statement}
use Rattle.gq_program.specs.declared.program_tree.Statement.TheVariants.{Plain, If, Loop}

and_assoc : (a b c : Bool) → (a && (b && c)) ≡ ((a && b) && c)
and_assoc true b c = refl
and_assoc false b c = refl

pub further_append : (items : List Statement) (s : Statement) → further (items ++ s ∷ []) ≡ further items + further (s ∷ [])
further_append [] s = omega arith
further_append (Plain i ∷ rest) s = further_append rest s
further_append (If arm other ∷ rest) s = omega (arith, further_append rest s)
further_append (Loop n body ∷ rest) s = omega (arith, further_append rest s)

pub quiet_append : (items : List Statement) (s : Statement) →
    is_quiet (tree_of (items ++ s ∷ [])) ≡ (is_quiet (tree_of items) && is_quiet (tree_of (s ∷ [])))
quiet_append [] s = refl
quiet_append (Plain i ∷ rest) s =
    ap (λ b. asks_nothing i && b) (quiet_append rest s) ∙ and_assoc (asks_nothing i) (is_quiet (tree_of rest)) (is_quiet (tree_of (s ∷ [])))
quiet_append (If arm other ∷ rest) s =
    ap (λ b. is_quiet arm && is_quiet other && b) (quiet_append rest s)
    ∙ and_assoc (is_quiet arm && is_quiet other) (is_quiet (tree_of rest)) (is_quiet (tree_of (s ∷ [])))
quiet_append (Loop n body ∷ rest) s =
    ap (λ b. is_quiet body && b) (quiet_append rest s) ∙ and_assoc (is_quiet body) (is_quiet (tree_of rest)) (is_quiet (tree_of (s ∷ [])))

pub still_append : (items : List Statement) (s : Statement) →
    is_still (tree_of (items ++ s ∷ [])) ≡ (is_still (tree_of items) && is_still (tree_of (s ∷ [])))
still_append [] s = refl
still_append (Plain i ∷ rest) s =
    ap (λ b. keeps_slots i && b) (still_append rest s) ∙ and_assoc (keeps_slots i) (is_still (tree_of rest)) (is_still (tree_of (s ∷ [])))
still_append (If arm other ∷ rest) s =
    ap (λ b. is_still arm && is_still other && b) (still_append rest s)
    ∙ and_assoc (is_still arm && is_still other) (is_still (tree_of rest)) (is_still (tree_of (s ∷ [])))
still_append (Loop n body ∷ rest) s =
    ap (λ b. is_still body && b) (still_append rest s) ∙ and_assoc (is_still body) (is_still (tree_of rest)) (is_still (tree_of (s ∷ [])))

-- one step for each statement, and those of the blocks
pub cost_parts : (items : List Statement) → cost (tree_of items) ≡ length items + further items
cost_parts [] = refl
cost_parts (Plain i ∷ rest) = omega (arith, cost_parts rest)
cost_parts (If arm other ∷ rest) = omega (arith, cost_parts rest)
cost_parts (Loop n body ∷ rest) = omega (arith, cost_parts rest)

-- a product of a number that is kept as far as it goes
pub times : (m n c : ℕ) → min (min c m * n) m ≡ min (c * n) m
times m zero c = grind arith
times m (suc n) c = grind arith

-- the rounds of a loop, each with a step before it
pub rounds : (m n c kept round product : ℕ) → kept ≡ min c m → round ≡ min (kept + 1) m → product ≡ min (round * n) m → product ≡ min (n * (1 + c)) m
rounds m n c kept round product a b p =
    let r : round ≡ min (c + 1) m = omega (arith, a, b) in
    p ∙ (ap (λ r. min (r * n) m) r ∙ (times m n (c + 1) ∙ ap (λ k. min k m) (turned c n))) where
      turned : (c n : ℕ) → (c + 1) * n ≡ n * (1 + c)
      turned c n = omega arith

and_true : (b : Bool) → b ≡ (b && true)
and_true true = refl
and_true false = refl

-- of one instruction, or of one body
pub of_one : (a r : Bool) → r ≡ a → r ≡ (a && true)
of_one a r e = e ∙ and_true a

-- of both arms
pub of_two : (a b x y r : Bool) → x ≡ a → y ≡ b → r ≡ (x && y) → r ≡ (a && b && true)
of_two a b x y r p q e = e ∙ (ap (λ x. x && y) p ∙ (ap (λ y. a && y) q ∙ and_true (a && b)))

-- one statement more
pub noted : (items : List Statement) (s : Statement) (old new : StatementSummary) (quiet still : Bool) → AreNotes old items →
    new.further ≡ min (further items + further (s ∷ [])) (2 ^ 64 - 1) →
    new.is_quiet ≡ (old.is_quiet && quiet) → quiet ≡ is_quiet (tree_of (s ∷ [])) →
    new.is_still ≡ (old.is_still && still) → still ≡ is_still (tree_of (s ∷ [])) → AreNotes new (items ++ s ∷ [])
noted items s old new quiet still h f q qs t ts = record {
  further = f ∙ ap (λ n. min n (2 ^ 64 - 1)) (sym (further_append items s));
  quiet = q ∙ (ap (λ b. b && quiet) h.quiet ∙ (ap (λ b. is_quiet (tree_of items) && b) qs ∙ sym (quiet_append items s)));
  still = t ∙ (ap (λ b. b && still) h.still ∙ (ap (λ b. is_still (tree_of items) && b) ts ∙ sym (still_append items s)));
}

-- the steps of a list whose notes are these
pub noted_cost : (items : List Statement) (notes : StatementSummary) (count sum : ℕ) → AreNotes notes items → count ≡ length items →
    sum ≡ min (count + notes.further) (2 ^ 64 - 1) → sum ≡ min (cost (tree_of items)) (2 ^ 64 - 1)
noted_cost items notes count sum h c e = omega (arith, h.further, cost_parts items, c, e)

-- what follows from what holds where the answer is `Ok`
pub on_ok : {X E : Type 0} (r : Result X E) (P Q : Type 0) → (P → Q) → OnOk r P → OnOk r Q
on_ok (Ok x) P Q f p = f p
on_ok (Err e) P Q f p = tt
