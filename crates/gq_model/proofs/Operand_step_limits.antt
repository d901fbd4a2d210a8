-- What a statement on operands alone leaves: as many locals as there were, and at most 16 operands.
use Rattle.std.proofs.Common.{◌≡◌, ℕ, ◌≤◌, nat_lt, Bool, true, false, cond, List, [], ◌∷◌, length, length-set, Option, Some, None, refl, ap, subst, arith}
use Rattle.std.proofs.lemmas.Bool.{ltb-true}
use Rattle.gq_model.specs.machine.Program.{Drop, Set, OperandStatement, Plain, Numbered}
use Rattle.gq_model.specs.machine.Operate.{Bench, Operated, left, popped, raised, raised_if, operate}

-- P of what is left, where no operand is missing
pub record Leaves (P : Operated → Type 0) (r : Option Operated) : Type 0 where
  pub holds : (o : Operated) → r ≡ Some o → P o

none_leaves : {P : Operated → Type 0} → Leaves P None
none_leaves = record { holds = λ o e. cc }

abbrev left_or : Operated → Option Operated → Operated
left_or o None = o
left_or o (Some p) = p

left_leaves : {P : Operated → Type 0} (operands locals : List ℕ) → P (record { operands = operands; locals = locals }) → Leaves P (left operands locals)
left_leaves {P} operands locals h = record { holds = λ o e. subst P (ap (left_or o) e) h }

popped_leaves : {P : Operated → Type 0} (operands : List ℕ) (go : ℕ → List ℕ → Option Operated) → ((a : ℕ) (rest : List ℕ) → Leaves P (go a rest))
    → Leaves P (popped operands go)
popped_leaves [] go h = none_leaves
popped_leaves (a ∷ rest) go h = h a rest

raised_leaves : {P : Operated → Type 0} (a : ℕ) (operands locals : List ℕ)
    → (length operands ≤ 15 → P (record { operands = a ∷ operands; locals = locals })) → Leaves P (raised a operands locals)
raised_leaves {P} a operands locals h = by (nat_lt (length operands) 16) (λ less. let l = ltb-true (length operands) 16 less in h (omega (arith, l)))
  where
    by : (b : Bool) → (b ≡ true → P (record { operands = a ∷ operands; locals = locals }))
        → Leaves P (cond b (left (a ∷ operands) locals) None)
    by true h = left_leaves (a ∷ operands) locals (h refl)
    by false h = none_leaves

raised_if_leaves : {P : Operated → Type 0} (r : Option ℕ) (operands locals : List ℕ) → ((a : ℕ) → Leaves P (raised a operands locals))
    → Leaves P (raised_if r operands locals)
raised_if_leaves None operands locals h = none_leaves
raised_if_leaves (Some a) operands locals h = h a

-- as many locals as there were
pub locals_left : (b : Bench) (s : OperandStatement) → Leaves (λ o. length o.locals ≡ length b.locals) (operate b s)
locals_left b (Plain Drop) = popped_leaves b.operands _ (λ a rest. left_leaves rest b.locals refl)
locals_left b (Numbered Set n) = popped_leaves b.operands _ (λ a rest. left_leaves rest _ (length-set b.locals n a))
locals_left b s = search (popped_leaves, left_leaves, raised_leaves, raised_if_leaves, refl) depth 8

-- P of what is left below the top operand
popped_few : {P : Operated → Type 0} (operands : List ℕ) (go : ℕ → List ℕ → Option Operated) → length operands ≤ 16
    → ((a : ℕ) (rest : List ℕ) → length rest ≤ 15 → Leaves P (go a rest)) → Leaves P (popped operands go)
popped_few [] go few h = none_leaves
popped_few (a ∷ rest) go few h = h a rest (omega (arith, few))

one_more : (a : ℕ) (operands : List ℕ) → length operands ≤ 15 → length (a ∷ operands) ≤ 16
one_more a operands few = omega (arith, few)

no_more : (operands : List ℕ) → length operands ≤ 15 → length operands ≤ 16
no_more operands few = omega (arith, few)

-- at most 16 operands
pub operands_left : (b : Bench) (s : OperandStatement) → length b.operands ≤ 16 → Leaves (λ o. length o.operands ≤ 16) (operate b s)
operands_left b (Plain Drop) few = popped_few b.operands _ few (λ a rest less. left_leaves rest b.locals (no_more rest less))
operands_left b (Numbered Set n) few = popped_few b.operands _ few (λ a rest less. left_leaves rest _ (no_more rest less))
operands_left b s few = search (popped_few, left_leaves, raised_leaves, raised_if_leaves, one_more, no_more, few) depth 8
