-- Each move of a section is one of the steps that it has left.
use Rattle.std.proofs.Common.{◌≡◌, ℕ, suc, ◌+◌, ◌-◌, ◌*◌, ◌<◌, ◌≤◌, List, refl, ap, ◌∙◌, subst, arith}
use Rattle.gq_model.specs.declared.program.Instruction.{Instruction}
use Rattle.gq_model.specs.machine.Program.{Statements, Loop}
use Rattle.gq_model.specs.machine.World.{Round}
use Rattle.gq_model.specs.rules.Kinds.{AbstractState, Context}
use Rattle.gq_model.specs.rules.Budgets.{cost}
use Rattle.gq_laws.specs.internal.Section_counts.{rounds_cost}
use Rattle.gq_laws.specs.internal.Remaining_instructions.{AllAre}
use Rattle.gq_laws.specs.Moves.{Moves}
use Rattle.gq_laws.proofs.remaining_work.Section_move_cases.{by_move}
use Rattle.gq_model.proofs.Sums_laws.{cost_then}

-- a loop that is next has a round
abbrev pub HasRound : Statements → Type 0
HasRound todo = (n : ℕ) (body rest : Statements) → todo ≡ Loop n body rest → 0 < n

-- so it is where each loop has one
pub all_have_round : (P : Instruction → Type 0) (todo : Statements) → AllAre P todo → HasRound todo
all_have_round P todo h n body rest is = let a : AllAre P (Loop n body rest) = subst (AllAre P) is h in a.0

-- one more of a size
pub one_more : (m n x : ℕ) → n ≡ suc m → n * x ≡ x + m * x
one_more m n x e = ap (λ i. i * x) e ∙ omega arith

Costs : AbstractState → Statements → List Round → AbstractState → Statements → List Round → Type 0
Costs s todo loops t left around = HasRound todo → cost left + rounds_cost around + 1 ≤ cost todo + rounds_cost loops

-- a move is a step
pub cost_move : (c : Context) (s t : AbstractState) (todo left : Statements) (loops around : List Round) → HasRound todo → Moves c s todo loops t left around
    → cost left + rounds_cost around + 1 ≤ cost todo + rounds_cost loops
unfolding Costs
cost_move c s t todo left loops around positive m =
    by_move c Costs
    (λ s t i rest loops e has. omega arith)
    (λ s t arm other rest loops e has. omega (arith, cost_then arm rest))
    (λ s t arm other rest loops e has. omega (arith, cost_then other rest))
    (λ s n body rest loops has. omega (arith, one_more (n - 1) n (1 + cost body) (let more = has n body rest refl in omega (arith, more))))
    (λ s r outer again has. omega (arith, again, one_more (r.count - suc (suc r.round)) (r.count - suc r.round) (1 + cost r.body) (omega (arith, again))))
    (λ s r outer has. omega arith)
    s t todo left loops around m positive
