-- The moves of a section case by case, and what the rules say of each kind of statement that they let pass.
use Rattle.std.proofs.Common.{◌≡◌, ℕ, suc, ◌<◌, inl, inr, List, [], ◌∷◌, sym, ap, ◌∙◌, subst}
use Rattle.std.specs.Prelude.{Ok}
use Rattle.std.proofs.Math.Path.{transport}
use Rattle.gq_model.specs.declared.program.Instruction.{Instruction}
use Rattle.gq_model.specs.machine.Program.{Statements, Done, Do, If, Loop, ◌then◌}
use Rattle.gq_model.specs.machine.World.{Round}
use Rattle.gq_model.specs.rules.Kinds.{AbstractState, Context, inside}
use Rattle.gq_model.specs.rules.Rules.{top, judged}
use Rattle.gq_model.specs.rules.Flow.{at, later, none_left, chosen_from, flow, state_or}
use Rattle.gq_laws.specs.Current_section_facts.{within, After, Continues}
use Rattle.gq_laws.specs.Moves.{Moves, Does, Chooses, Enters, Repeats, Leaves}
use Rattle.gq_model.proofs.Rules_laws.{then_ok, at_ok, later_ok, none_left_ok, if_parts}

-- FLOWS

-- the condition of an `if` is the only operand
pub chosen_is : (s t : AbstractState) → chosen_from s ≡ Ok t → t ≡ record s { bounds = [] }
chosen_is s t e = by s.bounds e
  where
    by : (bounds : List ℕ) → top bounds (λ a rest. none_left (record s { bounds = rest })) ≡ Ok t → t ≡ record s { bounds = [] }
    by [] e = cc
    by (a ∷ rest) e = let n = none_left_ok (record s { bounds = rest }) t e in n.1 ∙ ap (λ (b : List ℕ). record s { bounds = b }) n.0

-- what the rules say of an instruction that they let pass
pub do_ok : (c : Context) (s : AbstractState) (i : Instruction) (rest : Statements) (u : AbstractState) → flow c s (Do i rest) ≡ Ok u
    → (judged c s i ≡ Ok (state_or s (at 1 (judged c s i)))) × (flow c (state_or s (at 1 (judged c s i))) rest ≡ Ok u)
do_ok c s i rest u e =
    let a = then_ok (at 1 (judged c s i)) (λ t. later 1 (flow c t rest)) u e in
    let same : a.0 ≡ state_or s (at 1 (judged c s i)) = ap (state_or s) (sym a.1) in
    (at_ok 1 (judged c s i) a.0 a.1 ∙ ap Ok same, subst (λ t. flow c t rest ≡ Ok u) same (later_ok 1 (flow c a.0 rest) u a.2))

-- both arms of an `if` start without the condition and end in the same state, from which the rest goes on
pub arms_ok : (c : Context) (s : AbstractState) (arm other rest : Statements) (u : AbstractState) → flow c s (If arm other rest) ≡ Ok u
    → (chosen_from s ≡ Ok (record s { bounds = [] }))
    × ((v : AbstractState) × (flow c (record s { bounds = [] }) arm ≡ Ok v) × (flow c (record s { bounds = [] }) other ≡ Ok v) × (flow c v rest ≡ Ok u))
arms_ok c s arm other rest u e =
    let p = if_parts c s arm other rest u e in
    let same = chosen_is s p.0 p.2 in
    (p.2 ∙ ap Ok same, (p.1, subst (λ t. flow c t arm ≡ Ok p.1) same p.3, subst (λ t. flow c t other ≡ Ok p.1) same p.4, p.5))

-- where a body has ended, the next round leads back to the same state, and the rest goes on from it
pub ended_ok : (c : Context) (s end : AbstractState) (r : Round) (outer : List Round) → Continues c s Done (r ∷ outer) end
    → (flow (within c (r ∷ outer)) s r.body ≡ Ok s) × ((v : AbstractState) × (flow (within c outer) s r.rest ≡ Ok v))
ended_ok c s end r outer h =
    let a : After c (r ∷ outer) s end = subst (λ u. After c (r ∷ outer) u end) (ap (state_or s) (sym h.1)) h.2 in (a.2, (a.3.0, a.3.1))

-- MOVES

-- what holds of each kind of move holds of every move
pub by_move : (c : Context) (M : AbstractState → Statements → List Round → AbstractState → Statements → List Round → Type 0)
    → ((s t : AbstractState) (i : Instruction) (rest : Statements) (loops : List Round) → judged (within c loops) s i ≡ Ok t → M s (Do i rest) loops t rest
    loops)
    → ((s t : AbstractState) (arm other rest : Statements) (loops : List Round) → chosen_from s ≡ Ok t → M s (If arm other rest) loops t (arm then rest) loops)
    → ((s t : AbstractState) (arm other rest : Statements) (loops : List Round) → chosen_from s ≡ Ok t → M s (If arm other rest) loops t (other then rest)
    loops)
    → ((s : AbstractState) (n : ℕ) (body rest : Statements) (loops : List Round)
    → M s (Loop n body rest) loops s body (record { round = 0; count = n; body = body; rest = rest } ∷ loops))
    → ((s : AbstractState) (r : Round) (outer : List Round) → suc r.round < r.count → M s Done (r ∷ outer) s r.body (record r { round = suc r.round } ∷ outer))
    → ((s : AbstractState) (r : Round) (outer : List Round) → M s Done (r ∷ outer) s r.rest outer)
    → (s t : AbstractState) (todo left : Statements) (loops around : List Round) → Moves c s todo loops t left around → M s todo loops t left around
by_move c M does first second enters repeats leaves s t todo left loops around (Does i rest is judges goes_on same) =
    transport (λ j. M s (sym is j) loops t (sym goes_on j) (sym same j)) (does s t i rest loops judges)
by_move c M does first second enters repeats leaves s t todo left loops around (Chooses arm other rest is from (inl goes_on) same) =
    transport (λ j. M s (sym is j) loops t (sym goes_on j) (sym same j)) (first s t arm other rest loops from)
by_move c M does first second enters repeats leaves s t todo left loops around (Chooses arm other rest is from (inr goes_on) same) =
    transport (λ j. M s (sym is j) loops t (sym goes_on j) (sym same j)) (second s t arm other rest loops from)
by_move c M does first second enters repeats leaves s t todo left loops around (Enters n body rest is stays goes_on more) =
    transport (λ j. M s (sym is j) loops (sym stays j) (sym goes_on j) (sym more j)) (enters s n body rest loops)
by_move c M does first second enters repeats leaves s t todo left loops around (Repeats r outer is inside stays again goes_on more) =
    transport (λ j. M s (sym is j) (sym inside j) (sym stays j) (sym goes_on j) (sym more j)) (repeats s r outer again)
by_move c M does first second enters repeats leaves s t todo left loops around (Leaves r outer is inside stays goes_on out) =
    transport (λ j. M s (sym is j) (sym inside j) (sym stays j) (sym goes_on j) (sym out j)) (leaves s r outer)
