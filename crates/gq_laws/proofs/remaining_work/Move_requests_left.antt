-- Each move of a section asks for no more than what it takes from the requests that are left.
use Rattle.std.proofs.Common.{◌≡◌, ℕ, suc, ◌+◌, ◌-◌, ◌*◌, ◌<◌, ◌≤◌, List, [], ◌∷◌, refl, sym, ap, subst, arith}
use Rattle.std.specs.Prelude.{max, Ok}
use Rattle.gq_model.specs.declared.program.Instruction.{Instruction}
use Rattle.gq_model.specs.declared.section.Section.{Section}
use Rattle.gq_model.specs.machine.Program.{Statements, Done, Do, If, Loop, ◌then◌}
use Rattle.gq_model.specs.machine.World.{Round}
use Rattle.gq_model.specs.rules.Kinds.{AbstractState, Context, inside}
use Rattle.gq_model.specs.rules.Rules.{judged}
use Rattle.gq_model.specs.rules.Flow.{at, chosen_from, flow, state_or}
use Rattle.gq_model.specs.rules.Budgets.{asks, requests}
use Rattle.gq_laws.specs.Current_section_facts.{within, Continues}
use Rattle.gq_laws.specs.Moves.{Moves}
use Rattle.gq_laws.specs.internal.Remaining.{round_requests, left_requests}
use Rattle.gq_laws.proofs.statement_rules.Branch_loop_flow.{flow_append}
use Rattle.gq_laws.proofs.remaining_work.Section_move_cases.{chosen_is, do_ok, arms_ok, ended_ok, by_move}
use Rattle.gq_laws.proofs.remaining_work.Move_step_count.{HasRound, one_more}
use Rattle.gq_model.proofs.Rules_laws.{loop_ok}

-- LISTS OF STATEMENTS

-- the requests of two lists, one after the other
pub requests_append : (service : List ℕ) (section : Section) (c : Context) (s t : AbstractState) (a b : Statements) → flow c s a ≡ Ok t
    → requests service section c s (a then b) ≡ requests service section c s a + requests service section c t b
requests_append service section c s t Done b e = let same : requests service section c s b ≡ requests service section c t b =
    ap (λ u. requests service section c (state_or s u) b) e in omega (arith, same)
requests_append service section c s t (Do i rest) b e =
    let d = do_ok c s i rest t e in
    let ih = requests_append service section c (state_or s (at 1 (judged c s i))) t rest b d.1 in
    omega (arith, ih)
requests_append service section c s t (If arm other rest) b e =
    let u : AbstractState = record s { bounds = [] } in
    let a = arms_ok c s arm other rest t e in
    let v = state_or u (flow c u arm) in
    let same : a.1.0 ≡ v = ap (state_or u) (sym a.1.1) in
    let ih = requests_append service section c v t rest b (subst (λ w. flow c w rest ≡ Ok t) same a.1.3) in
    omega (arith, ih)
requests_append service section c s t (Loop n body rest) b e =
    let l = loop_ok c s n body rest t e in
    let ih = requests_append service section c s t rest b l.2 in
    omega (arith, ih)

-- WHAT IS LEFT

-- where no loop is entered, what is left is the list
pub requests_start : (service : List ℕ) (section : Section) (c : Context) (s : AbstractState) (body : Statements) → c.counts ≡ []
    → left_requests service section c s body [] ≡ requests service section c s body
requests_start service section c s body e =
    let same : requests service section (within c []) s body ≡ requests service section c s body =
    (λ j. requests service section (record c { counts = sym e j }) s body) in
    omega (arith, same)

-- the rounds around start where the statements end
left_is : (service : List ℕ) (section : Section) (c : Context) (s u : AbstractState) (todo : Statements) (loops : List Round) → flow (within c loops) s todo ≡
    Ok u
    → left_requests service section c s todo loops ≡ requests service section (within c loops) s todo + round_requests service section c u loops
left_is service section c s u todo loops e =
    ap (λ r. requests service section (within c loops) s todo + round_requests service section c (state_or s r) loops) e

-- those of the rounds left, of what comes after them, and of the rounds around
rounds_are : (service : List ℕ) (section : Section) (c : Context) (u v : AbstractState) (r : Round) (loops : List Round) → flow (within c loops) u r.rest ≡ Ok v
    → round_requests service section c u (r ∷ loops)
    ≡ (r.count - suc r.round) * requests service section (within c (r ∷ loops)) u r.body + requests service section
    (within c loops) u r.rest + round_requests service section c v loops
rounds_are service section c u v r loops e =
    ap (λ t. (r.count - suc r.round) * requests service section (within c (r ∷ loops)) u r.body + requests service section
    (within c loops) u r.rest + round_requests service section c (state_or u t) loops) e

-- MOVES

-- an instruction's requests are among those left before it
pub requests_does : (service : List ℕ) (section : Section) (c : Context) (s t end : AbstractState) (i : Instruction) (rest : Statements) (loops : List Round)
    → Continues c s (Do i rest) loops end → judged (within c loops) s i ≡ Ok t
    → asks service section (within c loops) s i + left_requests service section c t rest loops ≤ left_requests service section c s (Do i rest) loops
requests_does service section c s t end i rest loops h e =
    let d = do_ok (within c loops) s i rest h.0 h.1 in
    let same : state_or s (at 1 (judged (within c loops) s i)) ≡ t = ap (λ r. state_or s (at 1 r)) e in
    let new = left_is service section c t h.0 rest loops (subst (λ u. flow (within c loops) u rest ≡ Ok h.0) same d.1) in
    let old = left_is service section c s h.0 (Do i rest) loops h.1 in
    let further : requests service section (within c loops) (state_or s (at 1 (judged (within c loops) s i))) rest
    ≡ requests service section (within c loops) t rest = ap (λ u. requests service section (within c loops) u rest) same in
    omega (arith, new, old, further)

-- the requests of an `if`
arms_are : (service : List ℕ) (section : Section) (c : Context) (s v : AbstractState) (arm other rest : Statements) → flow c (record s { bounds = [] }) arm ≡
    Ok v
    → requests service section c s (If arm other rest) ≡ max (requests service section c (record s { bounds = [] }) arm)
    (requests service section c (record s { bounds = [] }) other) + requests service section c v rest
arms_are service section c s v arm other rest e =
    let u : AbstractState = record s { bounds = [] } in
    ap (λ r. max (requests service section c u arm) (requests service section c u other) + requests service section c (state_or u r) rest) e

-- either arm, followed by the rest
chooses : (service : List ℕ) (section : Section) (c : Context) (s t end : AbstractState) (arm other rest taken : Statements) (loops : List Round) → chosen_from
    s ≡ Ok t
    → Continues c s (If arm other rest) loops end
    → ((v : AbstractState) → flow (within c loops) (record s { bounds = [] }) arm ≡ Ok v → flow (within c loops) (record s { bounds = [] }) other ≡ Ok v
    → flow (within c loops) (record s { bounds = [] }) taken ≡ Ok v)
    → requests service section (within c loops) (record s { bounds = [] }) taken
    ≤ max (requests service section (within c loops) (record s { bounds = [] }) arm)
    (requests service section (within c loops) (record s { bounds = [] }) other)
    → left_requests service section c t (taken then rest) loops ≤ left_requests service section c s (If arm other rest) loops
chooses service section c s t end arm other rest taken loops from h reaches most =
    let u : AbstractState = record s { bounds = [] } in
    let a = arms_ok (within c loops) s arm other rest h.0 h.1 in
    let v = a.1.0 in
    let there = reaches v a.1.1 a.1.2 in
    let old = left_is service section c s h.0 (If arm other rest) loops h.1 in
    let inner = arms_are service section (within c loops) s v arm other rest a.1.1 in
    let joined = requests_append service section (within c loops) u v taken rest there in
    let new = left_is service section c u h.0 (taken then rest) loops (flow_append (within c loops) u taken rest v h.0 there a.1.3) in
    let same : left_requests service section c t (taken then rest) loops ≡ left_requests service section c u (taken then rest) loops =
    ap (λ x. left_requests service section c x (taken then rest) loops) (chosen_is s t from) in
    omega (arith, most, old, inner, joined, new, same)

enters : (service : List ℕ) (section : Section) (c : Context) (s end : AbstractState) (n : ℕ) (body rest : Statements) (loops : List Round) → 0 < n
    → Continues c s (Loop n body rest) loops end
    → left_requests service section c s body (record { round = 0; count = n; body = body; rest = rest } ∷ loops)
    ≤ left_requests service section c s (Loop n body rest) loops
enters service section c s end n body rest loops positive h =
    let r : Round = record { round = 0; count = n; body = body; rest = rest } in
    let l = loop_ok (within c loops) s n body rest h.0 h.1 in
    let old = left_is service section c s h.0 (Loop n body rest) loops h.1 in
    let new = left_is service section c s s body (r ∷ loops) l.1 in
    let around = rounds_are service section c s h.0 r loops l.2 in
    let first = one_more (n - 1) n (requests service section (inside (within c loops) n) s body) (omega (arith, positive)) in
    omega (arith, old, new, around, first)

repeats : (service : List ℕ) (section : Section) (c : Context) (s end : AbstractState) (r : Round) (outer : List Round) → suc r.round < r.count
    → Continues c s Done (r ∷ outer) end
    → left_requests service section c s r.body (record r { round = suc r.round } ∷ outer) ≤ left_requests service section c s Done (r ∷ outer)
repeats service section c s end r outer again h =
    let a = ended_ok c s end r outer h in
    let new = left_is service section c s s r.body (record r { round = suc r.round } ∷ outer) a.0 in
    let before = left_is service section c s s Done (r ∷ outer) refl in
    let old = rounds_are service section c s a.1.0 r outer a.1.1 in
    let around = rounds_are service section c s a.1.0 (record r { round = suc r.round }) outer a.1.1 in
    let first = one_more (r.count - suc (suc r.round)) (r.count - suc r.round) (requests service section (within c (r ∷ outer)) s r.body)
    (omega (arith, again)) in
    omega (arith, new, before, old, around, first)

leaves : (service : List ℕ) (section : Section) (c : Context) (s end : AbstractState) (r : Round) (outer : List Round) → Continues c s Done (r ∷ outer) end
    → left_requests service section c s r.rest outer ≤ left_requests service section c s Done (r ∷ outer)
leaves service section c s end r outer h =
    let a = ended_ok c s end r outer h in
    let new = left_is service section c s a.1.0 r.rest outer a.1.1 in
    let before = left_is service section c s s Done (r ∷ outer) refl in
    let old = rounds_are service section c s a.1.0 r outer a.1.1 in
    omega (arith, new, before, old)

Fewer : (service : List ℕ) (section : Section) (c : Context) (end : AbstractState) → AbstractState → Statements → List Round → AbstractState → Statements →
    List Round → Type 0
Fewer service section c end s todo loops t left around = HasRound todo → Continues c s todo loops end
    → left_requests service section c t left around ≤ left_requests service section c s todo loops

-- a move leaves no more requests than before it
pub requests_moves : (service : List ℕ) (section : Section) (c : Context) (s t end : AbstractState) (todo left : Statements) (loops around : List Round) →
    HasRound todo
    → Continues c s todo loops end → Moves c s todo loops t left around
    → left_requests service section c t left around ≤ left_requests service section c s todo loops
unfolding Fewer
requests_moves service section c s t end todo left loops around has h m =
    by_move c (Fewer service section c end)
    (λ s t i rest loops e p g. let most = requests_does service section c s t end i rest loops g e in omega (arith, most))
    (λ s t arm other rest loops from p g. chooses service section c s t end arm other rest arm loops from g (λ v e o. e) (omega arith))
    (λ s t arm other rest loops from p g. chooses service section c s t end arm other rest other loops from g (λ v e o. o) (omega arith))
    (λ s n body rest loops p g. enters service section c s end n body rest loops (p n body rest refl) g)
    (λ s r outer again p g. repeats service section c s end r outer again g)
    (λ s r outer p g. leaves service section c s end r outer g)
    s t todo left loops around m has h
