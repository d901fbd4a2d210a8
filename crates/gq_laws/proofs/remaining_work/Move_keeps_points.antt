-- Each move of a section keeps the states that may still come among those before it: no number is greater at what is left.
use Rattle.std.proofs.Common.{◌≡◌, ℕ, suc, ◌≤◌, List, [], ◌∷◌, ◌++◌, refl, sym, ap, ◌∙◌, subst, arith}
use Rattle.std.specs.Prelude.{max, Ok}
use Rattle.gq_model.specs.machine.Lists.{greatest}
use Rattle.gq_model.specs.declared.program.Instruction.{Instruction}
use Rattle.gq_model.specs.machine.Program.{Statements, Done, Do, If, Loop, ◌then◌}
use Rattle.gq_model.specs.machine.World.{Round}
use Rattle.gq_model.specs.rules.Kinds.{AbstractState, Context, inside}
use Rattle.gq_model.specs.rules.Rules.{judged}
use Rattle.gq_model.specs.rules.Flow.{at, chosen_from, flow, state_or, points}
use Rattle.gq_laws.specs.Current_section_facts.{within, Continues}
use Rattle.gq_laws.specs.Moves.{Moves}
use Rattle.gq_laws.specs.internal.Remaining.{round_points, left_points}
use Rattle.gq_laws.proofs.statement_rules.Branch_loop_flow.{flow_append}
use Rattle.gq_laws.proofs.remaining_work.Section_move_cases.{chosen_is, do_ok, arms_ok, ended_ok, by_move}
use Rattle.gq_model.proofs.Rules_laws.{loop_ok}

-- LISTS OF STATES

pub greatest_append : {A : Type 0} (f : A → ℕ) (xs ys : List A) → greatest f (xs ++ ys) ≡ max (greatest f xs) (greatest f ys)
greatest_append f [] ys = omega arith
greatest_append f (x ∷ xs) ys = let ih = greatest_append f xs ys in omega (arith, ih)

-- a list starts with the state before it
pub point_first : (f : AbstractState → ℕ) (c : Context) (s : AbstractState) (todo : Statements) → f s ≤ greatest f (points c s todo)
point_first f c s Done = omega arith
point_first f c s (Do i rest) = omega arith
point_first f c s (If arm other rest) = omega arith
point_first f c s (Loop n body rest) = omega arith

-- of two lists, one after the other, the first ends where the second starts
pub points_append : (f : AbstractState → ℕ) (c : Context) (s t : AbstractState) (a b : Statements) → flow c s a ≡ Ok t
    → greatest f (points c s (a then b)) ≤ max (greatest f (points c s a)) (greatest f (points c t b))
points_append f c s t Done b e = let same : greatest f (points c s b) ≡ greatest f (points c t b) = ap (λ u. greatest f (points c (state_or s u) b)) e in
    omega (arith, same)
points_append f c s t (Do i rest) b e = let d = do_ok c s i rest t e in let ih = points_append f c (state_or s (at 1 (judged c s i))) t rest b d.1 in
    omega (arith, ih)
points_append f c s t (If arm other rest) b e =
    let u : AbstractState = record s { bounds = [] } in
    let a = arms_ok c s arm other rest t e in
    let v = state_or u (flow c u arm) in
    let same : a.1.0 ≡ v = ap (state_or u) (sym a.1.1) in
    let ih = points_append f c v t rest b (subst (λ w. flow c w rest ≡ Ok t) same a.1.3) in
    let arms = greatest_append f (points c u arm) (points c u other) in
    let whole = greatest_append f (points c u arm ++ points c u other) (points c v (rest then b)) in
    let whole' = greatest_append f (points c u arm ++ points c u other) (points c v rest) in
    omega (arith, ih, arms, whole, whole')
points_append f c s t (Loop n body rest) b e =
    let l = loop_ok c s n body rest t e in
    let ih = points_append f c s t rest b l.2 in
    let whole = greatest_append f (points (inside c n) s body) (points c s (rest then b)) in
    let whole' = greatest_append f (points (inside c n) s body) (points c s rest) in
    omega (arith, ih, whole, whole')

-- WHAT IS LEFT

-- the rounds around start where the statements end
left_is : (f : AbstractState → ℕ) (c : Context) (s u : AbstractState) (todo : Statements) (loops : List Round) → flow (within c loops) s todo ≡ Ok u
    → greatest f (left_points c s todo loops) ≡ max (greatest f (points (within c loops) s todo)) (greatest f (round_points c u loops))
left_is f c s u todo loops e =
    let same : state_or s (flow (within c loops) s todo) ≡ u = ap (state_or s) e in
    greatest_append f (points (within c loops) s todo) (round_points c (state_or s (flow (within c loops) s todo)) loops)
    ∙ ap (λ t. max (greatest f (points (within c loops) s todo)) (greatest f (round_points c t loops))) same

-- those of a round, of what comes after it, and of the rounds around
rounds_are : (f : AbstractState → ℕ) (c : Context) (u v : AbstractState) (r : Round) (loops : List Round) → flow (within c loops) u r.rest ≡ Ok v
    → greatest f (round_points c u (r ∷ loops)) ≡ max (greatest f (points (within c (r ∷ loops)) u r.body))
    (max (greatest f (points (within c loops) u r.rest)) (greatest f (round_points c v loops)))
rounds_are f c u v r loops e =
    let body = points (within c (r ∷ loops)) u r.body in
    let rest = points (within c loops) u r.rest in
    let same : greatest f (round_points c (state_or u (flow (within c loops) u r.rest)) loops) ≡ greatest f (round_points c v loops) =
    ap (λ t. greatest f (round_points c (state_or u t) loops)) e in
    let inner = greatest_append f body rest in
    let whole = greatest_append f (body ++ rest) (round_points c (state_or u (flow (within c loops) u r.rest)) loops) in
    omega (arith, same, inner, whole)

-- where no loop is entered, what is left is the list
pub points_start : (f : AbstractState → ℕ) (c : Context) (s : AbstractState) (body : Statements) → c.counts ≡ []
    → greatest f (left_points c s body []) ≡ greatest f (points c s body)
points_start f c s body e =
    let same : greatest f (points (within c []) s body) ≡ greatest f (points c s body) = (λ j. greatest f (points (record c { counts = sym e j }) s body)) in
    let whole = greatest_append f (points (within c []) s body) [] in
    omega (arith, same, whole)

-- the state itself is the first of what is left
pub point_here : (f : AbstractState → ℕ) (c : Context) (s : AbstractState) (todo : Statements) (loops : List Round) → f s ≤ greatest f
    (left_points c s todo loops)
point_here f c s todo loops =
    let whole = greatest_append f (points (within c loops) s todo) (round_points c (state_or s (flow (within c loops) s todo)) loops) in
    let first = point_first f (within c loops) s todo in
    omega (arith, whole, first)

-- MOVES

does : (f : AbstractState → ℕ) (c : Context) (s t end : AbstractState) (i : Instruction) (rest : Statements) (loops : List Round) → judged (within c loops) s
    i ≡ Ok t
    → Continues c s (Do i rest) loops end → greatest f (left_points c t rest loops) ≤ greatest f (left_points c s (Do i rest) loops)
does f c s t end i rest loops e h =
    let d = do_ok (within c loops) s i rest h.0 h.1 in
    let same : state_or s (at 1 (judged (within c loops) s i)) ≡ t = ap (λ r. state_or s (at 1 r)) e in
    let new = left_is f c t h.0 rest loops (subst (λ u. flow (within c loops) u rest ≡ Ok h.0) same d.1) in
    let old = left_is f c s h.0 (Do i rest) loops h.1 in
    let further : greatest f (points (within c loops) (state_or s (at 1 (judged (within c loops) s i))) rest) ≡ greatest f (points (within c loops) t rest) =
    ap (λ u. greatest f (points (within c loops) u rest)) same in
    omega (arith, new, old, further)

-- the states before an `if` and in it
arms_are : (f : AbstractState → ℕ) (c : Context) (s v : AbstractState) (arm other rest : Statements) → flow c (record s { bounds = [] }) arm ≡ Ok v
    → greatest f (points c s (If arm other rest)) ≡ max (f s)
    (max (greatest f (points c (record s { bounds = [] }) arm))
    (max (greatest f (points c (record s { bounds = [] }) other)) (greatest f (points c v rest))))
arms_are f c s v arm other rest e =
    let u : AbstractState = record s { bounds = [] } in
    let same : greatest f (points c (state_or u (flow c u arm)) rest) ≡ greatest f (points c v rest) = ap (λ r. greatest f (points c (state_or u r) rest)) e in
    let arms = greatest_append f (points c u arm) (points c u other) in
    let whole = greatest_append f (points c u arm ++ points c u other) (points c (state_or u (flow c u arm)) rest) in
    omega (arith, same, arms, whole)

-- either arm, followed by the rest
chooses : (f : AbstractState → ℕ) (c : Context) (s t end : AbstractState) (arm other rest taken : Statements) (loops : List Round) → chosen_from s ≡ Ok t
    → Continues c s (If arm other rest) loops end
    → ((v : AbstractState) → flow (within c loops) (record s { bounds = [] }) arm ≡ Ok v → flow (within c loops) (record s { bounds = [] }) other ≡ Ok v
    → flow (within c loops) (record s { bounds = [] }) taken ≡ Ok v)
    → greatest f (points (within c loops) (record s { bounds = [] }) taken)
    ≤ max (greatest f (points (within c loops) (record s { bounds = [] }) arm)) (greatest f (points (within c loops) (record s { bounds = [] }) other))
    → greatest f (left_points c t (taken then rest) loops) ≤ greatest f (left_points c s (If arm other rest) loops)
chooses f c s t end arm other rest taken loops from h reaches most =
    let u : AbstractState = record s { bounds = [] } in
    let a = arms_ok (within c loops) s arm other rest h.0 h.1 in
    let v = a.1.0 in
    let there = reaches v a.1.1 a.1.2 in
    let old = left_is f c s h.0 (If arm other rest) loops h.1 in
    let inner = arms_are f (within c loops) s v arm other rest a.1.1 in
    let joined = points_append f (within c loops) u v taken rest there in
    let new = left_is f c u h.0 (taken then rest) loops (flow_append (within c loops) u taken rest v h.0 there a.1.3) in
    let same : greatest f (left_points c t (taken then rest) loops) ≡ greatest f (left_points c u (taken then rest) loops) =
    ap (λ x. greatest f (left_points c x (taken then rest) loops)) (chosen_is s t from) in
    omega (arith, most, old, inner, joined, new, same)

enters : (f : AbstractState → ℕ) (c : Context) (s end : AbstractState) (n : ℕ) (body rest : Statements) (loops : List Round) → Continues c s (Loop n body rest)
    loops end
    → greatest f (left_points c s body (record { round = 0; count = n; body = body; rest = rest } ∷ loops))
    ≤ greatest f (left_points c s (Loop n body rest) loops)
enters f c s end n body rest loops h =
    let r : Round = record { round = 0; count = n; body = body; rest = rest } in
    let l = loop_ok (within c loops) s n body rest h.0 h.1 in
    let old = left_is f c s h.0 (Loop n body rest) loops h.1 in
    let inner = greatest_append f (points (within c (r ∷ loops)) s body) (points (within c loops) s rest) in
    let new = left_is f c s s body (r ∷ loops) l.1 in
    let around = rounds_are f c s h.0 r loops l.2 in
    omega (arith, old, inner, new, around)

repeats : (f : AbstractState → ℕ) (c : Context) (s end : AbstractState) (r : Round) (outer : List Round) → Continues c s Done (r ∷ outer) end
    → greatest f (left_points c s r.body (record r { round = suc r.round } ∷ outer)) ≤ greatest f (left_points c s Done (r ∷ outer))
repeats f c s end r outer h =
    let a = ended_ok c s end r outer h in
    let new = left_is f c s s r.body (record r { round = suc r.round } ∷ outer) a.0 in
    let old = rounds_are f c s a.1.0 r outer a.1.1 in
    let around = rounds_are f c s a.1.0 (record r { round = suc r.round }) outer a.1.1 in
    let whole : greatest f (left_points c s Done (r ∷ outer)) ≡ max (f s) (greatest f (round_points c s (r ∷ outer))) = refl in
    omega (arith, new, old, around, whole)

leaves : (f : AbstractState → ℕ) (c : Context) (s end : AbstractState) (r : Round) (outer : List Round) → Continues c s Done (r ∷ outer) end
    → greatest f (left_points c s r.rest outer) ≤ greatest f (left_points c s Done (r ∷ outer))
leaves f c s end r outer h =
    let a = ended_ok c s end r outer h in
    let new = left_is f c s a.1.0 r.rest outer a.1.1 in
    let old = rounds_are f c s a.1.0 r outer a.1.1 in
    let whole : greatest f (left_points c s Done (r ∷ outer)) ≡ max (f s) (greatest f (round_points c s (r ∷ outer))) = refl in
    omega (arith, new, old, whole)

Fewer : (f : AbstractState → ℕ) (c : Context) (end : AbstractState) → AbstractState → Statements → List Round → AbstractState → Statements → List Round → Type 0
Fewer f c end s todo loops t left around = Continues c s todo loops end → greatest f (left_points c t left around) ≤ greatest f (left_points c s todo loops)

-- a move leaves no state that was not among those before it
pub points_move : (f : AbstractState → ℕ) (c : Context) (s t end : AbstractState) (todo left : Statements) (loops around : List Round) → Continues c s todo
    loops end
    → Moves c s todo loops t left around
    → greatest f (left_points c t left around) ≤ greatest f (left_points c s todo loops)
unfolding Fewer
points_move f c s t end todo left loops around h m =
    by_move c (Fewer f c end)
    (λ s t i rest loops e g. does f c s t end i rest loops e g)
    (λ s t arm other rest loops from g. chooses f c s t end arm other rest arm loops from g (λ v e o. e) (omega arith))
    (λ s t arm other rest loops from g. chooses f c s t end arm other rest other loops from g (λ v e o. o) (omega arith))
    (λ s n body rest loops g. enters f c s end n body rest loops g)
    (λ s r outer again g. repeats f c s end r outer g)
    (λ s r outer g. leaves f c s end r outer g)
    s t todo left loops around m h
