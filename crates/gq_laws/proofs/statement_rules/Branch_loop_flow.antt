-- The steps of an `if` and of a loop keep what is left of a section.
use Rattle.std.proofs.Common.{◌≡◌, ℕ, suc, ◌+◌, ◌<◌, List, ◌∷◌, sym, ap, ◌∙◌, subst}
use Rattle.std.specs.Prelude.{Ok}
use Rattle.gq_model.specs.machine.Program.{Statements, Done, Do, If, Loop, ◌then◌, size}
use Rattle.gq_model.specs.declared.program.Instruction.{Instruction}
use Rattle.gq_model.specs.machine.World.{Round}
use Rattle.gq_model.specs.rules.Kinds.{AbstractState, Context, inside}
use Rattle.gq_model.specs.rules.Rules.{judged}
use Rattle.gq_model.specs.rules.Flow.{Flowed, at, later, flow_then, none_left, chosen_from, join, flow, state_or}
use Rattle.gq_laws.specs.Current_section_facts.{within, After, Continues}
use Rattle.gq_model.proofs.Rules_laws.{then_ok, at_ok, later_ok, loop_ok, if_parts}

-- LOOPS

-- the step into a loop
pub loop_enters : (c : Context) (s : AbstractState) (n : ℕ) (body rest : Statements) (loops : List Round) (end : AbstractState) → 0 < n
    → Continues c s (Loop n body rest) loops end → Continues c s body (record { round = 0; count = n; body = body; rest = rest } ∷ loops) end
loop_enters c s n body rest loops end positive h =
    let l = loop_ok (within c loops) s n body rest h.0 h.1 in (s, l.1, (l.0, positive, l.1, (h.0, l.2, h.2)))

-- the step after a body, where a round is left
pub loop_again : (c : Context) (s : AbstractState) (r : Round) (loops : List Round) (end : AbstractState) → suc r.round < r.count → Continues c s Done
    (r ∷ loops) end
    → Continues c s r.body (record r { round = suc r.round } ∷ loops) end
loop_again c s r loops end more h =
    let a : After c (r ∷ loops) s end = subst (λ u. After c (r ∷ loops) u end) (ap (state_or s) (sym h.1)) h.2 in
    (s, a.2, (a.0, more, a.2, a.3))

-- the step after a body, where none is left
pub loop_leaves : (c : Context) (s : AbstractState) (r : Round) (loops : List Round) (end : AbstractState) → Continues c s Done (r ∷ loops) end → Continues c s
    r.rest loops end
loop_leaves c s r loops end h =
    let a : After c (r ∷ loops) s end = subst (λ u. After c (r ∷ loops) u end) (ap (state_or s) (sym h.1)) h.2 in a.3

-- LISTS ONE AFTER ANOTHER

then_gives : (r : Flowed) (f : AbstractState → Flowed) (v u : AbstractState) → r ≡ Ok v → f v ≡ Ok u → flow_then r f ≡ Ok u
then_gives r f v u e h = ap (λ q. flow_then q f) e ∙ h

later_gives : (n : ℕ) (r : Flowed) (u : AbstractState) → r ≡ Ok u → later n r ≡ Ok u
later_gives n r u e = ap (later n) e

-- where both lists pass, so does the one after the other
pub flow_append : (c : Context) (s : AbstractState) (a b : Statements) (t u : AbstractState) → flow c s a ≡ Ok t → flow c t b ≡ Ok u → flow c s (a then b) ≡ Ok
    u
flow_append c s Done b t u e h = ap (λ v. flow c v b) (ap (state_or s) e) ∙ h
flow_append c s (Do i rest) b t u e h =
    let p = then_ok (at 1 (judged c s i)) (λ v. later 1 (flow c v rest)) t e in
    let ih = flow_append c p.0 rest b t u (later_ok 1 (flow c p.0 rest) t p.2) h in
    then_gives (at 1 (judged c s i)) (λ v. later 1 (flow c v (rest then b))) p.0 u p.1 (later_gives 1 (flow c p.0 (rest then b)) u ih)
flow_append c s (If arm other rest) b t u e h =
    let n = 1 + size arm + size other in
    let p = then_ok (at 1 (chosen_from s)) (λ v. flow_then (later 1 (flow c v arm))
    (λ w. flow_then (later (1 + size arm) (flow c v other)) (λ x. flow_then (at 1 (join w x)) (λ y. later n (flow c y rest))))) t e in
    let q = then_ok (later 1 (flow c p.0 arm)) (λ w. flow_then (later (1 + size arm) (flow c p.0 other))
    (λ x. flow_then (at 1 (join w x)) (λ y. later n (flow c y rest)))) t p.2 in
    let r = then_ok (later (1 + size arm) (flow c p.0 other)) (λ x. flow_then (at 1 (join q.0 x)) (λ y. later n (flow c y rest))) t q.2 in
    let j = then_ok (at 1 (join q.0 r.0)) (λ y. later n (flow c y rest)) t r.2 in
    let ih = flow_append c j.0 rest b t u (later_ok n (flow c j.0 rest) t j.2) h in
    then_gives (at 1 (chosen_from s)) (λ v. flow_then (later 1 (flow c v arm))
    (λ w. flow_then (later (1 + size arm) (flow c v other)) (λ x. flow_then (at 1 (join w x)) (λ y. later n (flow c y (rest then b)))))) p.0 u p.1
    (then_gives (later 1 (flow c p.0 arm)) (λ w. flow_then (later (1 + size arm) (flow c p.0 other))
    (λ x. flow_then (at 1 (join w x)) (λ y. later n (flow c y (rest then b))))) q.0 u q.1
    (then_gives (later (1 + size arm) (flow c p.0 other)) (λ x. flow_then (at 1 (join q.0 x)) (λ y. later n (flow c y (rest then b)))) r.0 u r.1
    (then_gives (at 1 (join q.0 r.0)) (λ y. later n (flow c y (rest then b))) j.0 u j.1 (later_gives n (flow c j.0 (rest then b)) u ih))))
flow_append c s (Loop count body rest) b t u e h =
    let p = then_ok (at 1 (none_left s)) (λ v. flow_then (later 1 (flow (inside c count) v body))
    (λ w. flow_then (at 1 (join v w)) (λ y. later (1 + size body) (flow c y rest)))) t e in
    let q = then_ok (later 1 (flow (inside c count) p.0 body)) (λ w. flow_then (at 1 (join p.0 w)) (λ y. later (1 + size body) (flow c y rest))) t p.2 in
    let j = then_ok (at 1 (join p.0 q.0)) (λ y. later (1 + size body) (flow c y rest)) t q.2 in
    let ih = flow_append c j.0 rest b t u (later_ok (1 + size body) (flow c j.0 rest) t j.2) h in
    then_gives (at 1 (none_left s)) (λ v. flow_then (later 1 (flow (inside c count) v body))
    (λ w. flow_then (at 1 (join v w)) (λ y. later (1 + size body) (flow c y (rest then b))))) p.0 u p.1
    (then_gives (later 1 (flow (inside c count) p.0 body)) (λ w. flow_then (at 1 (join p.0 w)) (λ y. later (1 + size body) (flow c y (rest then b)))) q.0 u q.1
    (then_gives (at 1 (join p.0 q.0)) (λ y. later (1 + size body) (flow c y (rest then b))) j.0 u j.1
    (later_gives (1 + size body) (flow c j.0 (rest then b)) u ih)))

-- the step of an `if`: either arm, followed by the rest, passes from the state without the condition
pub if_ok : (c : Context) (s : AbstractState) (arm other rest : Statements) (u : AbstractState) → flow c s (If arm other rest) ≡ Ok u
    → (t : AbstractState) × (chosen_from s ≡ Ok t) × (flow c t (arm then rest) ≡ Ok u) × (flow c t (other then rest) ≡ Ok u)
if_ok c s arm other rest u e =
    let p = if_parts c s arm other rest u e in
    (p.0, p.2, flow_append c p.0 arm rest p.1 u p.3 p.5, flow_append c p.0 other rest p.1 u p.4 p.5)

-- a statement leads by its rule to where what comes after it goes on
pub do_ok : (c : Context) (s end : AbstractState) (i : Instruction) (rest : Statements) (loops : List Round) → Continues c s (Do i rest) loops end
    → (t : AbstractState) × (judged (within c loops) s i ≡ Ok t) × Continues c t rest loops end
do_ok c s end i rest loops goes =
    let k = within c loops in
    let t = then_ok (at 1 (judged k s i)) (λ s. later 1 (flow k s rest)) goes.0 goes.1 in
    (t.0, at_ok 1 (judged k s i) t.0 t.1, (goes.0, later_ok 1 (flow k t.0 rest) goes.0 t.2, goes.2))
