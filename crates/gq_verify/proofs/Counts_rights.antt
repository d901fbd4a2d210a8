-- Statements that break no rule, one after the other.
use Rattle.std.proofs.Common.{◌≡◌, ◌<◌, ◌+◌, ℕ, List, [], ◌∷◌, drop, length, get_or, refl, ap, sym, subst, ◌∙◌, Ok, Err}
use Rattle.std.proofs.Common.{◌-◌, ◌*◌, ◌^◌, min, arith, Result, OnOk}
use Rattle.gq_model.specs.machine.Program.{Statements, Done, Do, If, Loop, size}
use Rattle.gq_model.specs.declared.section.Section.{Section}
use Rattle.gq_model.specs.declared.program.Instruction.{Instruction}
use Rattle.gq_model.specs.declared.fault.Rule.{Rule}
use Rattle.gq_model.specs.declared.fault.Rule.TheVariants.{LeftoverOperand}
use Rattle.gq_model.specs.rules.Kinds.{AbstractState, Context, inside}
use Rattle.gq_model.specs.rules.Rules.{Judged, judged}
use Rattle.gq_model.specs.rules.Flow.{Flowed, at, later, flow_then, is_nil, chosen_from, none_left, flow, state_or}
use Rattle.gq_program.specs.Statement_trees.{tree_of}
use Rattle.gq_program.specs.declared.program_tree.Statement.{Statement}
use Rattle.gq_rules.specs.internal.List_states.{chosen, next_state}
use Rattle.gq_rules.proofs.Statement_list_flow.{flow_here}
use Rattle.gq_rules.proofs.Statement_list_states.{then_ok, later_ok, must_ok, chosen_is, next_is}
use Rattle.gq_verify.specs.Rights.{IsRight}
use Rattle.gq_verify.specs.internal.Requesting.{requests_in}
use Rattle.gq_verify.specs.Saturated_numbers.{saturated}
use Rattle.gq_verify.specs.Requested.{Requested, requests_for}
use Rattle.gq_verify.proofs.Saturated_counts.{times}
use Rattle.gq_model.specs.rules.Budgets.{requests}
use Rattle.gq_program.specs.declared.program_tree.Statement.TheVariants.{Plain}
use Rattle.gq_program.specs.declared.program_tree.Statement.TheVariants as statement
use Rattle.gq_model.proofs.Rules_laws.{at_ok}
use Rattle.gq_program.proofs.Statement_list_sizes.{here_is}

-- the statement that stands there breaks none, nor do those after it
pub right_here : (c : Context) (s : AbstractState) (items : List Statement) (i : ℕ) (st : Statement) → i < length items → st ≡ get_or items i st →
    IsRight c s (tree_of (drop i items)) → IsRight c s (tree_of (st ∷ [])) × IsRight c (next_state c s st) (tree_of (drop (i + 1) items))
right_here c s items i st less e (t, ok) =
    let h = flow_here c s items i st 0 less e in
    let k = λ (u : AbstractState). later (0 + size (tree_of (st ∷ []))) (flow c u (tree_of (drop (i + 1) items))) in
    let p = then_ok (later 0 (flow c s (tree_of (st ∷ [])))) k t (sym (ap (later 0) ok) ∙ h) in
    let here = later_ok 0 (flow c s (tree_of (st ∷ []))) p.0 (sym p.1) in
    let rest = later_ok (0 + size (tree_of (st ∷ []))) (flow c p.0 (tree_of (drop (i + 1) items))) t p.2 in
    ((p.0, here), subst (λ (u : AbstractState). IsRight c u (tree_of (drop (i + 1) items))) (next_is c s p.0 st 0 (sym p.1)) (t, rest))

requests_first : (v : List ℕ) (r : Section) (c : Context) (s : AbstractState) (st : Statement) (rest : List Statement) →
    requests v r c s (tree_of (st ∷ rest)) ≡ requests_in v r c s st + requests v r c (next_state c s st) (tree_of rest)
requests_first v r c s (Plain i) rest = refl
requests_first v r c s (statement.If arm other) rest = refl
requests_first v r c s (statement.Loop count body) rest = refl

-- what has been counted, with one statement more, of numbers that are kept as far as they go
pub counted_on : (v : List ℕ) (r : Section) (c : Context) (s u : AbstractState) (items : List Statement) (i : ℕ) (st : Statement) (now next all : ℕ) →
    i < length items → st ≡ get_or items i st → u ≡ next_state c s st → saturated next ≡ saturated (now + requests_in v r c s st) →
    saturated (now + requests v r c s (tree_of (drop i items))) ≡ all → saturated (next + requests v r c u (tree_of (drop (i + 1) items))) ≡ all
counted_on v r c s u items i st now next all less e at h q =
    let a = ap (λ l. requests v r c s (tree_of l)) (here_is items i st less e) in
    let b = requests_first v r c s st (drop (i + 1) items) in
    let d = ap (λ (u : AbstractState). requests v r c u (tree_of (drop (i + 1) items))) at in
    omega (arith, a, b, d, h, q)

-- what is left after a statement leads to the same state
pub state_on : (c : Context) (s u d : AbstractState) (items : List Statement) (i : ℕ) (st : Statement) → i < length items → st ≡ get_or items i st →
    u ≡ next_state c s st → IsRight c s (tree_of (drop i items)) →
    state_or d (flow c u (tree_of (drop (i + 1) items))) ≡ state_or d (flow c s (tree_of (drop i items)))
state_on c s u d items i st less e at (t, ok) =
    let h = flow_here c s items i st 0 less e in
    let k = λ (u : AbstractState). later (0 + size (tree_of (st ∷ []))) (flow c u (tree_of (drop (i + 1) items))) in
    let p = then_ok (later 0 (flow c s (tree_of (st ∷ [])))) k t (sym (ap (later 0) ok) ∙ h) in
    let rest = later_ok (0 + size (tree_of (st ∷ []))) (flow c p.0 (tree_of (drop (i + 1) items))) t p.2 in
    let same = at ∙ sym (next_is c s p.0 st 0 (sym p.1)) in
    ap (λ (u : AbstractState). state_or d (flow c u (tree_of (drop (i + 1) items)))) same ∙ (ap (state_or d) rest ∙ ap (state_or d) (sym ok))

-- an instruction that breaks a rule is not right
pub plain_right : (c : Context) (s : AbstractState) (i : Instruction) (rule : Rule) (A : Type 0) → Err rule ≡ judged c s i → IsRight c s (Do i Done) → A
plain_right c s i rule A e (t, ok) = by (judged c s i) e ok where
  by : (j : Judged) → Err rule ≡ j → flow_then (at 1 j) (λ t. later 1 (Ok t)) ≡ Ok t → A
  by (Ok u) e ok = cc
  by (Err r) e ok = cc

-- both arms of an `if` are right
pub arms_right : (c : Context) (s : AbstractState) (arm other : Statements) → IsRight c s (If arm other Done) → IsRight c (chosen s) arm × IsRight c (chosen s)
    other
arms_right c s arm other (t, ok) =
    let p = then_ok (at 1 (chosen_from s)) _ t (sym ok) in
    let u = chosen_is s p.0 (at_ok 1 (chosen_from s) p.0 p.1) in
    let q = then_ok (later 1 (flow c p.0 arm)) _ t p.2 in
    let r = then_ok (later (1 + size arm) (flow c p.0 other)) _ t q.2 in
    let x = later_ok 1 (flow c p.0 arm) q.0 (sym q.1) in
    let y = later_ok (1 + size arm) (flow c p.0 other) r.0 (sym r.1) in
    (subst (λ (u : AbstractState). IsRight c u arm) u (q.0, x), subst (λ (u : AbstractState). IsRight c u other) u (r.0, y))

-- and so is the body of a loop
pub round_right : (c : Context) (s : AbstractState) (count : ℕ) (body : Statements) → IsRight c s (Loop count body Done) → IsRight (inside c count) s body
round_right c s count body (t, ok) =
    let p = then_ok (at 1 (none_left s)) _ t (sym ok) in
    let u = must_ok (is_nil s.bounds) LeftoverOperand s p.0 (at_ok 1 (none_left s) p.0 p.1) in
    let q = then_ok (later 1 (flow (inside c count) p.0 body)) _ t p.2 in
    let x = later_ok 1 (flow (inside c count) p.0 body) q.0 (sym q.1) in
    subst (λ (u : AbstractState). IsRight (inside c count) u body) u (q.0, x)

-- a walk that breaks a rule is not right
pub broken_right : (c : Context) (s : AbstractState) (b : Statements) (f : Rule × ℕ) (n : ℕ) (A : Type 0) → Err f ≡ later n (flow c s b) → IsRight c s b → A
broken_right c s b f n A e (t, ok) = by (flow c s b) e ok where
  by : (x : Flowed) → Err f ≡ later n x → x ≡ Ok t → A
  by (Ok u) e ok = cc
  by (Err g) e ok = cc

-- COUNTING ALL REQUESTS

pub on_then : {X Y : Type 0} {A B : Type 0} (x : Result X Y) → (A → B) → OnOk x A → OnOk x B
on_then (Ok x) f a = f a
on_then (Err y) f a = tt

-- a number is added so often, though it was kept as far as it goes
times_kept : (n a b old : ℕ) → saturated a ≡ saturated b → saturated (old + n * a) ≡ saturated (old + n * b)
times_kept n a b old e =
    let x = times (2 ^ 64 - 1) n a in
    let y = times (2 ^ 64 - 1) n b in
    let z = ap (λ (k : ℕ). min (k * n) (2 ^ 64 - 1)) e in
    let p : a * n ≡ n * a = omega arith in
    let q : b * n ≡ n * b = omega arith in
    omega (arith, x, y, z, p, q)

-- the requests of all rounds of a loop, counted by those of one that began with none
pub round_counted : (v : List ℕ) (r : Section) (round start : List Requested) (k l : Context) (s t : AbstractState) (body : Statements) (n old : ℕ) →
    start ≡ [] →
    l ≡ k → t ≡ s → saturated (requests_for round v r) ≡ saturated (requests_for start v r + requests v r l t body) →
    saturated (old + n * requests_for round v r) ≡ saturated (old + n * requests v r k s body)
round_counted v r round start k l s t body n old none at from e =
    let a = ap (λ l. requests_for l v r) none in
    let b = ap (λ (l : Context). requests v r l t body) at in
    let d = ap (λ (t : AbstractState). requests v r k t body) from in
    times_kept n (requests_for round v r) (requests v r k s body) old (omega (arith, a, b, d, e))
