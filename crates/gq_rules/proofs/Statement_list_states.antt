-- The states before the statements of a list, statement by statement.
use Rattle.std.proofs.Common.{◌≡◌, ◌<◌, ◌≤◌, ℕ, arith, ◌+◌, Bool, true, false, ◌&&◌, List, [], ◌∷◌, ◌++◌, drop, length, get_or, max, refl, ap, sym}
use Rattle.std.proofs.Common.{◌∙◌, Ok, Err}
use Rattle.std.proofs.Math.ListN.{drop_of_length-le}
use Rattle.gq_model.specs.machine.Lists.{greatest}
use Rattle.gq_model.specs.machine.Program.{Statements, Done, Do, If, Loop, size}
use Rattle.gq_model.specs.rules.Kinds.{AbstractState, Context, inside, same_kinds}
use Rattle.gq_model.specs.declared.fault.Rule.{Rule}
use Rattle.gq_model.specs.declared.fault.Rule.TheVariants.{LeftoverOperand, JoinDiffers}
use Rattle.gq_model.specs.rules.Rules.{Judged, must, judged}
use Rattle.gq_model.specs.rules.Flow.{Flowed, at, later, flow_then, state_or, is_nil, chosen_from, none_left, join, flow, points}
use Rattle.gq_program.specs.Statement_trees.{tree_of}
use Rattle.gq_program.specs.declared.program_tree.Statement.{Statement}
use Rattle.gq_program.specs.declared.program_tree.Statement.TheVariants as statement
use Rattle.gq_caps.specs.Measured.{total_of, measured}
use Rattle.gq_caps.specs.declared.totals.Measure.{Measure}
use Rattle.gq_caps.specs.declared.totals.Totals.{Totals}
use Rattle.gq_rules.specs.internal.List_states.{chosen, next_state, points_in}
use Rattle.gq_rules.specs.internal.Open_maxima.{PeaksWith}
use Rattle.gq_rules.specs.List_maxima.{measure_of, Peaks}
use Rattle.gq_program.proofs.Statement_list_sizes.{here_is}
use Rattle.gq_model.proofs.Rules_laws.{at_ok}

points_first : (c : Context) (s : AbstractState) (st : Statement) (rest : List Statement) →
    points c s (tree_of (st ∷ rest)) ≡ points_in c s st ++ points c (next_state c s st) (tree_of rest)
points_first c s (statement.Plain i) rest = refl
points_first c s (statement.If arm other) rest = refl
points_first c s (statement.Loop count body) rest = refl

greatest-append : (f : AbstractState → ℕ) (xs ys : List AbstractState) → greatest f (xs ++ ys) ≡ max (greatest f xs) (greatest f ys)
greatest-append f [] ys = omega arith
greatest-append f (x ∷ xs) ys = omega (arith, greatest-append f xs ys)

-- the greatest of what is left is that of the statement that stands there, or of the others
pub peak_here : (c : Context) (s : AbstractState) (items : List Statement) (i : ℕ) (st : Statement) (f : AbstractState → ℕ) (highest here : ℕ) → i < length
    items →
    st ≡ get_or items i st → here ≡ max highest (greatest f (points_in c s st)) →
    max here (greatest f (points c (next_state c s st) (tree_of (drop (i + 1) items)))) ≡ max highest (greatest f (points c s (tree_of (drop i items))))
peak_here c s items i st f highest here less e is =
    let a = ap (λ l. greatest f (points c s (tree_of l))) (here_is items i st less e) in
    let b = ap (greatest f) (points_first c s st (drop (i + 1) items)) in
    let d = greatest-append f (points_in c s st) (points c (next_state c s st) (tree_of (drop (i + 1) items))) in
    omega (arith, a, b, d, is)

-- WHERE NO RULE IS BROKEN

pub then_ok : (x : Flowed) (k : AbstractState → Flowed) (t : AbstractState) → Ok t ≡ flow_then x k → (u : AbstractState) × (x ≡ Ok u) × (Ok t ≡ k u)
then_ok (Ok u) k t e = (u, refl, e)
then_ok (Err fault) k t e = cc

pub later_ok : (n : ℕ) (x : Flowed) (t : AbstractState) → Ok t ≡ later n x → x ≡ Ok t
later_ok n (Ok u) t e = sym e
later_ok n (Err fault) t e = cc

pub must_ok : (b : Bool) (r : Rule) (s t : AbstractState) → must b r (Ok s) ≡ Ok t → t ≡ s
must_ok true r s t e = cc
must_ok false r s t e = cc

pub must_must_ok : (b d : Bool) (r q : Rule) (s t : AbstractState) → must b r (must d q (Ok s)) ≡ Ok t → t ≡ s
must_must_ok true d r q s t e = must_ok d q s t e
must_must_ok false d r q s t e = cc

-- an `if` starts its arms without operands
pub chosen_is : (s t : AbstractState) → chosen_from s ≡ Ok t → t ≡ chosen s
chosen_is s t e = by s.bounds e where
  by : (bounds : List ℕ) → chosen_from (record s { bounds = bounds }) ≡ Ok t → t ≡ chosen s
  by [] e = cc
  by (a ∷ []) e = cc
  by (a ∷ b ∷ rest) e = cc

next_plain : (c : Context) (s t : AbstractState) (j : Judged) (n : ℕ) → Ok t ≡ later n (flow_then (at 1 j) (λ t. later 1 (Ok t))) → t ≡ state_or s (at 1 j)
next_plain c s t (Ok u) n e = cc
next_plain c s t (Err rule) n e = cc

-- where two ways join, the first goes on
pub joined_is : (u v t : AbstractState) → join u v ≡ Ok t → t ≡ u
joined_is u v t e = must_must_ok (is_nil u.bounds && is_nil v.bounds) (same_kinds u.own v.own && same_kinds u.bank v.bank) LeftoverOperand JoinDiffers u t e

pub ok_same : (s t : AbstractState) → (let r : Flowed = Ok s in r) ≡ Ok t → s ≡ t
ok_same s t e = cc

pub after_join : (a : ℕ) (u v t : AbstractState) → Ok t ≡ flow_then (at 1 (join u v)) (λ w. later a (Ok w)) → t ≡ u
after_join a u v t e =
    let p = then_ok (at 1 (join u v)) (λ w. later a (Ok w)) t e in
    let j = at_ok 1 (join u v) p.0 p.1 in
    let w = must_must_ok (is_nil u.bounds && is_nil v.bounds) (same_kinds u.own v.own && same_kinds u.bank v.bank) LeftoverOperand JoinDiffers u p.0 j in
    let same : t ≡ p.0 = ok_same t p.0 p.2 in same ∙ w

-- the state that a statement leads to
pub next_is : (c : Context) (s t : AbstractState) (st : Statement) (n : ℕ) → Ok t ≡ later n (flow c s (tree_of (st ∷ []))) → t ≡ next_state c s st
next_is c s t (statement.Plain i) n e = next_plain c s t (judged c s i) n e
next_is c s t (statement.If arm other) n e =
    let p = then_ok (at 1 (chosen_from s)) _ t (sym (later_ok n _ t e)) in
    let u = chosen_is s p.0 (at_ok 1 (chosen_from s) p.0 p.1) in
    let q = then_ok (later 1 (flow c p.0 arm)) _ t p.2 in
    let r = then_ok (later (1 + size arm) (flow c p.0 other)) _ t q.2 in
    let w = after_join (1 + size arm + size other) q.0 r.0 t r.2 in
    let x = later_ok 1 (flow c p.0 arm) q.0 (sym q.1) in
    let y : state_or (chosen s) (flow c (chosen s) arm) ≡ q.0 = ap (λ (u : AbstractState). state_or (chosen s) (flow c u arm)) (sym u) ∙ ap
    (state_or (chosen s)) x in
    w ∙ sym y
next_is c s t (statement.Loop count body) n e =
    let p = then_ok (at 1 (none_left s)) _ t (sym (later_ok n _ t e)) in
    let u = must_ok (is_nil s.bounds) LeftoverOperand s p.0 (at_ok 1 (none_left s) p.0 p.1) in
    let q = then_ok (later 1 (flow (inside c count) p.0 body)) _ t p.2 in
    let w = after_join (1 + size body) p.0 q.0 t q.2 in
    w ∙ u

-- PEAKS

-- at a list's end the last state counts
pub peak_end : (c : Context) (s : AbstractState) (items : List Statement) (i : ℕ) (f : AbstractState → ℕ) (highest here own all : ℕ) → length items ≤ i → own ≡
    f s →
    here ≡ max highest own → max highest (greatest f (points c s (tree_of (drop i items)))) ≡ all → here ≡ all
peak_end c s items i f highest here own all past o h e =
    let a = ap (λ l. greatest f (points c s (tree_of l))) (drop_of_length-le items past) in omega (arith, a, o, h, e)

-- one list of states after the other
pub peaks_append : (p q r : Totals) (xs ys : List AbstractState) → Peaks q p xs → Peaks r q ys → Peaks r p (xs ++ ys)
peaks_append p q r xs ys a b m =
    let d = greatest-append (measure_of m) xs ys in omega (arith, a m, b m, d)

-- a state that measures as the one before it is enough
pub peaks_stay : (p : Totals) (s t : AbstractState) → t.own ≡ s.own → PeaksWith p p (s ∷ []) t
peaks_stay p s t e m =
    let same : measure_of m t ≡ measure_of m s = ap (measured m) e in omega (arith, same)

-- the first point is the state before
first_counts : (c : Context) (s : AbstractState) (f : AbstractState → ℕ) (b : Statements) → f s ≤ greatest f (points c s b)
first_counts c s f Done = omega arith
first_counts c s f (Do i rest) = omega arith
first_counts c s f (If arm other rest) = omega arith
first_counts c s f (Loop count body rest) = omega arith

-- the statement that stands there, and then the others
pub peaks_on : (c : Context) (s t : AbstractState) (items : List Statement) (i : ℕ) (st : Statement) (n : ℕ) (p q r : Totals) (all : List AbstractState) → i <
    length items →
    st ≡ get_or items i st → Ok t ≡ later n (flow c s (tree_of (st ∷ []))) → PeaksWith q p (points_in c s st) t →
    ((m : Measure) → max (total_of p m) (greatest (measure_of m) (points c s (tree_of (drop i items)))) ≡ max (total_of r m) (greatest (measure_of m) all)) →
    (m : Measure) → max (total_of q m) (greatest (measure_of m) (points c t (tree_of (drop (i + 1) items)))) ≡ max (total_of r m) (greatest (measure_of m) all)
peaks_on c s t items i st n p q r all less e ok here before m =
    let f = measure_of m in
    let rest = tree_of (drop (i + 1) items) in
    let next = ap (λ (u : AbstractState). greatest f (points c u rest)) (next_is c s t st n ok) in
    let whole = peak_here c s items i st f (total_of p m) (max (total_of p m) (greatest f (points_in c s st))) less e refl ∙ before m in
    let first = first_counts c t f rest in
    let now = here m in
    omega (arith, next, whole, first, now)
