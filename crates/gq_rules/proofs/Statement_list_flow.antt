-- Walks through lists of statements, statement by statement.
use Rattle.std.proofs.Common.{◌≡◌, ◌<◌, ℕ, arith, ◌+◌, ◌-◌, true, ◌&&◌, List, [], ◌∷◌, drop, length, get_or, refl, ap}
use Rattle.std.proofs.Common.{sym, subst, ◌∙◌, add_assoc, IsTrue, Ok, Err}
use Rattle.std.specs.Prelude.{nat_lt}
use Rattle.gq_model.specs.machine.Program.{size}
use Rattle.gq_model.specs.rules.Kinds.{AbstractState, Context, inside}
use Rattle.gq_model.specs.rules.Flow.{Flowed, at, later, flow_then, none_left, chosen_from, join, flow}
use Rattle.gq_model.specs.rules.Rules.{judged}
use Rattle.gq_model.specs.declared.fault.Rule.{Rule}
use Rattle.gq_program.specs.Statement_trees.{tree_of}
use Rattle.gq_program.specs.declared.program_tree.Statement.{Statement}
use Rattle.gq_program.specs.declared.program_tree.Statement.TheVariants.{Plain, If, Loop}
use Rattle.gq_rules.specs.Flowing.{few_loops}
use Rattle.gq_rules.proofs.Program_section_facts.{parts, both}
use Rattle.gq_program.proofs.Statement_list_sizes.{here_is, size_first}

-- numbers count on and on
later_later : (a b : ℕ) (x : Flowed) → later a (later b x) ≡ later (a + b) x
later_later a b (Ok s) = refl
later_later a b (Err fault) = ap (λ (n : ℕ). let r : Flowed = Err (fault.0, n) in r) (sym (add_assoc a b fault.1))

-- a step goes on alike with and without what follows
through : (n : ℕ) (K : AbstractState → Flowed) (x : Flowed) (f g : AbstractState → Flowed) →
    ((t : AbstractState) → later n (f t) ≡ flow_then (later n (g t)) K) →
    later n (flow_then x f) ≡ flow_then (later n (flow_then x g)) K
through n K (Ok t) f g h = h t
through n K (Err fault) f g h = refl

-- at the end of a statement what follows goes on
last : (n a b : ℕ) (k : AbstractState → Flowed) (w : AbstractState) → n + a ≡ b → later n (later a (k w)) ≡ flow_then (later n (later a (Ok w)))
    (λ t. later b (k t))
last n a b k w e = later_later n a (k w) ∙ ap (λ m. later m (k w)) e

-- a walk through a list goes through its first statement and then through the others
pub flow_first : (c : Context) (s : AbstractState) (st : Statement) (rest : List Statement) (n : ℕ) →
    later n (flow c s (tree_of (st ∷ rest))) ≡
    flow_then (later n (flow c s (tree_of (st ∷ [])))) (λ t. later (n + size (tree_of (st ∷ []))) (flow c t (tree_of rest)))
flow_first c s (Plain i) rest n =
    let K = λ (t : AbstractState). later (n + (1 + 0)) (flow c t (tree_of rest)) in
    let k = λ (t : AbstractState). flow c t (tree_of rest) in
    through n K (at 1 (judged c s i)) (λ t. later 1 (k t)) (λ t. later 1 (Ok t)) (λ t. last n 1 (n + (1 + 0)) k t (omega arith))
flow_first c s (If arm other) rest n =
    let m = n + (1 + size arm + size other + 0) in
    let k = λ (t : AbstractState). flow c t (tree_of rest) in
    let K = λ (t : AbstractState). later m (k t) in
    let b = 1 + size arm + size other in
    through n K (at 1 (chosen_from s)) _ _ (λ t.
    through n K (later 1 (flow c t arm)) _ _ (λ u.
    through n K (later (1 + size arm) (flow c t other)) _ _ (λ v.
    through n K (at 1 (join u v)) (λ w. later b (k w)) (λ w. later b (Ok w)) (λ w. last n b m k w (omega arith)))))
flow_first c s (Loop count body) rest n =
    let m = n + (1 + size body + 0) in
    let k = λ (t : AbstractState). flow c t (tree_of rest) in
    let K = λ (t : AbstractState). later m (k t) in
    let b = 1 + size body in
    through n K (at 1 (none_left s)) _ _ (λ t.
    through n K (later 1 (flow (inside c count) t body)) _ _ (λ u.
    through n K (at 1 (join t u)) (λ w. later b (k w)) (λ w. later b (Ok w)) (λ w. last n b m k w (omega arith))))

-- the walk through what is left goes through the statement that stands there
pub flow_here : (c : Context) (s : AbstractState) (items : List Statement) (i : ℕ) (st : Statement) (n : ℕ) → i < length items → st ≡ get_or items i st →
    later n (flow c s (tree_of (drop i items))) ≡
    flow_then (later n (flow c s (tree_of (st ∷ [])))) (λ t. later (n + size (tree_of (st ∷ []))) (flow c t (tree_of (drop (i + 1) items))))
flow_here c s items i st n less e = ap (λ l. later n (flow c s (tree_of l))) (here_is items i st less e) ∙ flow_first c s st (drop (i + 1) items) n

-- a rule that it breaks is the first that is broken
pub stops : (e : Rule × ℕ) (x y z : Flowed) (K : AbstractState → Flowed) → Err e ≡ x → y ≡ flow_then x K → y ≡ z → Err e ≡ z
stops e x y z K p q r = ap (λ w. flow_then w K) p ∙ (sym q ∙ r)

-- and counts it
pub size_at : (items : List Statement) (i : ℕ) (st : Statement) → i < length items → st ≡ get_or items i st →
    size (tree_of (drop i items)) ≡ size (tree_of (st ∷ [])) + size (tree_of (drop (i + 1) items))
size_at items i st less e = ap (λ l. size (tree_of l)) (here_is items i st less e) ∙ size_first st (drop (i + 1) items)

few_first : (n : ℕ) (s : Statement) (rest : List Statement) → IsTrue (few_loops n (tree_of (s ∷ rest))) →
    IsTrue (few_loops n (tree_of (s ∷ []))) × IsTrue (few_loops n (tree_of rest))
few_first n (Plain i) rest h = (refl, h)
few_first n (If arm other) rest h =
    let p = parts (few_loops n arm && few_loops n other) (few_loops n (tree_of rest)) h in (both (few_loops n arm && few_loops n other) true p.0 refl, p.1)
few_first n (Loop count body) rest h =
    let p = parts (nat_lt 0 n && few_loops (n - 1) body) (few_loops n (tree_of rest)) h in (both (nat_lt 0 n && few_loops (n - 1) body) true p.0 refl, p.1)

-- it has no more loops in one another than all
pub few_here : (n : ℕ) (items : List Statement) (i : ℕ) (st : Statement) → i < length items → st ≡ get_or items i st →
    IsTrue (few_loops n (tree_of (drop i items))) → IsTrue (few_loops n (tree_of (st ∷ []))) × IsTrue (few_loops n (tree_of (drop (i + 1) items)))
few_here n items i st less e h = few_first n st (drop (i + 1) items) (subst (λ l. IsTrue (few_loops n (tree_of l))) (here_is items i st less e) h)

-- where it breaks no rule, the walk goes on with the statements after it
pub goes_on : (c : Context) (s t : AbstractState) (items : List Statement) (i : ℕ) (st : Statement) (n k : ℕ) (z : Flowed) → i < length items → st ≡ get_or
    items i st →
    Ok t ≡ later n (flow c s (tree_of (st ∷ []))) → k ≡ n + size (tree_of (st ∷ [])) → later n (flow c s (tree_of (drop i items))) ≡ z →
    later k (flow c t (tree_of (drop (i + 1) items))) ≡ z
goes_on c s t items i st n k z less e ok at is =
    let K = λ (t : AbstractState). later (n + size (tree_of (st ∷ []))) (flow c t (tree_of (drop (i + 1) items))) in
    let here = flow_here c s items i st n less e in
    ap (λ (k : ℕ). later k (flow c t (tree_of (drop (i + 1) items)))) at ∙ (ap (λ (x : Flowed). flow_then x K) ok ∙ (sym here ∙ is))
