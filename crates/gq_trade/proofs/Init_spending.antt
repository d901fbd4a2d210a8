-- What inits have handed on, where a node starts or ends.
use Rattle.std.proofs.Common.{◌≡◌, ℕ, zero, suc, ◌+◌, ◌<◌, inl, inr, List, [], ◌∷◌, length, map, set, get_or, Option, Some, None, refl, sym}
use Rattle.std.proofs.Common.{ap, ◌∙◌, arith}
use Rattle.std.specs.Prelude.{sum_by}
use Rattle.std.proofs.lemmas.List.{get_or-set_same, get_or-set_other}
use Rattle.std.proofs.lemmas.List.Sums.{sum_by-cons}
use Rattle.std.proofs.lemmas.Bool.{cases_eq}
use Rattle.gq_tariff.specs.declared.amount.Amount.{Amount}
use Rattle.gq_ram.specs.Account_tree.{Tree, parent}
use Rattle.gq_ram.specs.Handing.{part, spent, spent_in, tail}
use Rattle.gq_trade.specs.Numbers.{IsTaken}
use Rattle.gq_trade.specs.declared.session.Session.{Session}
use Rattle.gq_trade.specs.Trading.{session_in}
use Rattle.gq_trade.specs.declared.trade_node.NodeState.{NodeState}
use Rattle.gq_trade.specs.declared.trade_node.Stage.{Stage}
use Rattle.gq_trade.specs.Balances.{for_node, handed, no_node, node_at}
use Rattle.gq_trade.specs.Leaf_ends.{staged, with_stage}
use Rattle.gq_trade.proofs.Balances_after_trades.{for_other}

-- NODES THAT START OR END

module _ (ns : List NodeState) (k : ℕ) (s : Stage) where
  pub staged_here : k < length ns → node_at (staged ns k s) k ≡ with_stage (node_at ns k) s
  staged_here lt = get_or-set_same ns k (with_stage (node_at ns k) s) no_node lt

  pub staged_other : (i : ℕ) → (i ≡ k → ⊥) → node_at (staged ns k s) i ≡ node_at ns i
  staged_other i ne = get_or-set_other ns k i (with_stage (node_at ns k) s) no_node ne

  -- quanta and who starts after whom stay
  pub staged_same : {A : Type 0} (f : NodeState → A) → ((n : NodeState) → f (with_stage n s) ≡ f n) → k < length ns → (i : ℕ)
      → f (node_at (staged ns k s) i) ≡ f (node_at ns i)
  staged_same f same lt i = elim (cases_eq i k) [
    | inl e ↦
        ap (λ j. f (node_at (staged ns k s) j)) e
        ∙ ap f (staged_here lt)
        ∙ same (node_at ns k)
        ∙ ap (λ j. f (node_at ns j)) (sym e)
    | inr ne ↦ ap f (staged_other i ne)
  ]

-- WHAT IS HANDED ON

spent_set : (f : Amount → ℕ) (i : ℕ) (ps : List ℕ) (ns : List NodeState) (k : ℕ) (n : NodeState) → k < length ps → k < length ns
    → spent_in f i ps (map handed (set ns k n)) + part f i (get_or ps k 0) (handed (node_at ns k))
    ≡ spent_in f i ps (map handed ns) + part f i (get_or ps k 0) (handed n)
spent_set f i [] ns k n pl nl = absurd (omega (arith, pl))
spent_set f i (p ∷ ps) [] k n pl nl = absurd (omega (arith, nl))
spent_set f i (p ∷ ps) (m ∷ ns) zero n pl nl = omega arith
spent_set f i (p ∷ ps) (m ∷ ns) (suc k) n pl nl = let further = spent_set f i ps ns k n (omega (arith, pl)) (omega (arith, nl)) in omega (arith, further)

spent_all : (f : Amount → ℕ) (i : ℕ) (ps : List ℕ) (ns : List NodeState) (k : ℕ) (n : NodeState) → 0 < k → k < length ps → k < length ns
    → spent_in f i (tail ps) (tail (map handed (set ns k n))) + part f i (get_or ps k 0) (handed (node_at ns k))
    ≡ spent_in f i (tail ps) (tail (map handed ns)) + part f i (get_or ps k 0) (handed n)
spent_all f i ps ns zero n pos pl nl = absurd (omega (arith, pos))
spent_all f i [] ns (suc k) n pos pl nl = absurd (omega (arith, pl))
spent_all f i (p ∷ ps) [] (suc k) n pos pl nl = absurd (omega (arith, nl))
spent_all f i (p ∷ ps) (m ∷ ns) (suc k) n pos pl nl = spent_set f i ps ns k n (omega (arith, pl)) (omega (arith, nl))

-- another node in the place k: its init has handed on so much more or less
pub spent_staged : (f : Amount → ℕ) (t : Tree) (ns : List NodeState) (k : ℕ) (n : NodeState) (i : ℕ) → 0 < k → k < length t.parents → length ns ≡ length
    t.parents
    → spent f t (map handed (set ns k n)) i + for_node (parent t k) i (f (handed (node_at ns k)))
    ≡ spent f t (map handed ns) i + for_node (parent t k) i (f (handed n))
spent_staged f t ns k n i pos lt count = spent_all f i t.parents ns k n pos lt (omega (arith, lt, count))

spent_none_in : (f : Amount → ℕ) (i : ℕ) (ps : List ℕ) (hs : List Amount) → ((k : ℕ) → k < length ps → get_or ps k 0 ≡ i → ⊥) → spent_in f i ps hs ≡ 0
spent_none_in f i [] hs empty = refl
spent_none_in f i (p ∷ ps) [] empty = refl
spent_none_in f i (p ∷ ps) (a ∷ hs) empty =
    let here : part f i p a ≡ 0 = for_other p i (f a) (empty zero (omega arith)) in
    let further = spent_none_in f i ps hs (λ k lt. empty (suc k) (omega (arith, lt))) in
    omega (arith, here, further)

none_below : (f : Amount → ℕ) (i : ℕ) (ps : List ℕ) (hs : List Amount) → ((k : ℕ) → 0 < k → k < length ps → get_or ps k 0 ≡ i → ⊥)
    → spent_in f i (tail ps) (tail hs) ≡ 0
none_below f i [] hs empty = refl
none_below f i (p ∷ ps) [] empty = spent_none_in f i ps [] (λ k lt. empty (suc k) (omega arith) (omega (arith, lt)))
none_below f i (p ∷ ps) (a ∷ hs) empty = spent_none_in f i ps hs (λ k lt. empty (suc k) (omega arith) (omega (arith, lt)))

-- a node with no node below it has handed on nothing
pub spent_none : (f : Amount → ℕ) (t : Tree) (hs : List Amount) (i : ℕ) → ((k : ℕ) → 0 < k → k < length t.parents → parent t k ≡ i → ⊥)
    → spent f t hs i ≡ 0
spent_none f t hs i empty = none_below f i t.parents hs empty

-- SESSIONS

-- a sum over sessions of which each adds nothing
pub sum_none : (g : Option Session → ℕ) → g None ≡ 0 → (ss : List (Option Session)) → ((k : ℕ) → IsTaken ss k → g (Some (session_in ss k)) ≡ 0)
    → sum_by g ss ≡ 0
sum_none g none [] each = refl
sum_none g none (None ∷ ss) each =
    let further = sum_none g none ss (λ k. each (suc k)) in let e = sum_by-cons g None ss in omega (arith, further, e, none)
sum_none g none (Some s ∷ ss) each =
    let here = each zero refl in
    let further = sum_none g none ss (λ k. each (suc k)) in let e = sum_by-cons g (Some s) ss in omega (arith, here, further, e)
