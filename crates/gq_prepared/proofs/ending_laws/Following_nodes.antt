-- The node that starts where another ends.
use Rattle.std.proofs.Common.{◌≡◌, ℕ, zero, suc, ◌+◌, ◌<◌, Bool, true, false, cond, List, [], ◌∷◌, length, length-set, Option, Some, None, IfSome}
use Rattle.std.proofs.Common.{refl, ap, sym, ◌∙◌, arith}
use Rattle.std.proofs.lemmas.Bool.{eqb-true}
use Rattle.gq_model.proofs.Small_facts.{equal_self}
use Rattle.gq_trade.specs.declared.trade_node.NodeState.{NodeState}
use Rattle.gq_trade.specs.declared.trade_node.Stage.{Stage}
use Rattle.gq_trade.specs.declared.trade_node.Stage.TheVariants.{Pending, Live, Ended}
use Rattle.gq_trade.specs.Balances.{node_at}
use Rattle.gq_trade.specs.Leaf_ends.{follower, follower_from, if_pending, is_number, staged, started, waits_for, with_stage}
use Rattle.gq_trade.specs.Trades.{Trades}
use Rattle.gq_trade.proofs.Leaf_end_start.{IsFollower, if_follower}
use Rattle.gq_trade.proofs.Init_spending.{staged_here, staged_other, staged_same}

-- WHO WAITS

-- a node that is pending and starts after the node i
pub record Waits (i : ℕ) (n : NodeState) : Type 0 where
  pub pending : n.stage ≡ Pending
  pub after : n.after ≡ Some i

is_number_then : (i : ℕ) (o : Option ℕ) → is_number i o ≡ true → o ≡ Some i
is_number_then i None e = cc
is_number_then i (Some j) e = ap (λ (k : ℕ). Some k) (eqb-true j i e)

pending_then : (s : Stage) (b : Bool) → if_pending s b ≡ true → (s ≡ Pending) × (b ≡ true)
pending_then Pending b e = (refl, e)
pending_then Live b e = cc
pending_then Ended b e = cc

waits_then : (i : ℕ) (n : NodeState) → waits_for i n ≡ true → Waits i n
waits_then i n e = let p = pending_then n.stage (is_number i n.after) e in record { pending = p.0; after = is_number_then i n.after p.1 }

waits_from : (i : ℕ) (n : NodeState) → Waits i n → waits_for i n ≡ true
waits_from i n w =
    ap (λ s. if_pending s (is_number i n.after)) w.pending ∙ (ap (λ o. if_pending Pending (is_number i o)) w.after ∙ equal_self i)

first_here : (b : Bool) (k i m : ℕ) (n : NodeState) (ns : List NodeState) → waits_for i n ≡ b → (waits_for i n ≡ true → zero ≡ suc m)
    → follower_from (suc k) i ns ≡ Some (suc k + m) → cond b (Some k) (follower_from (suc k) i ns) ≡ Some (k + suc m)
first_here true k i m n ns e only later = absurd (omega (arith, only e))
first_here false k i m n ns e only later = later ∙ ap (λ (j : ℕ). Some j) (omega arith)

-- where one alone waits, it is the first
alone_from : (k i m : ℕ) (ns : List NodeState) → m < length ns → waits_for i (node_at ns m) ≡ true
    → ((j : ℕ) → j < length ns → waits_for i (node_at ns j) ≡ true → j ≡ m) → follower_from k i ns ≡ Some (k + m)
alone_from k i m [] less waits only = absurd (omega (arith, less))
alone_from k i zero (n ∷ ns) less waits only = ap (λ b. cond b (Some k) (follower_from (suc k) i ns)) waits ∙ ap (λ (j : ℕ). Some j) (omega arith)
alone_from k i (suc m) (n ∷ ns) less waits only =
    first_here (waits_for i n) k i m n ns refl (only zero (omega arith))
    (alone_from (suc k) i m ns (omega (arith, less)) waits (λ j l w. let e = only (suc j) (omega (arith, l)) w in omega (arith, e)))

pub alone_follows : (i m : ℕ) (ns : List NodeState) → m < length ns → Waits i (node_at ns m) → ((j : ℕ) → j < length ns → Waits i (node_at ns j) → j ≡ m)
    → follower i ns ≡ Some m
alone_follows i m ns less waits only =
    alone_from 0 i m ns less (waits_from i (node_at ns m) waits) (λ j l e. only j l (waits_then i (node_at ns j) e)) ∙ ap (λ (j : ℕ). Some j) (omega arith)

-- who starts waited
pub follows_then : (i : ℕ) (ns : List NodeState) → IfSome (follower i ns) (λ m. IsFollower ns i m)
follows_then i ns = if_follower i ns (λ m. IsFollower ns i m) (λ m f. f) (follower i ns) refl

-- WHO STARTS

-- the nodes where this one has started, if there is one
abbrev pub then_nodes : List NodeState → Option ℕ → List NodeState
then_nodes ns None = ns
then_nodes ns (Some i) = staged ns i Live

-- all but the accounts
pub record SameWhole (w v : Trades) : Type 0 where
  pub parents : v.trading.tree.parents ≡ w.trading.tree.parents
  pub leaves : v.trading.leaves ≡ w.trading.leaves
  pub objects : v.trading.objects ≡ w.trading.objects
  pub price : v.trading.ledger.price ≡ w.trading.ledger.price

pub started_whole : (w : Trades) (o : Option ℕ) → SameWhole w (started w o)
started_whole w None = record { parents = refl; leaves = refl; objects = refl; price = refl }
started_whole w (Some i) = record { parents = refl; leaves = refl; objects = refl; price = refl }

pub started_nodes : (w : Trades) (o : Option ℕ) → (started w o).nodes ≡ then_nodes w.nodes o
started_nodes w None = refl
started_nodes w (Some i) = refl

pub then_long : (ns : List NodeState) (o : Option ℕ) → length (then_nodes ns o) ≡ length ns
then_long ns None = refl
then_long ns (Some i) = length-set ns i (with_stage (node_at ns i) Live)

-- what is no stage stays
pub then_same : {A : Type 0} (F : NodeState → A) → ((n : NodeState) (s : Stage) → F (with_stage n s) ≡ F n) → (ns : List NodeState) (o : Option ℕ)
    → IfSome o (λ i. i < length ns) → (j : ℕ) → F (node_at (then_nodes ns o) j) ≡ F (node_at ns j)
then_same F same ns None h j = refl
then_same F same ns (Some i) h j = staged_same ns i Live F (λ n. same n Live) h j

pub then_live : (ns : List NodeState) (o : Option ℕ) (i : ℕ) → i < length ns → o ≡ Some i → (node_at (then_nodes ns o) i).stage ≡ Live
then_live ns o i less e =
    ap (λ p. (node_at (then_nodes ns p) i).stage) e ∙ ap (λ (n : NodeState). n.stage) (staged_here ns i Live less)

pub then_stays : (ns : List NodeState) (o : Option ℕ) (j : ℕ) → (o ≡ Some j → ⊥) → (node_at (then_nodes ns o) j).stage ≡ (node_at ns j).stage
then_stays ns None j other = refl
then_stays ns (Some i) j other = ap (λ (n : NodeState). n.stage) (staged_other ns i Live j (λ e. other (ap (λ (k : ℕ). Some k) (sym e))))
