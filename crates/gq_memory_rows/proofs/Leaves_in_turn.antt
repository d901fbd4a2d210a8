-- What holds of leaves that start one after the other.
use Rattle.std.proofs.Common.{◌≡◌, ℕ, ◌<◌, List, [], ◌∷◌, length, get_or, Option, Some, None, Result, Ok, Err, IfOk, true, false, refl, sym, ap, subst, ◌∙◌}
use Rattle.gq_trade.specs.Numbers.{IsTaken}
use Rattle.gq_trade.specs.Trading.{Trading, node_of}
use Rattle.gq_trade.specs.declared.trade_node.NodeState.{NodeState}
use Rattle.gq_trade.specs.declared.trade_node.Stage.TheVariants.{Ended, Live}
use Rattle.gq_trade.specs.Balances.{node_at}
use Rattle.gq_trade.specs.Leaf_ends.{Ends, HasNoSessions, follower, staged, started}
use Rattle.gq_trade.specs.Trades_plan.{IsFirst}
use Rattle.gq_trade.specs.Trades.{Trades, IsLive}
use Rattle.gq_memory_rows.specs.Markets.{IsLine}

pub if_ok : {A E : Type 0} {P Q : A → Type 0} (r : Result A E) → ((a : A) → P a → Q a) → IfOk r P → IfOk r Q
if_ok (Ok a) f p = f a p
if_ok (Err e) f p = p

pub line_first : (total : ℕ) (caps : Option ℕ) (room : ℕ) {ps : List ℕ} {ns ms : List NodeState} {xs os : List ℕ} → ns ≡ ms → xs ≡ 1 ∷ 2 ∷ 3 ∷ []
    → (w : Trades) → IsFirst total caps ps ns xs os room w → IsLine w ms
line_first total caps room a b w first = record { nodes = first.nodes ∙ a; leaves = first.leaves ∙ b; sessions = first.sessions }

pub line_live : (w : Trades) (ns : List NodeState) (x : ℕ) → IsLine w ns → x < 3 → (node_at ns (get_or (1 ∷ 2 ∷ 3 ∷ []) x 0)).stage ≡ Live → IsLive w x
line_live w ns x l lt h = record {
  there = subst (λ xs. x < length xs) (sym l.leaves) lt;
  live = (λ k. (node_at (l.nodes k) (get_or (l.leaves k) x 0)).stage) ∙ h;
}

none_taken : false ≡ true → ⊥
none_taken e = cc

pub line_alone : (w : Trades) (ns : List NodeState) (x : ℕ) → IsLine w ns → HasNoSessions w.trading x
line_alone w ns x l k taken = absurd (none_taken (subst (λ ss. IsTaken ss k) l.sessions taken))

pub line_kept : (w v : Trades) (ns : List NodeState) → v.nodes ≡ w.nodes → v.trading.leaves ≡ w.trading.leaves → v.trading.sessions ≡ w.trading.sessions
    → IsLine w ns → IsLine v ns
line_kept w v ns a b c l = record { nodes = a ∙ l.nodes; leaves = b ∙ l.leaves; sessions = c ∙ l.sessions }

-- these nodes, once one of them is live
abbrev start : List NodeState → Option ℕ → List NodeState
start ns None = ns
start ns (Some j) = staged ns j Live

abbrev pub after_end : List NodeState → ℕ → List NodeState
after_end ns i = start (staged ns i Ended) (follower i (staged ns i Ended))

started_nodes : (u : Trades) (o : Option ℕ) → (started u o).nodes ≡ start u.nodes o
started_nodes u None = refl
started_nodes u (Some i) = refl

started_leaves : (u : Trades) (o : Option ℕ) → (started u o).trading.leaves ≡ u.trading.leaves
started_leaves u None = refl
started_leaves u (Some i) = refl

started_sessions : (u : Trades) (o : Option ℕ) → (started u o).trading.sessions ≡ u.trading.sessions
started_sessions u None = refl
started_sessions u (Some i) = refl

pub line_ends : (w v : Trades) (ns : List NodeState) (x : ℕ) → Ends w v x → IsLine w ns → IsLine v (after_end ns (get_or (1 ∷ 2 ∷ 3 ∷ []) x 0))
line_ends w v ns x e l =
    let ms : List NodeState = staged w.nodes (node_of w.trading x) Ended in
    let u : Trades = record { trading = e.between; nodes = ms } in
    let o : Option ℕ = follower (node_of w.trading x) ms in
    record {
      nodes = ap (λ (y : Trades). y.nodes) e.is ∙ started_nodes u o ∙ (λ k. after_end (l.nodes k) (get_or (l.leaves k) x 0));
      leaves = ap (λ (y : Trades). y.trading.leaves) e.is ∙ started_leaves u o ∙ ap (λ (y : Trading). y.leaves) e.leaves.is ∙ l.leaves;
      sessions = ap (λ (y : Trades). y.trading.sessions) e.is ∙ started_sessions u o ∙ ap (λ (y : Trading). y.sessions) e.leaves.is ∙ l.sessions;
    }
