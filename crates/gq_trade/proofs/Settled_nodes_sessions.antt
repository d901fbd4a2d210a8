-- What holds of nodes and sessions, after each call.
use Rattle.std.proofs.Common.{◌≡◌, ℕ, zero, suc, inl, inr, List, [], ◌∷◌, set, Option, Some, None, true, false, refl, sym, ap, subst, ◌∙◌}
use Rattle.std.proofs.lemmas.Bool.{cases_eq}
use Rattle.gq_tariff.specs.declared.amount.Amount.{Amount}
use Rattle.gq_ram.specs.Account_table.{Entries, account_at, its_account, IsOpen}
use Rattle.gq_ram.specs.Account_tree.{Tree, moved, number}
use Rattle.gq_ram.proofs.Quota_move_sequences.{still_open, reference_kept}
use Rattle.gq_trade.specs.Numbers.{added, free_number, IsTaken}
use Rattle.gq_ram.specs.Account_stores.{SameRest}
use Rattle.gq_ram.specs.Ledgers.{Ledger}
use Rattle.gq_trade.specs.declared.session.Session.{Session}
use Rattle.gq_trade.specs.Trading.{session_in}
use Rattle.gq_trade.specs.declared.trade_node.NodeState.{NodeState}
use Rattle.gq_trade.specs.Trades.{AreSettled}

-- SESSIONS

taken_none : false ≡ true → ⊥
taken_none h = cc

-- so it is of each session that is there
abbrev pub Each : (ℕ → Session → Type 0) → List (Option Session) → Type 0
Each P ss = (k : ℕ) → IsTaken ss k → P k (session_in ss k)

pub each_added : (P : ℕ → Session → Type 0) (s : Session) (ss : List (Option Session)) → P (free_number ss) s → Each P ss → Each P (added s ss)
each_added P s [] p h zero t = p
each_added P s [] p h (suc k) t = absurd (taken_none t)
each_added P s (None ∷ ss) p h zero t = p
each_added P s (None ∷ ss) p h (suc k) t = h (suc k) t
each_added P s (Some u ∷ ss) p h zero t = h zero refl
each_added P s (Some u ∷ ss) p h (suc k) t = each_added (λ j. P (suc j)) s ss p (λ j. h (suc j)) k t

pub each_set : (P : ℕ → Session → Type 0) (ss : List (Option Session)) (k : ℕ) (s : Session) → P k s → Each P ss → Each P (set ss k (Some s))
each_set P [] k s p h j t = h j t
each_set P (x ∷ ss) zero s p h zero t = p
each_set P (x ∷ ss) zero s p h (suc j) t = h (suc j) t
each_set P (x ∷ ss) (suc k) s p h zero t = h zero t
each_set P (x ∷ ss) (suc k) s p h (suc j) t = each_set (λ i. P (suc i)) ss k s p (λ i. h (suc i)) j t

pub each_unset : (P : ℕ → Session → Type 0) (ss : List (Option Session)) (k : ℕ) → Each P ss → Each P (set ss k None)
each_unset P [] k h j t = h j t
each_unset P (x ∷ ss) zero h zero t = absurd (taken_none t)
each_unset P (x ∷ ss) zero h (suc j) t = h (suc j) t
each_unset P (x ∷ ss) (suc k) h zero t = h zero t
each_unset P (x ∷ ss) (suc k) h (suc j) t = each_unset (λ i. P (suc i)) ss k (λ i. h (suc i)) j t

-- NODES

-- accounts that are open stay open, and keep their reference accounts
pub settled_kept : (t : Tree) (leaves : List ℕ) (ns : List NodeState) (es fs : Entries) → AreSettled t leaves ns es
    → ((a : ℕ) → IsOpen es a → IsOpen fs a) → ((a : ℕ) → (account_at fs a).reference ≡ (account_at es a).reference) → AreSettled t leaves ns fs
settled_kept t leaves ns es fs h still same = record {
  count = h.count;
  below = h.below;
  childless = h.childless;
  root = h.root;
  inits = h.inits;
  opened = λ i lt ne. still (number t i) (h.opened i lt ne);
  after = h.after;
  alone = λ x k lt e. h.alone x k lt (sym (same k) ∙ e);
}

pub moved_settled : (t : Tree) (leaves : List ℕ) (ns : List NodeState) (es : Entries) (x y : ℕ) (n : Amount) → AreSettled t leaves ns es → IsOpen es x
    → IsOpen es y → AreSettled t leaves ns (moved es x y n)
moved_settled t leaves ns es x y n h xo yo =
    settled_kept t leaves ns es (moved es x y n) h (still_open es x y n) (λ a. reference_kept es x y n a xo yo)

reference_same : (p : ℕ) (m n : Ledger) (a : ℕ) → SameRest p m n
    → (account_at n.accounts a).reference ≡ (account_at m.accounts a).reference
reference_same p m n a s = elim (cases_eq a p) [
  | inl e ↦
      subst (λ x. (account_at n.accounts x).reference ≡ (account_at m.accounts x).reference) (sym e) s.reference
  | inr ne ↦ ap (λ o. (its_account o).reference) (s.accounts a ne)
]

pub rest_settled : (t : Tree) (leaves : List ℕ) (ns : List NodeState) (a : ℕ) (m n : Ledger) → AreSettled t leaves ns m.accounts → SameRest a m n
    → AreSettled t leaves ns n.accounts
rest_settled t leaves ns a m n h s = settled_kept t leaves ns m.accounts n.accounts h s.still_open (λ k. reference_same a m n k s)
