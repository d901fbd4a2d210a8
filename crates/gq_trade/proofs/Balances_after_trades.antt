-- Balances after each call.
use Rattle.std.proofs.Common.{◌≡◌, ℕ, ◌+◌, ◌-◌, ◌<◌, ◌≤◌, inl, inr, List, length, set, Some, None, refl, sym, ap, ◌∙◌, arith}
use Rattle.std.proofs.lemmas.Bool.{cases_eq}
use Rattle.std.proofs.lemmas.Bool.Decides.{eqb_tells}
use Rattle.gq_tariff.specs.declared.amount.Amount.{Amount}
use Rattle.gq_ram.specs.declared.account.Account.{Account}
use Rattle.gq_ram.specs.Account_table.{Entries, account_at, its_account, no_amount, with_caps, with_quota, IsOpen}
use Rattle.gq_ram.specs.Account_tree.{Tree, AreNodes, account_of as account_in, donated, number, less, more}
use Rattle.gq_ram.proofs.Quota_move_sequences.{giver_now, taker_now, other_now}
use Rattle.gq_trade.specs.Numbers.{IsTaken}
use Rattle.gq_ram.specs.Account_stores.{SameRest}
use Rattle.gq_ram.specs.Ledgers.{Ledger}
use Rattle.gq_trade.specs.declared.session.Session.{Session}
use Rattle.gq_trade.specs.Trading.{Trading, account_of, asked, client_of, node_of, given, server_of, session_at, upgraded, with_ledger, with_more}
use Rattle.gq_trade.specs.Trading.{with_session, with_sessions}
use Rattle.gq_trade.specs.declared.trade_node.NodeState.{NodeState}
use Rattle.gq_trade.specs.Balances.{IsEven, for_node, lent_for, quota, received_for}
use Rattle.gq_trade.proofs.Session_sums.{sum_added, sum_set}

-- one of the two kinds: it adds up and is taken away
pub record IsKind (f : Amount → ℕ) : Type 0 where
  pub less_is : (a : Account) (n : Amount) → f (less a n).quota ≡ f a.quota - f n
  pub more_is : (a : Account) (n : Amount) → f (more a n).quota ≡ f a.quota + f n
  pub plus_is : (a b : Amount) → f (record { ram = a.ram + b.ram; caps = a.caps + b.caps }) ≡ f a + f b
  pub none_is : f no_amount ≡ 0
  pub heir_is : (a b : Account)
      → f (with_caps (with_quota a (a.quota.ram + b.quota.ram)) (a.quota.caps + b.quota.caps)).quota ≡ f a.quota + f b.quota

pub ram_kind : IsKind (λ n. n.ram)
ram_kind = record { less_is = λ a n. refl; more_is = λ a n. refl; plus_is = λ a b. refl; none_is = refl; heir_is = λ a b. refl }

pub caps_kind : IsKind (λ n. n.caps)
caps_kind = record { less_is = λ a n. refl; more_is = λ a n. refl; plus_is = λ a b. refl; none_is = refl; heir_is = λ a b. refl }

pub for_same : (j i n : ℕ) → j ≡ i → for_node j i n ≡ n
for_same j i n e = elim (eqb_tells j i) [
  | inl t ↦ rw t.0 refl
  | inr u ↦ absurd (u.1 e)
]

pub for_other : (j i n : ℕ) → (j ≡ i → ⊥) → for_node j i n ≡ 0
for_other j i n ne = elim (eqb_tells j i) [
  | inl t ↦ absurd (ne t.1)
  | inr u ↦ rw u.0 refl
]

for_sum : (j i m n : ℕ) → for_node j i (m + n) ≡ for_node j i m + for_node j i n
for_sum j i m n = elim (eqb_tells j i) [
  | inl t ↦ rw t.0 refl
  | inr u ↦ rw u.0 refl
]

-- what goes from the node a to the node b is less for the one and more for the other
module _ (f : Amount → ℕ) (kind : IsKind f) (w : Trading) (a b : ℕ) (n : Amount) (nodes : AreNodes w.tree w.ledger.accounts)
    (al : a < length w.tree.parents) (bl : b < length w.tree.parents) (ao : IsOpen w.ledger.accounts (number w.tree a))
    (bo : IsOpen w.ledger.accounts (number w.tree b)) (ne : b ≡ a → ⊥) (enough : f n ≤ quota f w a) where
  abbrev es : Entries
  es = w.ledger.accounts

  numbers_apart : number w.tree b ≡ number w.tree a → ⊥
  numbers_apart e = ne (nodes.apart b a bl al e)

  abbrev after : Trading
  after = with_ledger w ((donated w.tree w.ledger a b n))

  pub moved_quota : (i : ℕ) → i < length w.tree.parents → quota f after i + for_node a i (f n) ≡ quota f w i + for_node b i (f n)
  moved_quota i lt = elim (cases_eq i a) [
    | inl e ↦
        let q : quota f after i ≡ quota f w a - f n =
        ap (quota f after) e
        ∙ ap (λ (x : Account). f x.quota) (giver_now es (number w.tree a) (number w.tree b) n ao bo numbers_apart)
        ∙ kind.less_is (account_at es (number w.tree a)) n in
        omega (arith, q, ap (quota f w) e, enough, for_same a i (f n) (sym e), for_other b i (f n) (λ d. ne (d ∙ e)))
    | inr na ↦ elim (cases_eq i b) [
      | inl e ↦
          let q : quota f after i ≡ quota f w b + f n =
          ap (quota f after) e
          ∙ ap (λ (x : Account). f x.quota) (taker_now es (number w.tree a) (number w.tree b) n ao bo numbers_apart)
          ∙ kind.more_is (account_at es (number w.tree b)) n in
          omega (arith, q, ap (quota f w) e, for_other a i (f n) (λ d. na (sym d)), for_same b i (f n) (sym e))
      | inr nb ↦
          let q : quota f after i ≡ quota f w i =
          ap (λ (x : Account). f x.quota)
          (other_now es (number w.tree a) (number w.tree b) n (number w.tree i) (λ d. na (nodes.apart i a lt al d)) (λ d. nb (nodes.apart i b lt bl d))) in
          omega (arith, q, for_other a i (f n) (λ d. na (sym d)), for_other b i (f n) (λ d. nb (sym d)))
    ]
  ]

-- what an account pays changes no quota
pub rest_quota : (f : Amount → ℕ) (t : Tree) (a : ℕ) (m n : Ledger) (i : ℕ) → SameRest a m n
    → f (account_in t n i).quota ≡ f (account_in t m i).quota
rest_quota f t a m n i s = elim (cases_eq (number t i) a) [
  | inl e ↦
      ap (λ k. f (account_at n.accounts k).quota) e ∙ ap f s.quota ∙ ap (λ k. f (account_at m.accounts k).quota) (sym e)
  | inr ne ↦ ap (λ o. f (its_account o).quota) (s.accounts (number t i) ne)
]

-- CALLS

module _ (f : Amount → ℕ) (kind : IsKind f) (w : Trading) (ns : List NodeState) where
  -- a session is asked for, and its donation given
  pub asked_even : (s : Session) → AreNodes w.tree w.ledger.accounts → node_of w s.client < length w.tree.parents
      → node_of w s.server < length w.tree.parents → IsOpen w.ledger.accounts (account_of w s.client)
      → IsOpen w.ledger.accounts (account_of w s.server) → (node_of w s.server ≡ node_of w s.client → ⊥)
      → f s.donation ≤ quota f w (node_of w s.client) → (i : ℕ) → i < length w.tree.parents → IsEven f w ns i → IsEven f (asked w s) ns i
  asked_even s nodes xl yl xo yo ne enough i lt h =
      let q = moved_quota f kind w (node_of w s.client) (node_of w s.server) s.donation nodes xl yl xo yo ne enough i lt in
      let l = sum_added (lent_for f w.leaves i) refl s w.sessions in
      let r = sum_added (received_for f w.leaves i) refl s w.sessions in
      omega (arith, h, q, l, r)

  -- more is given for a session
  pub upgraded_even : (k : ℕ) (n : Amount) → AreNodes w.tree w.ledger.accounts → IsTaken w.sessions k
      → node_of w (client_of w k) < length w.tree.parents → node_of w (server_of w k) < length w.tree.parents
      → IsOpen w.ledger.accounts (account_of w (client_of w k)) → IsOpen w.ledger.accounts (account_of w (server_of w k))
      → (node_of w (server_of w k) ≡ node_of w (client_of w k) → ⊥) → f n ≤ quota f w (node_of w (client_of w k)) → (i : ℕ)
      → i < length w.tree.parents → IsEven f w ns i → IsEven f (upgraded w k n) ns i
  upgraded_even k n nodes t xl yl xo yo ne enough i lt h =
      let s = session_at w k in
      let q = moved_quota f kind w (node_of w s.client) (node_of w s.server) n nodes xl yl xo yo ne enough i lt in
      let l = sum_set (lent_for f w.leaves i) refl w.sessions k (Some (with_more s n)) t in
      let r = sum_set (received_for f w.leaves i) refl w.sessions k (Some (with_more s n)) t in
      let plus = kind.plus_is s.donation n in
      let lp = ap (for_node (node_of w s.client) i) plus ∙ for_sum (node_of w s.client) i (f s.donation) (f n) in
      let rp = ap (for_node (node_of w s.server) i) plus ∙ for_sum (node_of w s.server) i (f s.donation) (f n) in
      omega (arith, h, q, l, r, lp, rp)

  -- other memory, with the same quotas, and another session of the same client, server and donation in the place of one
  pub session_even : (m : Ledger) (k : ℕ) (s : Session) → ((i : ℕ) → quota f (with_ledger w m) i ≡ quota f w i) → IsTaken w.sessions k
      → s.client ≡ client_of w k → s.server ≡ server_of w k → f s.donation ≡ f (session_at w k).donation → (i : ℕ) → IsEven f w ns i
      → IsEven f (with_session (with_ledger w m) k s) ns i
  session_even m k s same t ec es ed i h =
      let l = sum_set (lent_for f w.leaves i) refl w.sessions k (Some s) t in
      let r = sum_set (received_for f w.leaves i) refl w.sessions k (Some s) t in
      let lp : lent_for f w.leaves i (Some s) ≡ lent_for f w.leaves i (Some (session_at w k)) =
      ap (λ x. for_node (node_of w x) i (f s.donation)) ec ∙ ap (for_node (node_of w (client_of w k)) i) ed in
      let rp : received_for f w.leaves i (Some s) ≡ received_for f w.leaves i (Some (session_at w k)) =
      ap (λ x. for_node (node_of w x) i (f s.donation)) es ∙ ap (for_node (node_of w (server_of w k)) i) ed in
      omega (arith, h, same i, l, r, lp, rp)

  -- a session ends, and its donation goes back, once what its object cost is paid no more
  pub closed_even : (m : Ledger) (k : ℕ) → ((i : ℕ) → quota f (with_ledger w m) i ≡ quota f w i) → AreNodes w.tree m.accounts
      → IsTaken w.sessions k → node_of w (client_of w k) < length w.tree.parents → node_of w (server_of w k) < length w.tree.parents
      → IsOpen m.accounts (account_of w (client_of w k)) → IsOpen m.accounts (account_of w (server_of w k))
      → (node_of w (client_of w k) ≡ node_of w (server_of w k) → ⊥) → f (session_at w k).donation ≤ quota f (with_ledger w m) (node_of w (server_of w k))
      → (i : ℕ) → i < length w.tree.parents → IsEven f w ns i
      → IsEven f (with_sessions (given (with_ledger w m) (server_of w k) (client_of w k) (session_at w k).donation) (set w.sessions k None)) ns i
  closed_even m k same nodes t xl yl xo yo ne enough i lt h =
      let s = session_at w k in
      let q = moved_quota f kind (with_ledger w m) (node_of w s.server) (node_of w s.client) s.donation nodes yl xl yo xo ne enough i lt in
      let l = sum_set (lent_for f w.leaves i) refl w.sessions k None t in
      let r = sum_set (received_for f w.leaves i) refl w.sessions k None t in
      omega (arith, h, same i, q, l, r)
