-- Accounts that are closed.
use Rattle.std.proofs.Common.{◌≡◌, ℕ, ◌+◌, ◌<◌, inl, inr, length, set, get_or, Option, Some, None, IsTrue, IfSome, refl, sym, ap, subst, ◌∙◌, arith, length-set}
use Rattle.std.specs.Prelude.{is_some}
use Rattle.std.proofs.lemmas.List.{get_or-set_same, get_or-set_other}
use Rattle.std.proofs.lemmas.Bool.{cases_eq}
use Rattle.gq_ram.specs.declared.account.Account.{Account}
use Rattle.gq_store.specs.declared.AccountNo.{AccountNo}
use Rattle.gq_ram.specs.Account_table.{Entries, account_at, its_account, left_to, with_caps, with_quota, IsOpen}
use Rattle.gq_ram.proofs.Account_caller_facts.{open_there}
use Rattle.gq_ram.specs.Ledgers.{Ledger, IsBalanced}
use Rattle.gq_ram.specs.Account_tree.{Tree, AreNodes, number}
use Rattle.gq_trade.specs.Rest.{IsClosed}
use Rattle.gq_trade.specs.Trading.{Trading, IsTrading, Leaves, account_no, account_of, init_no, node_of, with_ledger}

none_there : (o : Option Account) → o ≡ None → IsTrue (is_some o) → ⊥
none_there None e h = cc
none_there (Some x) e h = cc

-- the account a is closed, and its quota goes to the account r
module _ (es : Entries) (a r : ℕ) (ao : IsOpen es a) (ro : IsOpen es r) (ne : r ≡ a → ⊥) where
  abbrev pub heir : Account
  heir =
      with_caps (with_quota (account_at es r) ((account_at es r).quota.ram + (account_at es a).quota.ram))
      ((account_at es r).quota.caps + (account_at es a).quota.caps)

  pub gone : get_or (left_to es a r) a None ≡ None
  gone = get_or-set_other (set es a None) r a (Some heir) None (λ e. ne (sym e)) ∙ get_or-set_same es a None None (open_there es a ao)

  pub heir_now : account_at (left_to es a r) r ≡ heir
  heir_now = ap its_account (get_or-set_same (set es a None) r (Some heir) None (omega (arith, length-set es a None, open_there es r ro)))

  pub other_entry : (k : ℕ) → (k ≡ a → ⊥) → (k ≡ r → ⊥) → get_or (left_to es a r) k None ≡ get_or es k None
  other_entry k na nr = get_or-set_other (set es a None) r k (Some heir) None nr ∙ get_or-set_other es a k None None na

  pub reference_stays : (k : ℕ) → (k ≡ a → ⊥) → (account_at (left_to es a r) k).reference ≡ (account_at es k).reference
  reference_stays k na = elim (cases_eq k r) [
    | inl e ↦
        ap (λ j. (account_at (left_to es a r) j).reference) e
        ∙ ap (λ (x : Account). x.reference) heir_now
        ∙ ap (λ j. (account_at es j).reference) (sym e)
    | inr nr ↦ ap (λ o. (its_account o).reference) (other_entry k na nr)
  ]

  pub not_closed : (k : ℕ) → IsOpen (left_to es a r) k → k ≡ a → ⊥
  not_closed k h e = none_there (get_or (left_to es a r) k None) (ap (λ j. get_or (left_to es a r) j None) e ∙ gone) h

  pub was_open_too : (k : ℕ) → IsOpen (left_to es a r) k → IsOpen es k
  was_open_too k h = elim (cases_eq k r) [
    | inl e ↦ subst (IsOpen es) (sym e) ro
    | inr nr ↦ subst (λ (o : Option Account). IsTrue (is_some o)) (other_entry k (not_closed k h) nr) h
  ]

  pub open_still : (k : ℕ) → (k ≡ a → ⊥) → IsOpen es k → IsOpen (left_to es a r) k
  open_still k na h = elim (cases_eq k r) [
    | inl e ↦
        subst (λ (o : Option Account). IsTrue (is_some o))
        (sym (get_or-set_same (set es a None) r (Some heir) None (omega (arith, length-set es a None, open_there es r ro)))
        ∙ ap (λ j. get_or (left_to es a r) j None) (sym e)) refl
    | inr nr ↦ subst (λ (o : Option Account). IsTrue (is_some o)) (sym (other_entry k na nr)) h
  ]

  pub nodes_after : (t : Tree) → AreNodes t es → AreNodes t (left_to es a r)
  nodes_after t n = record {
    apart = n.apart;
    references = λ i pos lt h. reference_stays (number t i) (not_closed (number t i) h) ∙ n.references i pos lt (was_open_too (number t i) h);
  }

-- m is the ledger once the account of the leaf x is closed
pub closed_kept : (w : Trading) (x : ℕ) (m : Ledger) (a : AccountNo) → IsTrading w → IsBalanced w.ledger → x < length w.leaves → 0 < node_of w x
    → IsOpen w.ledger.accounts (account_of w x) → a ≡ account_no w x
    → IfSome (account_at w.ledger.accounts a.0).reference (λ init. IsClosed w.ledger m a init) → IsTrading (with_ledger w m)
closed_kept w x m a h b xl pos o ea closes =
    let es : Entries = w.ledger.accounts in
    let refers = h.nodes.references (node_of w x) pos (h.leaves x xl) o in
    let init = b.references (account_of w x) (init_no w x) refers in
    let f : (account_at es a.0).reference ≡ Some (init_no w x) = ap (λ (y : AccountNo). (account_at es y.0).reference) ea ∙ refers in
    let c : IsClosed w.ledger m a (init_no w x) = subst (λ o. IfSome o (λ init. IsClosed w.ledger m a init)) f closes in
    let e : left_to es (account_of w x) (init_no w x).0 ≡ m.accounts =
    ap (λ (y : AccountNo). left_to es y.0 (init_no w x).0) (sym ea) ∙ sym c.accounts in
    record {
      tree = h.tree;
      nodes = subst (AreNodes w.tree) e (nodes_after es (account_of w x) (init_no w x).0 o init.0 init.1 w.tree h.nodes);
      leaves = h.leaves;
      apart = h.apart;
      objects = h.objects;
      between = h.between;
      requests = h.requests;
    }

-- and so the leaf's quota is with its init
pub leaves_of : (w : Trading) (x : ℕ) (m : Ledger) (a : AccountNo) → IsTrading w → x < length w.leaves → 0 < node_of w x
    → IsOpen w.ledger.accounts (account_of w x) → a.0 ≡ account_of w x
    → IfSome (account_at w.ledger.accounts a.0).reference (λ init. IsClosed w.ledger m a init) → Leaves w (with_ledger w m) x
leaves_of w x m a h xl pos o ea closes =
    let refers = h.nodes.references (node_of w x) pos (h.leaves x xl) o in
    let la : a ≡ account_no w x = λ t. record { 0 = ea t } in
    let f : (account_at w.ledger.accounts a.0).reference ≡ Some (init_no w x) =
    ap (λ j. (account_at w.ledger.accounts j).reference) ea ∙ refers in
    let c : IsClosed w.ledger m a (init_no w x) = subst (λ o. IfSome o (λ init. IsClosed w.ledger m a init)) f closes in
    record { is = refl; closed = subst (λ (b : AccountNo). IsClosed w.ledger m b (init_no w x)) la c }
