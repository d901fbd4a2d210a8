-- Accounts that are opened node by node, from the root on.
use Rattle.std.proofs.Common.{◌≡◌, ℕ, ◌+◌, ◌<◌, inl, inr, List, [], ◌∷◌, ◌++◌, length, get_or, Option, Some, None, IsTrue, is_some, refl, sym, ap, subst, ◌∙◌}
use Rattle.std.proofs.Common.{arith}
use Rattle.std.proofs.Math.Seq.{get_or-append_seam}
use Rattle.std.proofs.lemmas.List.{get_or_append_left, length-append}
use Rattle.std.proofs.lemmas.Bool.Decides.{eqb_tells}
use Rattle.gq_ram.specs.declared.account.Account.{Account}
use Rattle.gq_store.specs.declared.AccountNo.{AccountNo}
use Rattle.gq_ram.specs.Account_table.{Entries, its_account, first_account, IsOpen}
use Rattle.gq_ram.specs.Ledgers.{Ledger, with_accounts}
use Rattle.gq_ram.specs.Account_tree.{Tree}
use Rattle.gq_ram.specs.Opening.{IsOpened}

-- the number of an account of these
abbrev pub its_number : List AccountNo → ℕ → ℕ
its_number xs i = (get_or xs i (record { 0 = 0 })).0

-- the first n nodes have the accounts xs, and no other account is open
pub record AreOpen (ps : List ℕ) (l0 l : Ledger) (xs : List AccountNo) (n : ℕ) : Type 0 where
  pub count : length xs ≡ n
  pub apart : (i j : ℕ) → i < n → j < n → its_number xs i ≡ its_number xs j → i ≡ j
  pub opened : (i : ℕ) → i < n → IsOpen l.accounts (its_number xs i)
  pub only : (k : ℕ) → IsOpen l.accounts k → (i : ℕ) × (i < n) × (its_number xs i ≡ k)
  pub root : its_number xs 0 ≡ 0
  pub kept : get_or l.accounts 0 None ≡ get_or l0.accounts 0 None
  pub empty : (i : ℕ) → 0 < i → i < n
      → get_or l.accounts (its_number xs i) None ≡ Some (first_account (record { 0 = its_number xs (get_or ps i 0) }))
  pub same : l ≡ with_accounts l0 l.accounts

-- the root node alone
pub open_first : (ps : List ℕ) (l : Ledger) (xs : List AccountNo) (r : AccountNo) → xs ≡ r ∷ [] → r.0 ≡ 0 → IsOpen l.accounts r.0
    → ((k : ℕ) → IsOpen l.accounts k → k ≡ 0) → AreOpen ps l l xs 1
open_first ps l xs r e z o alone = subst (λ ys. AreOpen ps l l ys 1) (sym e) (
    let here : (i : ℕ) → i < 1 → 0 ≡ i = λ i lt. omega arith in
    record {
      count = omega arith;
      apart = λ i j il jl e. omega arith;
      opened = λ i lt. subst (λ j. IsOpen l.accounts (its_number (r ∷ []) j)) (here i lt) o;
      only = λ k h. (0, omega arith, z ∙ sym (alone k h));
      root = z;
      kept = refl;
      empty = λ i pos lt. absurd (omega arith);
      same = refl;
    }
    )

open_apart : (es : Entries) (j k : ℕ) → IsOpen es j → get_or es k None ≡ None → j ≡ k → ⊥
open_apart es j k o none e = cc (subst (λ i. IsOpen es i) e o, none)

-- A STEP

module _ (ps : List ℕ) (l0 l l1 : Ledger) (xs : List AccountNo) (n p : ℕ) (r a : AccountNo) (h : AreOpen ps l0 l xs n) (pos : 0 < n)
    (pe : p ≡ get_or ps n 0) (pl : p < n) (re : r.0 ≡ its_number xs p)
    (closed : get_or l.accounts a.0 None ≡ None) (here : get_or l1.accounts a.0 None ≡ Some (first_account r))
    (others : (k : ℕ) → (k ≡ a.0 → ⊥) → get_or l1.accounts k None ≡ get_or l.accounts k None) where
  abbrev longer : List AccountNo
  longer = xs ++ a ∷ []

  before : (i : ℕ) → i < n → its_number longer i ≡ its_number xs i
  before i lt = ap (λ (x : AccountNo). x.0) (get_or_append_left xs (a ∷ []) (record { 0 = 0 }) i (omega (arith, h.count)))

  last : its_number longer n ≡ a.0
  last = ap (its_number longer) (sym h.count) ∙ ap (λ (x : AccountNo). x.0) (get_or-append_seam xs a [] (record { 0 = 0 }))

  other : (i : ℕ) → i < n → its_number xs i ≡ a.0 → ⊥
  other i lt e = open_apart l.accounts (its_number xs i) a.0 (h.opened i lt) closed e

  now_open : (k : ℕ) → IsOpen l.accounts k → IsOpen l1.accounts k
  now_open k o = subst (λ (x : Option Account). IsTrue (is_some x)) (sym (others k (λ e. open_apart l.accounts k a.0 o closed e))) o

  was_before : (i : ℕ) → i < n + 1 → (i ≡ n → ⊥) → i < n
  was_before i lt ne = omega arith

  opened_more : (i : ℕ) → i < n + 1 → IsOpen l1.accounts (its_number longer i)
  opened_more i lt = elim (eqb_tells i n) [
    | inl e ↦ subst (λ k. IsOpen l1.accounts k) (sym (ap (its_number longer) e.1 ∙ last)) (subst (λ (x : Option Account). IsTrue (is_some x)) (sym here) refl)
    | inr ne ↦ (let il = was_before i lt ne.1 in subst (λ k. IsOpen l1.accounts k) (sym (before i il)) (now_open (its_number xs i) (h.opened i il)))
  ]

  apart_more : (i j : ℕ) → i < n + 1 → j < n + 1 → its_number longer i ≡ its_number longer j → i ≡ j
  apart_more i j il jl e = elim (eqb_tells i n) [
    | inl ie ↦ elim (eqb_tells j n) [
      | inl je ↦ ie.1 ∙ sym je.1
      | inr jn ↦ (let jb = was_before j jl jn.1 in absurd (other j jb (sym (before j jb) ∙ sym e ∙ ap (its_number longer) ie.1 ∙ last)))
    ]
    | inr ne ↦ (let ib = was_before i il ne.1 in elim (eqb_tells j n) [
      | inl je ↦ absurd (other i ib (sym (before i ib) ∙ e ∙ ap (its_number longer) je.1 ∙ last))
      | inr jn ↦ (let jb = was_before j jl jn.1 in h.apart i j ib jb (sym (before i ib) ∙ e ∙ before j jb))
    ])
  ]

  only_more : (k : ℕ) → IsOpen l1.accounts k → (i : ℕ) × (i < n + 1) × (its_number longer i ≡ k)
  only_more k o = elim (eqb_tells k a.0) [
    | inl e ↦ (n, omega arith, last ∙ sym e.1)
    | inr ne ↦ (
        let was = h.only k (subst (λ (x : Option Account). IsTrue (is_some x)) (others k ne.1) o) in
        let lt : was.0 < n = was.1 in
        (was.0, omega arith, before was.0 lt ∙ was.2)
        )
  ]

  empty_more : ((i : ℕ) → 0 < i → i < n + 1 → get_or ps i 0 < i) → (i : ℕ) → 0 < i → i < n + 1
      → get_or l1.accounts (its_number longer i) None ≡ Some (first_account (record { 0 = its_number longer (get_or ps i 0) }))
  empty_more preorder i ipos lt = elim (eqb_tells i n) [
    | inl e ↦ (
        let same : r.0 ≡ its_number longer (get_or ps i 0) = re ∙ sym (before p pl) ∙ ap (its_number longer) (pe ∙ ap (λ j. get_or ps j 0) (sym e.1)) in
        ap (λ k. get_or l1.accounts k None) (ap (its_number longer) e.1 ∙ last) ∙ here ∙ ap (λ k. Some (first_account (record { 0 = k }))) same
        )
    | inr ne ↦ (
        let il = was_before i lt ne.1 in
        let above : get_or ps i 0 < n = omega (arith, preorder i ipos lt, il) in
        ap (λ k. get_or l1.accounts k None) (before i il)
        ∙ others (its_number xs i) (other i il)
        ∙ h.empty i ipos il
        ∙ ap (λ k. Some (first_account (record { 0 = k }))) (sym (before (get_or ps i 0) above))
        )
  ]

  pub open_more : (xs1 : List AccountNo) → xs1 ≡ xs ++ a ∷ [] → l1 ≡ with_accounts l l1.accounts
      → ((i : ℕ) → 0 < i → i < n + 1 → get_or ps i 0 < i) → AreOpen ps l0 l1 xs1 (n + 1)
  open_more xs1 e m preorder = subst (λ ys. AreOpen ps l0 l1 ys (n + 1)) (sym e) (record {
    count = omega (arith, length-append xs (a ∷ []), h.count);
    apart = apart_more;
    opened = opened_more;
    only = only_more;
    root = before 0 pos ∙ h.root;
    kept = others 0 (λ s. other 0 pos (h.root ∙ s)) ∙ h.kept;
    empty = empty_more preorder;
    same = m ∙ ap (λ (x : Ledger). with_accounts x l1.accounts) h.same;
  })

-- THE WHOLE

pub open_all : (t : Tree) (ps : List ℕ) (l0 l : Ledger) (xs : List AccountNo) (n : ℕ) → n ≡ length ps → t.accounts ≡ xs → t.parents ≡ ps
    → AreOpen ps l0 l xs n → IsOpened t l0.accounts l.accounts
open_all t ps l0 l xs n e ae be h =
    let tree : Tree = record { accounts = xs; parents = ps } in
    let te : tree ≡ t = λ i. record { accounts = sym ae i; parents = sym be i } in
    let a : AreOpen ps l0 l xs (length ps) = subst (AreOpen ps l0 l xs) e h in
    subst (λ (u : Tree). IsOpened u l0.accounts l.accounts) te (record {
      nodes = record {
        apart = a.apart;
        references = λ i pos lt o. ap (λ (x : Option Account). (its_account x).reference) (a.empty i pos lt);
      };
      opened = a.opened;
      only = a.only;
      root = a.root;
      kept = a.kept;
      empty = a.empty;
    })
