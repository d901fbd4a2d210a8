-- Moves of quota, one after another.
use Rattle.std.proofs.Common.{◌≡◌, ℕ, ◌+◌, ◌-◌, ◌<◌, ◌≤◌, inl, inr, length, set, get_or, Option, Some, None, IsTrue, is_some, refl, sym, ap, subst, ◌∙◌}
use Rattle.std.proofs.Common.{arith, length-set, List, [], ◌∷◌, zero, suc, true, if◌then◌else◌}
use Rattle.std.proofs.lemmas.List.{get_or-set_same, get_or-set_other, set-set, set-get_or}
use Rattle.std.proofs.lemmas.Bool.Decides.{eqb_tells}
use Rattle.gq_tariff.specs.declared.amount.Amount.{Amount}
use Rattle.gq_ram.specs.declared.account.Account.{Account}
use Rattle.gq_store.specs.declared.AccountNo.{AccountNo}
use Rattle.gq_ram.specs.Account_table.{Entries, account_at, its_account, counted, is_it, are_related}
use Rattle.gq_ram.specs.Account_table.{available, available_caps, IsOpen}
use Rattle.gq_ram.specs.Ledgers.{Ledger, IsBalanced, with_accounts}
use Rattle.gq_ram.proofs.Account_caller_facts.{open_there, open_put, it_true}
use Rattle.gq_ram.specs.Giving.{CanGive}
use Rattle.gq_ram.specs.Account_tree.{Tree, IsTree, AreNodes, IsHop, less, more, moved, number, parent}

-- the account where one was put, and elsewhere
put : (es : Entries) (k : ℕ) (a : Account) → k < length es → account_at (set es k (Some a)) k ≡ a
put es k a lt = ap its_account (get_or-set_same es k (Some a) None lt)

past : (es : Entries) (k j : ℕ) (a : Account) → (j ≡ k → ⊥) → account_at (set es k (Some a)) j ≡ account_at es j
past es k j a ne = ap its_account (get_or-set_other es k j (Some a) None ne)

is_there : (o : Option Account) → IsTrue (is_some o) → o ≡ Some (its_account o)
is_there None h = cc
is_there (Some a) h = refl

-- an entry put back
put_back : (es : Entries) (k : ℕ) → IsOpen es k → set es k (Some (account_at es k)) ≡ es
put_back es k h = ap (set es k) (sym (is_there (get_or es k None) h)) ∙ set-get_or es k None

module _ (es : Entries) (f t : ℕ) (n : Amount) (fo : IsOpen es f) (to : IsOpen es t) (ne : t ≡ f → ⊥) where
  pub giver_now : account_at (moved es f t n) f ≡ less (account_at es f) n
  giver_now =
      past (set es f (Some (less (account_at es f) n))) t f (more (account_at es t) n) (λ e. ne (sym e))
      ∙ put es f (less (account_at es f) n) (open_there es f fo)

  pub taker_now : account_at (moved es f t n) t ≡ more (account_at es t) n
  taker_now =
      put (set es f (Some (less (account_at es f) n))) t (more (account_at es t) n)
      (omega (arith, length-set es f (Some (less (account_at es f) n)), open_there es t to))

-- another account
pub other_now : (es : Entries) (f t : ℕ) (n : Amount) (a : ℕ) → (a ≡ f → ⊥) → (a ≡ t → ⊥) → account_at (moved es f t n) a ≡ account_at es a
other_now es f t n a nf nt =
    past (set es f (Some (less (account_at es f) n))) t a (more (account_at es t) n) nt ∙ past es f a (less (account_at es f) n) nf

pub still_open : (es : Entries) (f t : ℕ) (n : Amount) (a : ℕ) → IsOpen es a → IsOpen (moved es f t n) a
still_open es f t n a h =
    open_put (set es f (Some (less (account_at es f) n))) t (more (account_at es t) n) a (open_put es f (less (account_at es f) n) a h)

was_open_put : (es : Entries) (k : ℕ) (a : Account) (j : ℕ) → IsOpen es k → IsOpen (set es k (Some a)) j → IsOpen es j
was_open_put es k a j h o = elim (eqb_tells j k) [
  | inl e ↦ subst (IsOpen es) (sym e.1) h
  | inr ne ↦ subst (λ (x : Option Account). IsTrue (is_some x)) (get_or-set_other es k j (Some a) None ne.1) o
]

pub was_open : (es : Entries) (f t : ℕ) (n : Amount) (a : ℕ) → IsOpen es f → IsOpen es t → IsOpen (moved es f t n) a → IsOpen es a
was_open es f t n a fo to h =
    was_open_put es f (less (account_at es f) n) a fo
    (was_open_put (set es f (Some (less (account_at es f) n))) t (more (account_at es t) n) a (open_put es f (less (account_at es f) n) t to) h)

-- the reference accounts are the same
kept_put : (es : Entries) (k : ℕ) (x : Account) (a : ℕ) → IsOpen es k → x.reference ≡ (account_at es k).reference
    → (account_at (set es k (Some x)) a).reference ≡ (account_at es a).reference
kept_put es k x a o e = elim (eqb_tells a k) [
  | inl t ↦
      ap (λ j. (account_at (set es k (Some x)) j).reference) t.1
      ∙ ap (λ (y : Account). y.reference) (put es k x (open_there es k o))
      ∙ e
      ∙ ap (λ j. (account_at es j).reference) (sym t.1)
  | inr n ↦ ap (λ (y : Account). y.reference) (past es k a x n.1)
]

pub reference_kept : (es : Entries) (f t : ℕ) (n : Amount) (a : ℕ) → IsOpen es f → IsOpen es t
    → (account_at (moved es f t n) a).reference ≡ (account_at es a).reference
reference_kept es f t n a fo to =
    let x : Account = less (account_at es f) n in
    kept_put (set es f (Some x)) t (more (account_at es t) n) a (open_put es f x t to) (sym (kept_put es f x t fo refl)) ∙ kept_put es f x a fo refl

-- what is used is the same
use_put : (es : Entries) (k : ℕ) (x : Account) (a : ℕ) → IsOpen es k → x.used ≡ (account_at es k).used
    → (account_at (set es k (Some x)) a).used ≡ (account_at es a).used
use_put es k x a o e = elim (eqb_tells a k) [
  | inl t ↦
      ap (λ j. (account_at (set es k (Some x)) j).used) t.1
      ∙ ap (λ (y : Account). y.used) (put es k x (open_there es k o))
      ∙ e
      ∙ ap (λ j. (account_at es j).used) (sym t.1)
  | inr n ↦ ap (λ (y : Account). y.used) (past es k a x n.1)
]

pub used_kept : (es : Entries) (f t : ℕ) (n : Amount) (a : ℕ) → IsOpen es f → IsOpen es t → (account_at (moved es f t n) a).used ≡ (account_at es a).used
used_kept es f t n a fo to =
    let x : Account = less (account_at es f) n in
    use_put (set es f (Some x)) t (more (account_at es t) n) a (open_put es f x t to) (sym (use_put es f x t fo refl)) ∙ use_put es f x a fo refl

pub nodes_kept : (t : Tree) (es : Entries) (x y : ℕ) (n : Amount) → AreNodes t es → IsOpen es x → IsOpen es y → AreNodes t (moved es x y n)
nodes_kept t es x y n a xo yo = record {
  apart = a.apart;
  references = λ i pos lt h. reference_kept es x y n (number t i) xo yo ∙ a.references i pos lt (was_open es x y n (number t i) xo yo h);
}

-- MOVES IN A ROW

there_and_back : (a : Account) (n : Amount) → less (more a n) n ≡ a
there_and_back a n =
    let p : a.quota.ram + n.ram - n.ram ≡ a.quota.ram = omega arith in
    let q : a.quota.caps + n.caps - n.caps ≡ a.quota.caps = omega arith in
    λ i. record { quota = record { ram = p i; caps = q i }; used = a.used; reference = a.reference }

-- what passes through an account between is not kept there
pub through : (es : Entries) (f b t : ℕ) (n : Amount) → IsOpen es f → IsOpen es b → IsOpen es t → (b ≡ f → ⊥) → (t ≡ b → ⊥) → (t ≡ f → ⊥)
    → moved (moved es f b n) b t n ≡ moved es f t n
through es f b t n fo bo to bf tb tf =
    let x : Account = less (account_at es f) n in
    let es1 : Entries = set es f (Some x) in
    let m : Account = more (account_at es b) n in
    let es2 : Entries = set es1 b (Some m) in
    let back : less (account_at es2 b) n ≡ account_at es1 b =
    ap (λ (a : Account). less a n) (taker_now es f b n fo bo bf) ∙ there_and_back (account_at es b) n ∙ sym (past es f b x bf) in
    let last : account_at es2 t ≡ account_at es t = other_now es f b n t tf tb in
    ap (λ (a : Account). set (set es2 b (Some a)) t (Some (more (account_at es2 t) n))) back
    ∙ ap (λ (a : Account). set (set es2 b (Some (account_at es1 b))) t (Some (more a n))) last
    ∙ ap (λ (ys : Entries). set ys t (Some (more (account_at es t) n)))
    (set-set es1 b (Some m) (Some (account_at es1 b)) ∙ put_back es1 b (open_put es f x b bo))

-- RELATIONS

related_up : (es : Entries) (a b : AccountNo) (r : AccountNo) → (account_at es a.0).reference ≡ Some r → r.0 ≡ b.0 → are_related es a b ≡ true
related_up es a b r e s = rw (e, it_true r b s) refl

cases_it : (x : Option AccountNo) (a : AccountNo) (y : Option AccountNo) (b : AccountNo) → is_it y b ≡ true → (if is_it x a then true else is_it y b) ≡ true
cases_it None a y b h = h
cases_it (Some r) a y b h = elim (eqb_tells r.0 a.0) [ inl t ↦ rw t.0 refl | inr n ↦ rw n.0 h ]

related_down : (es : Entries) (a b : AccountNo) (r : AccountNo) → (account_at es b.0).reference ≡ Some r → r.0 ≡ a.0 → are_related es a b ≡ true
related_down es a b r e s = cases_it (account_at es a.0).reference b (account_at es b.0).reference a (ap (λ o. is_it o a) e ∙ it_true r a s)

pub related : (t : Tree) (es : Entries) (i j : ℕ) (a b : AccountNo) → AreNodes t es → i < length t.parents → j < length t.parents → IsHop t i j
    → a.0 ≡ number t i → b.0 ≡ number t j → IsOpen es (number t i) → IsOpen es (number t j) → are_related es a b ≡ true
related t es i j a b nodes il jl near ai bj io jo = elim near [
  | inl up ↦ related_up es a b (record { 0 = number t (parent t i) })
      (ap (λ k. (account_at es k).reference) ai ∙ nodes.references i up.0 il io) (ap (number t) up.1 ∙ sym bj)
  | inr down ↦ related_down es a b (record { 0 = number t (parent t j) })
      (ap (λ k. (account_at es k).reference) bj ∙ nodes.references j down.0 jl jo) (ap (number t) down.1 ∙ sym ai)
]

-- ends of a hop are two accounts
pub hop_apart : (t : Tree) (es : Entries) (i j : ℕ) → IsTree t → AreNodes t es → i < length t.parents → j < length t.parents → IsHop t i j
    → number t j ≡ number t i → ⊥
hop_apart t es i j tree nodes il jl near e =
    let s : j ≡ i = nodes.apart j i jl il e in
    elim near [
      | inl up ↦ (let p = tree.preorder i up.0 il in let q = up.1 in omega arith)
      | inr down ↦ (let p = tree.preorder j down.0 jl in let q = down.1 in omega arith)
    ]

pub item : (xs : List AccountNo) (i : ℕ) (r d : AccountNo) → i < length xs → r ≡ get_or xs i r → r ≡ get_or xs i d
item [] i r d lt e = absurd (omega (arith, lt))
item (x ∷ xs) zero r d lt e = e
item (x ∷ xs) (suc i) r d lt e = item xs i r d (omega (arith, lt)) e

-- the account that an index reads
pub node_number : (t : Tree) (i : ℕ) (r : AccountNo) → IsTree t → i < length t.parents → r ≡ get_or t.accounts i r → r.0 ≡ number t i
node_number t i r tree lt e = ap (λ (a : AccountNo). a.0) (item t.accounts i r (record { 0 = 0 }) (omega (arith, tree.count, lt)) e)

-- WHAT PASSES THROUGH

pub place : (xs : List ℕ) (i r d : ℕ) → i < length xs → r ≡ get_or xs i r → r ≡ get_or xs i d
place [] i r d lt e = absurd (omega (arith, lt))
place (x ∷ xs) zero r d lt e = e
place (x ∷ xs) (suc i) r d lt e = place xs i r d (omega (arith, lt)) e

pub node_parent : (t : Tree) (i r : ℕ) → i < length t.parents → r ≡ get_or t.parents i r → r ≡ parent t i
node_parent t i r lt e = place t.parents i r 0 lt e

-- what a node's init has, it can pay
pub can_pay : (es : Entries) (f b : ℕ) (n : Amount) → IsOpen es f → IsOpen es b → (b ≡ f → ⊥) → (account_at es b).used.ram ≤ (account_at es b).quota.ram
    → n.ram ≤ available (account_at (moved es f b n) b)
can_pay es f b n fo bo ne w =
    let e = taker_now es f b n fo bo ne in omega (arith, ap (λ (a : Account). a.quota.ram) e, ap (λ (a : Account). a.used.ram) e)

pub can_pay_caps : (es : Entries) (f b : ℕ) (n : Amount) → IsOpen es f → IsOpen es b → (b ≡ f → ⊥) → (account_at es b).used.caps ≤ (account_at es b).quota.caps
    → n.caps ≤ available_caps (account_at (moved es f b n) b)
can_pay_caps es f b n fo bo ne w =
    let e = taker_now es f b n fo bo ne in omega (arith, ap (λ (a : Account). a.quota.caps) e, ap (λ (a : Account). a.used.caps) e)

-- a node's init is open
pub init_open : (t : Tree) (l : Ledger) (i p : ℕ) → IsBalanced l → AreNodes t l.accounts → 0 < i → i < length t.parents → p ≡ parent t i
    → IsOpen l.accounts (number t i)
    → IsOpen l.accounts (number t p)
init_open t l i p b a pos lt e h =
    subst (λ j. IsOpen l.accounts (number t j)) (sym e) (b.references (number t i) (record { 0 = number t (parent t i) }) (a.references i pos lt h)).0

pub far : (t : Tree) (es : Entries) (i j : ℕ) → AreNodes t es → i < length t.parents → j < length t.parents → (i ≡ j → ⊥) → number t i ≡ number t j → ⊥
far t es i j a il jl ne e = ne (a.apart i j il jl e)

-- a first move and the rest
pub joined : (l l1 l2 : Ledger) (f b t : ℕ) (n : Amount) → IsOpen l.accounts f → IsOpen l.accounts b → IsOpen l.accounts t → (b ≡ f → ⊥) → (t ≡ b → ⊥)
    → (t ≡ f → ⊥)
    → l1 ≡ with_accounts l (moved l.accounts f b n) → l2 ≡ with_accounts l1 (moved l1.accounts b t n) → l2 ≡ with_accounts l (moved l.accounts f t n)
joined l l1 l2 f b t n fo bo to bf tb tf m1 m2 =
    m2
    ∙ ap (λ (x : Ledger). with_accounts x (moved x.accounts b t n)) m1
    ∙ ap (with_accounts l) (through l.accounts f b t n fo bo to bf tb tf)

-- what the rest of the way needs, after a move from i to p
pub record MovedTo (t : Tree) (l1 : Ledger) (p j : ℕ) (n : Amount) : Type 0 where
  pub can : CanGive t l1.accounts p j
  pub counted : l1.price ≡ 0 → n.caps ≡ 0
  pub enough : n.ram ≤ available (account_at l1.accounts (number t p))
  pub enough_caps : n.caps ≤ available_caps (account_at l1.accounts (number t p))

pub after_move : (t : Tree) (l l1 : Ledger) (i p j : ℕ) (n : Amount) → IsBalanced l → CanGive t l.accounts i j → p < length t.parents
    → (p ≡ i → ⊥) → (p ≡ j → ⊥) → IsOpen l.accounts (number t p) → (l.price ≡ 0 → n.caps ≡ 0)
    → l1 ≡ with_accounts l (moved l.accounts (number t i) (number t p) n) → MovedTo t l1 p j n
after_move t l l1 i p j n b can pl ne pj po counted m =
    let es = l.accounts in let f = number t i in let k = number t p in
    let apart : k ≡ f → ⊥ = far t es p i can.nodes pl can.from ne in
    let io = can.from_open in
    subst (λ (x : Ledger). MovedTo t x p j n) (sym m) (record {
      can = record {
        nodes = nodes_kept t es f k n can.nodes io po;
        from = pl;
        to = can.to;
        apart = pj;
        from_open = still_open es f k n k po;
        to_open = still_open es f k n (number t j) can.to_open;
      };
      counted = counted;
      enough = can_pay es f k n io po apart (b.within k);
      enough_caps = can_pay_caps es f k n io po apart (b.caps_within k);
    })
