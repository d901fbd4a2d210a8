-- What is left as the dataspaces of an account are removed one by one, and where an account leaves its quota.
use Rattle.std.proofs.Common.{◌≡◌, ℕ, zero, suc, ◌+◌, ◌<◌, ◌≤◌, inl, inr, List, [], ◌∷◌, length, set, get_or, Option, Some, None, Bool, true, false}
use Rattle.std.proofs.Common.{if◌then◌else◌, refl, sym, ap, subst, ◌∙◌, arith, length-set}
use Rattle.std.proofs.lemmas.Bool.{cases_eq}
use Rattle.std.proofs.lemmas.List.{get_or-set_same, get_or-set_other, set-set}
use Rattle.gq_ram.specs.declared.account.Account.{Account}
use Rattle.gq_store.specs.declared.AccountNo.{AccountNo}
use Rattle.gq_ram.specs.Account_table.{Entries, account_at, its_account, with_use, left_to, is_it, has_members, IsOpen}
use Rattle.gq_ram.specs.Owning.{Owners, IsOf}
use Rattle.gq_ram.specs.Ledgers.{Ledger, IsBalanced, IsSameWhole, with_accounts}
use Rattle.gq_ram.proofs.Account_sums.{open_there, open_put, owned_none, owner_there}
use Rattle.gq_ram.proofs.Ram_opening.{closed_balanced}

-- of the dataspaces below k those of the account a are removed, and all else is as in l
pub record IsCleared (l m : Ledger) (a : AccountNo) (k : ℕ) : Type 0 where
  pub paid : m.accounts ≡ set l.accounts a.0 (Some (with_use (account_at l.accounts a.0) (account_at m.accounts a.0).used.ram
      (account_at m.accounts a.0).used.caps))
  pub long : length m.owners ≡ length l.owners
  pub gone : (j : ℕ) → j < k → IsOf l.owners j a → (get_or m.spaces.spaces j None ≡ None) × (get_or m.owners j None ≡ None)
  pub rest : (j : ℕ) → k ≤ j → (get_or m.spaces.spaces j None ≡ get_or l.spaces.spaces j None) × (get_or m.owners j None ≡ get_or l.owners j None)
  pub others : (j : ℕ) → (IsOf l.owners j a → ⊥) → (get_or m.spaces.spaces j None ≡ get_or l.spaces.spaces j None)
      × (get_or m.owners j None ≡ get_or l.owners j None)
  pub whole : IsSameWhole m l

get_set_none : {A : Type 0} → (xs : List (Option A)) (k : ℕ) → get_or (set xs k None) k None ≡ None
get_set_none [] k = refl
get_set_none (x ∷ xs) zero = refl
get_set_none (x ∷ xs) (suc k) = get_set_none xs k

-- the account as it stands, once its use is written
pub put_at : (es : Entries) (k : ℕ) (y : Account) → IsOpen es k → account_at (set es k (Some y)) k ≡ y
put_at es k y opened = ap its_account (get_or-set_same es k (Some y) None (open_there es k opened))

set_itself : (es : Entries) (k : ℕ) → IsOpen es k → es ≡ set es k (Some (account_at es k))
set_itself [] k opened = refl
set_itself (None ∷ es) zero opened = cc opened
set_itself (Some x ∷ es) zero opened = refl
set_itself (x ∷ es) (suc k) opened = ap (λ (fs : Entries). x ∷ fs) (set_itself es k opened)

-- nothing is removed yet
pub cleared_none : (l : Ledger) (a : AccountNo) → IsOpen l.accounts a.0 → IsCleared l l a 0
cleared_none l a opened = record {
  paid = set_itself l.accounts a.0 opened;
  long = refl;
  gone = λ j lt own. absurd (omega (arith, lt));
  rest = λ j le. (refl, refl);
  others = λ j other. (refl, refl);
  whole = (refl, refl, refl);
}

-- the next dataspace is of another account, or there is none
pub cleared_skip : (l m : Ledger) (a : AccountNo) (k : ℕ) → IsCleared l m a k → (IsOf m.owners k a → ⊥) → IsCleared l m a (k + 1)
cleared_skip l m a k c other = record {
  paid = c.paid;
  long = c.long;
  gone = λ j lt own. elim (cases_eq j k) [
    | inl e ↦ absurd (other (subst (λ (i : ℕ). IsOf m.owners i a) e ((c.rest j (omega (arith, e))).1 ∙ own)))
    | inr n ↦ c.gone j (omega (arith, lt, n)) own
  ];
  rest = λ j le. c.rest j (omega (arith, le));
  others = c.others;
  whole = c.whole;
}

-- the next dataspace is removed
pub cleared_more : (l m n : Ledger) (a : AccountNo) (k : ℕ) (u v : ℕ) → IsCleared l m a k → IsOpen l.accounts a.0 → IsOf m.owners k a
    → n.accounts ≡ set m.accounts a.0 (Some (with_use (account_at m.accounts a.0) u v))
    → n.spaces.spaces ≡ set m.spaces.spaces k None → n.owners ≡ set m.owners k None → IsSameWhole n m → IsCleared l n a (k + 1)
cleared_more l m n a k u v c opened own paid gone of_none whole =
    let es : Entries = l.accounts in let x : Account = account_at es a.0 in let y : Account = account_at m.accounts a.0 in
    let there : y ≡ with_use x y.used.ram y.used.caps = ap (λ (fs : Entries). account_at fs a.0) c.paid
    ∙ put_at es a.0 (with_use x y.used.ram y.used.caps) opened in
    let used : n.accounts ≡ set es a.0 (Some (with_use x u v)) =
    paid ∙ ap (λ (fs : Entries). set fs a.0 (Some (with_use y u v))) c.paid ∙ set-set es a.0 (Some (with_use x y.used.ram y.used.caps)) (Some (with_use y u v))
    ∙ ap (λ (z : Account). set es a.0 (Some (with_use z u v))) there in
    let now : account_at n.accounts a.0 ≡ with_use x u v = ap (λ (fs : Entries). account_at fs a.0) used ∙ put_at es a.0 (with_use x u v) opened in
    let spaces_other : (j : ℕ) → (j ≡ k → ⊥) → get_or n.spaces.spaces j None ≡ get_or m.spaces.spaces j None =
    λ j o. ap (λ (ss : List (Option (List ℕ))). get_or ss j None) gone ∙ get_or-set_other m.spaces.spaces k j None None o in
    let owners_other : (j : ℕ) → (j ≡ k → ⊥) → get_or n.owners j None ≡ get_or m.owners j None = λ j o. ap (λ (os : Owners). get_or os j None) of_none
    ∙ get_or-set_other m.owners k j None None o in
    let spaces_here : get_or n.spaces.spaces k None ≡ None = ap (λ (ss : List (Option (List ℕ))). get_or ss k None) gone ∙ get_set_none m.spaces.spaces k in
    let owners_here : get_or n.owners k None ≡ None = ap (λ (os : Owners). get_or os k None) of_none ∙ get_set_none m.owners k in
    let own_first : IsOf l.owners k a = sym (c.rest k (omega arith)).1 ∙ own in
    record {
      paid = used ∙ ap (λ (z : Account). set es a.0 (Some (with_use x z.used.ram z.used.caps))) (sym now);
      long = ap (λ (os : Owners). length os) of_none ∙ length-set m.owners k None ∙ c.long;
      gone = λ j lt its. elim (cases_eq j k) [
        | inl e ↦ (
          subst (λ (i : ℕ). get_or n.spaces.spaces i None ≡ None) (sym e) spaces_here,
          subst (λ (i : ℕ). get_or n.owners i None ≡ None)
              (sym e) owners_here,
        )
        | inr o ↦ (spaces_other j o ∙ (c.gone j (omega (arith, lt, o)) its).0, owners_other j o ∙ (c.gone j (omega (arith, lt, o)) its).1)
      ];
      rest = λ j le. let o : j ≡ k → ⊥ = λ e. omega (arith, e, le) in (
        spaces_other j o ∙ (c.rest j (omega (arith, le))).0,
        owners_other j o
            ∙ (c.rest j (omega (arith, le))).1,
      );
      others = λ j other. let o : j ≡ k → ⊥ = λ e. other (subst (λ (i : ℕ). IsOf l.owners i a) (sym e) own_first) in
          (spaces_other j o ∙ (c.others j other).0, owners_other j o ∙ (c.others j other).1);
      whole = (whole.0 ∙ c.whole.0, whole.1 ∙ c.whole.1, whole.2 ∙ c.whole.2);
    }

-- no dataspace is of the account any more
pub cleared_all : (l m : Ledger) (a : AccountNo) (k : ℕ) → IsCleared l m a k → length l.owners ≤ k → (j : ℕ) → IsOf m.owners j a → ⊥
cleared_all l m a k c all j own =
    let not_first : IsOf l.owners j a → ⊥ = λ its. cc (sym (c.gone j (omega (arith, owner_there l.owners j a its, all)) its).1 ∙ own) in
    not_first (sym (c.others j not_first).1 ∙ own)

-- so it uses nothing
pub cleared_paid : (l m : Ledger) (a : AccountNo) (k : ℕ) → IsCleared l m a k → length l.owners ≤ k → IsBalanced m
    → m.accounts ≡ set l.accounts a.0 (Some (with_use (account_at l.accounts a.0) 0 0))
cleared_paid l m a k c all b =
    let x : Account = account_at l.accounts a.0 in
    let used : (account_at m.accounts a.0).used.ram ≡ 0 = b.used a.0 ∙ owned_none length a m.spaces.spaces m.owners (cleared_all l m a k c all) in
    let caps_used : (account_at m.accounts a.0).used.caps ≡ 0 = b.caps_used a.0
    ∙ owned_none (λ _. m.price) a m.spaces.spaces m.owners (cleared_all l m a k c all) in
    c.paid ∙ ap (λ (u : ℕ). set l.accounts a.0 (Some (with_use x u (account_at m.accounts a.0).used.caps))) used
    ∙ ap (λ (v : ℕ). set l.accounts a.0 (Some (with_use x 0 v))) caps_used

-- what an account leaves does not hang on what it used
pub left_unused : (es : Entries) (a r : ℕ) → IsOpen es a → (r ≡ a → ⊥) → left_to (set es a (Some (with_use (account_at es a) 0 0))) a r ≡ left_to es a r
left_unused es a r opened other =
    let x : Account = account_at es a in let z : Account = with_use x 0 0 in let fs : Entries = set es a (Some z) in
    let here : account_at fs a ≡ z = put_at es a z opened in
    let heir : account_at fs r ≡ account_at es r = ap its_account (get_or-set_other es a r (Some z) None other) in
    let closed : set fs a None ≡ set es a None = set-set es a (Some z) None in
    rw (here, heir, closed) refl

pub members_unused : (es : Entries) (k u v : ℕ) (a : AccountNo) → IsOpen es k
    → has_members (set es k (Some (with_use (account_at es k) u v))) a ≡ has_members es a
members_unused [] k u v a opened = refl
members_unused (None ∷ es) zero u v a opened = refl
members_unused (Some x ∷ es) zero u v a opened = refl
members_unused (x ∷ es) (suc k) u v a opened = ap (λ (b : Bool). if is_it (its_account x).reference a then true else b) (members_unused es k u v a opened)

-- m is l once the account a, which has no members, uses nothing
pub record IsClosing (l m : Ledger) (a r : AccountNo) : Type 0 where
  pub open_account : IsOpen m.accounts a.0
  pub now : account_at m.accounts a.0 ≡ with_use (account_at l.accounts a.0) 0 0
  pub its : (account_at m.accounts a.0).reference ≡ Some r
  pub heir : IsOpen m.accounts r.0
  pub apart : r.0 ≡ a.0 → ⊥
  pub closed : IsBalanced (with_accounts m (left_to m.accounts a.0 r.0))
  pub left : left_to m.accounts a.0 r.0 ≡ left_to l.accounts a.0 r.0

pub closing : (l m : Ledger) (a r : AccountNo) → IsBalanced m → IsOpen l.accounts a.0 → (account_at l.accounts a.0).reference ≡ Some r
    → has_members l.accounts a ≡ false
    → m.accounts ≡ set l.accounts a.0 (Some (with_use (account_at l.accounts a.0) 0 0)) → IsClosing l m a r
closing l m a r b opened its alone paid =
    let es : Entries = l.accounts in let z : Account = with_use (account_at es a.0) 0 0 in
    let open_account : IsOpen m.accounts a.0 = subst (λ (fs : Entries). IsOpen fs a.0) (sym paid) (open_put es a.0 z a.0 opened) in
    let now : account_at m.accounts a.0 ≡ z = ap (λ (fs : Entries). account_at fs a.0) paid ∙ put_at es a.0 z opened in
    let same : (account_at m.accounts a.0).reference ≡ Some r = ap (λ (x : Account). x.reference) now ∙ its in
    let still : has_members m.accounts a ≡ false = ap (λ (fs : Entries). has_members fs a) paid ∙ members_unused es a.0 0 0 a opened ∙ alone in
    let heir = b.references a.0 r same in
    record {
      open_account = open_account;
      now = now;
      its = same;
      heir = heir.0;
      apart = heir.1;
      closed = closed_balanced m a r b open_account same still (ap (λ (x : Account). x.used.ram) now) (ap (λ (x : Account). x.used.caps) now);
      left = ap (λ (fs : Entries). left_to fs a.0 r.0) paid ∙ left_unused es a.0 r.0 opened heir.1;
    }
