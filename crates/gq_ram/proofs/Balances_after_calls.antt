-- What each call leaves balanced.
use Rattle.std.proofs.Common.{◌≡◌, ℕ, ◌+◌, ◌-◌, ◌<◌, ◌≤◌, length, set, Some, None, refl, sym, ap, subst, arith, length-set}
use Rattle.std.proofs.lemmas.List.{get_or-set_other}
use Rattle.gq_ram.specs.declared.account.Account.{Account}
use Rattle.gq_store.specs.declared.AccountNo.{AccountNo}
use Rattle.gq_tariff.specs.declared.amount.Amount.{Amount}
use Rattle.gq_ram.specs.Account_table.{Entries, account_at, its_account, with_amount, passed, IsOpen}
use Rattle.gq_ram.specs.Account_table.{available, available_caps}
use Rattle.gq_ram.specs.Owning.{owned}
use Rattle.gq_ram.specs.Ledgers.{Ledger, IsBalanced, with_accounts}
use Rattle.gq_ram.proofs.Account_sums.{open_there, sum_put, each_set, open_put}

-- the reference account of x, which is the account a, is another one, and open
abbrev pub HasReference : Entries → ℕ → Account → Type 0
HasReference es a x = (r : AccountNo) → x.reference ≡ Some r → IsOpen es r.0 × (r.0 ≡ a → ⊥)

-- two accounts change in quota alone
pub both_balanced : (l : Ledger) (f t : ℕ) (n : Amount) → IsBalanced l → IsOpen l.accounts f → IsOpen l.accounts t → (t ≡ f → ⊥)
    → n.ram ≤ available (account_at l.accounts f) → n.caps ≤ available_caps (account_at l.accounts f) → IsBalanced (with_accounts l (passed l.accounts f t n))
both_balanced l f t n b fo to apart enough enough_caps =
    let es : Entries = l.accounts in let x : Account = account_at es f in let y : Account = account_at es t in
    let x' : Account = with_amount x (record { ram = x.quota.ram - n.ram; caps = x.quota.caps - n.caps }) in
    let y' : Account = with_amount y (record { ram = y.quota.ram + n.ram; caps = y.quota.caps + n.caps }) in
    let es1 : Entries = set es f (Some x') in let es2 : Entries = set es1 t (Some y') in
    let flt : f < length es = open_there es f fo in let tlt : t < length es1 = omega (arith, length-set es f (Some x'), open_there es t to) in
    let same : account_at es1 t ≡ y = ap its_account (get_or-set_other es f t (Some x') None apart) in
    let wf : x.used.ram ≤ x.quota.ram = b.within f in let wt : y.used.ram ≤ y.quota.ram = b.within t in
    let cf : x.used.caps ≤ x.quota.caps = b.caps_within f in let ct : y.used.caps ≤ y.quota.caps = b.caps_within t in
    record {
      quotas = omega (
        arith,
        sum_put (λ a. a.quota.ram) refl es f (Some x') flt,
        sum_put (λ a. a.quota.ram) refl es1 t (Some y') tlt,
        ap (λ (a : Account). a.quota.ram) same,
        b.quotas,
        enough,
        wf,
      );
      caps = omega (
        arith,
        sum_put (λ a. a.quota.caps) refl es f (Some x') flt,
        sum_put (λ a. a.quota.caps) refl es1 t (Some y') tlt,
        ap (λ (a : Account). a.quota.caps) same,
        b.caps,
        enough_caps,
        cf,
      );
      pages = omega (
        arith,
        sum_put (λ a. a.used.ram) refl es f (Some x') flt,
        sum_put (λ a. a.used.ram) refl es1 t (Some y') tlt,
        ap (λ (a : Account). a.used.ram) same,
        b.pages,
      );
      used = each_set (λ a z. z.used.ram ≡ owned length a l.spaces.spaces l.owners) es1 t (Some y') tlt (b.used t)
          (each_set (λ a z. z.used.ram ≡ owned length a l.spaces.spaces l.owners) es f (Some x') flt (b.used f) b.used);
      caps_used = each_set (λ a z. z.used.caps ≡ owned (λ _. l.price) a l.spaces.spaces l.owners) es1 t (Some y') tlt (b.caps_used t)
          (each_set (λ a z. z.used.caps ≡ owned (λ _. l.price) a l.spaces.spaces l.owners) es f (Some x') flt (b.caps_used f) b.caps_used);
      within = each_set (λ a z. z.used.ram ≤ z.quota.ram) es1 t (Some y') tlt (omega (arith, wt)) (each_set (λ a z. z.used.ram ≤ z.quota.ram) es f (Some x') flt
          (omega (arith, enough, wf)) b.within);
      caps_within = each_set (λ a z. z.used.caps ≤ z.quota.caps) es1 t (Some y') tlt (omega (arith, ct)) (each_set (λ a z. z.used.caps ≤ z.quota.caps) es f
          (Some x') flt
          (omega (arith, enough_caps, cf)) b.caps_within);
      small = b.small;
      small_caps = b.small_caps;
      priced = b.priced;
      references =
          let kept : (a : ℕ) → HasReference es2 a (account_at es a) = λ a r e. (
            open_put es1 t y' r.0 (open_put es f x' r.0 (b.references a r e).0),
            (b.references a r e).1,
          ) in
          each_set (HasReference es2) es1 t (Some y') tlt (kept t) (each_set (HasReference es2) es f (Some x') flt (kept f) kept);
      root = (
        open_put es1 t y' 0 (open_put es f x' 0 b.root.0),
        each_set (λ a z. a ≡ 0 → z.reference ≡ None) es1 t (Some y') tlt
            (λ e. subst (λ (a : ℕ). (account_at es a).reference ≡ None) (sym e) b.root.1) (each_set (λ a z. a ≡ 0 → z.reference ≡ None) es f (Some x') flt
            (λ e. subst (λ (a : ℕ). (account_at es a).reference ≡ None) (sym e) b.root.1) (λ a e. subst (λ (a : ℕ). (account_at es a).reference ≡ None)
            (sym e) b.root.1)) 0 refl,
      );
      tables = b.tables;
      few = b.few;
      live = b.live;
    }
