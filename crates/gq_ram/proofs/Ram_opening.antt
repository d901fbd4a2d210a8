-- What is left balanced where accounts are opened and closed.
use Rattle.std.proofs.Common.{◌≡◌, ℕ, ◌+◌, ◌<◌, ◌≤◌, length, set, get_or, Option, Some, None, false, refl, sym, ap, subst, ◌∙◌, arith}
use Rattle.std.proofs.Common.{length-set}
use Rattle.std.proofs.lemmas.List.{get_or-set_other}
use Rattle.gq_ram.specs.declared.account.Account.{Account}
use Rattle.gq_store.specs.declared.AccountNo.{AccountNo}
use Rattle.gq_ram.specs.Account_table.{Entries, account_at, its_account, no_account, with_quota, with_caps, first_account, left_to, is_it, has_members, IsOpen}
use Rattle.gq_ram.specs.Owning.{owned}
use Rattle.gq_ram.specs.Ledgers.{Ledger, IsBalanced, with_accounts}
use Rattle.gq_ram.proofs.Account_sums.{it_true, no_member, open_there, sum_put, each_set, open_put, open_other}
use Rattle.gq_ram.proofs.Numbered_account_tables.{sum_opened, each_opened, open_opened}
use Rattle.gq_ram.proofs.Balances_after_calls.{HasReference}

-- an account is opened: the number k has it, which had none, and each other number has what it had
pub opened_balanced : (l : Ledger) (es' : Entries) (k : ℕ) (r : AccountNo) → IsBalanced l → get_or l.accounts k None ≡ None
    → get_or es' k None ≡ Some (first_account r) → ((j : ℕ) → (j ≡ k → ⊥) → get_or es' j None ≡ get_or l.accounts j None) → IsOpen l.accounts r.0
    → IsBalanced (with_accounts l es')
opened_balanced l es' k r b closed here others opened =
    let es : Entries = l.accounts in let y : Account = first_account r in
    let none : account_at es k ≡ no_account = ap its_account closed in
    let apart : r.0 ≡ k → ⊥ = λ e. cc (subst (λ (j : ℕ). IsOpen es j) e opened, closed) in
    let rootless : k ≡ 0 → ⊥ = λ e. cc (subst (λ (j : ℕ). IsOpen es j) (sym e) b.root.0, closed) in
    record {
      quotas = omega (arith, sum_opened (λ z. z.quota.ram) es es' k y closed here others, b.quotas);
      caps = omega (arith, sum_opened (λ z. z.quota.caps) es es' k y closed here others, b.caps);
      pages = omega (arith, sum_opened (λ z. z.used.ram) es es' k y closed here others, b.pages);
      used = each_opened (λ a z. z.used.ram ≡ owned length a l.spaces.spaces l.owners) es es' k y here others (ap (λ (z : Account). z.used.ram) (sym none)
          ∙ b.used k) b.used;
      caps_used = each_opened (λ a z. z.used.caps ≡ owned (λ _. l.price) a l.spaces.spaces l.owners) es es' k y here others
          (ap (λ (z : Account). z.used.caps) (sym none) ∙ b.caps_used k) b.caps_used;
      within = each_opened (λ a z. z.used.ram ≤ z.quota.ram) es es' k y here others (omega arith) b.within;
      caps_within = each_opened (λ a z. z.used.caps ≤ z.quota.caps) es es' k y here others (omega arith) b.caps_within;
      small = b.small;
      small_caps = b.small_caps;
      priced = b.priced;
      references = each_opened (HasReference es') es es' k y here others (λ q e. let s : r ≡ q = cc (e) in
          (subst (λ (p : AccountNo). IsOpen es' p.0) s (open_opened es es' k closed others r.0 opened), subst (λ (p : AccountNo). p.0 ≡ k → ⊥) s apart))
          (λ j q e. (open_opened es es' k closed others q.0 (b.references j q e).0, (b.references j q e).1));
      root = (
        open_opened es es' k closed others 0 b.root.0,
        each_opened (λ j z. j ≡ 0 → z.reference ≡ None) es es' k y here others (λ e. absurd (rootless e))
            (λ j e. subst (λ (j : ℕ). (account_at es j).reference ≡ None) (sym e) b.root.1) 0 refl,
      );
      tables = b.tables;
      few = b.few;
      live = b.live;
    }

-- an account that uses nothing is closed, and its quota goes to its reference account
pub closed_balanced : (l : Ledger) (a r : AccountNo) → IsBalanced l → IsOpen l.accounts a.0 → (account_at l.accounts a.0).reference ≡ Some r
    → has_members l.accounts a ≡ false
    → (account_at l.accounts a.0).used.ram ≡ 0 → (account_at l.accounts a.0).used.caps ≡ 0 → IsBalanced (with_accounts l (left_to l.accounts a.0 r.0))
closed_balanced l a r b opened its alone unused unused_caps =
    let es : Entries = l.accounts in let x : Account = account_at es a.0 in let h : Account = account_at es r.0 in
    let y : Account = with_caps (with_quota h (h.quota.ram + x.quota.ram)) (h.quota.caps + x.quota.caps) in
    let es1 : Entries = set es a.0 None in let es2 : Entries = set es1 r.0 (Some y) in
    let heir = b.references a.0 r its in
    let alt : a.0 < length es = open_there es a.0 opened in let rlt : r.0 < length es1 = omega (arith, length-set es a.0 None, open_there es r.0 heir.0) in
    let same : account_at es1 r.0 ≡ h = ap its_account (get_or-set_other es a.0 r.0 None None heir.1) in
    let away : (j : ℕ) (q : AccountNo) → (account_at es j).reference ≡ Some q → q.0 ≡ a.0 → ⊥ = λ j q e d. cc (
      sym (no_member es a alone j)
          ∙ ap (λ (o : Option AccountNo). is_it o a) e,
      (it_true q a d),
    ) in
    let rootless : a.0 ≡ 0 → ⊥ = λ e. cc (subst (λ (j : ℕ). (account_at es j).reference ≡ Some r) e its, b.root.1) in
    record {
      quotas = omega (
        arith,
        sum_put (λ z. z.quota.ram) refl es a.0 None alt,
        sum_put (λ z. z.quota.ram) refl es1 r.0 (Some y) rlt,
        ap (λ (z : Account). z.quota.ram) same,
        b.quotas,
      );
      caps = omega (
        arith,
        sum_put (λ z. z.quota.caps) refl es a.0 None alt,
        sum_put (λ z. z.quota.caps) refl es1 r.0 (Some y) rlt,
        ap (λ (z : Account). z.quota.caps) same,
        b.caps,
      );
      pages = omega (
        arith,
        sum_put (λ z. z.used.ram) refl es a.0 None alt,
        sum_put (λ z. z.used.ram) refl es1 r.0 (Some y) rlt,
        ap (λ (z : Account). z.used.ram) same,
        b.pages,
        unused,
      );
      used = each_set (λ a z. z.used.ram ≡ owned length a l.spaces.spaces l.owners) es1 r.0 (Some y) rlt (b.used r.0)
          (each_set (λ a z. z.used.ram ≡ owned length a l.spaces.spaces l.owners) es a.0 None alt (sym unused ∙ b.used a.0) b.used);
      caps_used = each_set (λ a z. z.used.caps ≡ owned (λ _. l.price) a l.spaces.spaces l.owners) es1 r.0 (Some y) rlt (b.caps_used r.0)
          (each_set (λ a z. z.used.caps ≡ owned (λ _. l.price) a l.spaces.spaces l.owners) es a.0 None alt (sym unused_caps ∙ b.caps_used a.0) b.caps_used);
      within = each_set (λ a z. z.used.ram ≤ z.quota.ram) es1 r.0 (Some y) rlt (omega (arith, b.within r.0))
          (each_set (λ a z. z.used.ram ≤ z.quota.ram) es a.0 None alt
          (omega arith) b.within);
      caps_within = each_set (λ a z. z.used.caps ≤ z.quota.caps) es1 r.0 (Some y) rlt (omega (arith, b.caps_within r.0))
          (each_set (λ a z. z.used.caps ≤ z.quota.caps) es a.0 None alt (omega arith) b.caps_within);
      small = b.small;
      small_caps = b.small_caps;
      priced = b.priced;
      references =
          let kept : (j : ℕ) → HasReference es2 j (account_at es j) =
          λ j q e. (open_put es1 r.0 y q.0 (open_other es a.0 None q.0 (away j q e) (b.references j q e).0), (b.references j q e).1) in
          each_set (HasReference es2) es1 r.0 (Some y) rlt (kept r.0) (each_set (HasReference es2) es a.0 None alt (λ q e. cc e) kept);
      root = (
        open_put es1 r.0 y 0 (open_other es a.0 None 0 (λ e. rootless (sym e)) b.root.0),
        each_set (λ j z. j ≡ 0
            → z.reference ≡ None) es1 r.0 (Some y) rlt (λ e. subst (λ (j : ℕ). (account_at es j).reference ≡ None) (sym e) b.root.1) (each_set (λ j z. j ≡ 0
            → z.reference ≡ None) es a.0 None alt (λ e. refl) (λ j e. subst (λ (j : ℕ). (account_at es j).reference ≡ None) (sym e) b.root.1)) 0 refl,
      );
      tables = b.tables;
      few = b.few;
      live = b.live;
    }
