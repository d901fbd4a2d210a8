use Rattle.std.proofs.Common.{◌≡◌, refl, arith, rules, sym, ap, subst, ◌∙◌}
use Rattle.gq_ram.specs.declared.account.Account.{Account}
use Rattle.gq_ram.specs.Account_table.{account_at, IsOpen}
use Rattle.gq_ram.specs.Ledgers.{Ledger}
use Rattle.gq_ram.specs.internal.Accounts_fields.{ledger_view}
use Rattle.gq_ram.proofs.Account_sums.{account_within}
use Rattle.gq_ram.proofs.Closed_account_balances.{IsClosing, closing}
use Rattle.gq_ram.proofs.accounts.Accounts.close.Goals as goal

pub account-heir-requires : goal.account-heir-requires
account-heir-requires c =
    let l : Ledger = c.args.self.now in let m : Ledger = ledger_view c.self.inside in let a = c.args.account in let r = c.in-Some.reference in
    let its = ap (λ (x : Account). x.reference) (sym c.account-closing.ensures) ∙ c.in-Some.is in
    let p : IsClosing l m a r = closing l m a r c.self.invariant c.requires its (sym c.has_members.ensures
    ∙ c.if-has_members.false) (ap (λ (n : Ledger). n.accounts) c.self.view_is ∙ c.free_all.ensures.paid) in
    subst (λ (n : Ledger). IsOpen n.accounts r.0) c.self.view_is p.heir

pub overflow_add-heir : goal.overflow_add-heir
overflow_add-heir c =
    let l : Ledger = c.args.self.now in let m : Ledger = ledger_view c.self.inside in let a = c.args.account in let r = c.in-Some.reference in
    let its = ap (λ (x : Account). x.reference) (sym c.account-closing.ensures) ∙ c.in-Some.is in
    let p : IsClosing l m a r = closing l m a r c.self.invariant c.requires its (sym c.has_members.ensures
    ∙ c.if-has_members.false) (ap (λ (n : Ledger). n.accounts) c.self.view_is ∙ c.free_all.ensures.paid) in
    let heir : c.account-heir.result ≡ account_at m.accounts r.0 = c.account-heir.ensures
    ∙ ap (λ (n : Ledger). account_at n.accounts r.0) (sym c.self.view_is) in
    let q : c.account-closing.result.quota.ram ≡ (account_at m.accounts a.0).quota.ram = ap (λ (x : Account). x.quota.ram) c.account-closing.ensures
    ∙ ap (λ (x : Account). x.quota.ram) (sym p.now) in
    record {
      fits = omega (
        arith,
        ap (λ (x : Account). x.quota.ram) heir,
        q,
        account_within (λ x. x.quota.ram) refl m.accounts a.0,
        account_within (λ x. x.quota.ram) refl m.accounts r.0,
        c.self.invariant.quotas,
        c.self.invariant.small,
      );
    }

pub overflow_add-heir-2 : goal.overflow_add-heir-2
overflow_add-heir-2 c =
    let l : Ledger = c.args.self.now in let m : Ledger = ledger_view c.self.inside in let a = c.args.account in let r = c.in-Some.reference in
    let its = ap (λ (x : Account). x.reference) (sym c.account-closing.ensures) ∙ c.in-Some.is in
    let p : IsClosing l m a r = closing l m a r c.self.invariant c.requires its (sym c.has_members.ensures
    ∙ c.if-has_members.false) (ap (λ (n : Ledger). n.accounts) c.self.view_is ∙ c.free_all.ensures.paid) in
    let heir : c.account-heir.result ≡ account_at m.accounts r.0 = c.account-heir.ensures
    ∙ ap (λ (n : Ledger). account_at n.accounts r.0) (sym c.self.view_is) in
    let q : c.account-closing.result.quota.caps ≡ (account_at m.accounts a.0).quota.caps = ap (λ (x : Account). x.quota.caps) c.account-closing.ensures
    ∙ ap (λ (x : Account). x.quota.caps) (sym p.now) in
    record {
      fits = omega (
        arith,
        ap (λ (x : Account). x.quota.caps) heir,
        q,
        account_within (λ x. x.quota.caps) refl m.accounts a.0,
        account_within (λ x. x.quota.caps) refl m.accounts r.0,
        c.self.invariant.caps,
        c.self.invariant.small_caps,
      );
    }

pub invariant_of-self : goal.invariant_of-self
invariant_of-self c =
    let l : Ledger = c.args.self.now in let m : Ledger = ledger_view c.self.inside in let a = c.args.account in let r = c.in-Some.reference in
    let its = ap (λ (x : Account). x.reference) (sym c.account-closing.ensures) ∙ c.in-Some.is in
    let p : IsClosing l m a r = closing l m a r c.self.invariant c.requires its (sym c.has_members.ensures
    ∙ c.if-has_members.false) (ap (λ (n : Ledger). n.accounts) c.self.view_is ∙ c.free_all.ensures.paid) in
    let heir : c.account-heir.result ≡ account_at m.accounts r.0 = c.account-heir.ensures
    ∙ ap (λ (n : Ledger). account_at n.accounts r.0) (sym c.self.view_is) in
    let q : c.account-closing.result.quota.ram ≡ (account_at m.accounts a.0).quota.ram = ap (λ (x : Account). x.quota.ram) c.account-closing.ensures
    ∙ ap (λ (x : Account). x.quota.ram) (sym p.now) in
    let s : c.account-closing.result.quota.caps ≡ (account_at m.accounts a.0).quota.caps = ap (λ (x : Account). x.quota.caps) c.account-closing.ensures
    ∙ ap (λ (x : Account). x.quota.caps) (sym p.now) in
    rw (c.remove.ensures.slots, heir, q, s) p.closed

pub returns-clause-closed : goal.returns-clause-closed
returns-clause-closed c =
    let l : Ledger = c.args.self.now in let m : Ledger = ledger_view c.self.inside in let a = c.args.account in let r = c.in-Some.reference in
    let its = ap (λ (x : Account). x.reference) (sym c.account-closing.ensures) ∙ c.in-Some.is in
    let p : IsClosing l m a r = closing l m a r c.self.invariant c.requires its (sym c.has_members.ensures
    ∙ c.if-has_members.false) (ap (λ (n : Ledger). n.accounts) c.self.view_is ∙ c.free_all.ensures.paid) in
    let heir : c.account-heir.result ≡ account_at m.accounts r.0 = c.account-heir.ensures
    ∙ ap (λ (n : Ledger). account_at n.accounts r.0) (sym c.self.view_is) in
    let q : c.account-closing.result.quota.ram ≡ (account_at m.accounts a.0).quota.ram = ap (λ (x : Account). x.quota.ram) c.account-closing.ensures
    ∙ ap (λ (x : Account). x.quota.ram) (sym p.now) in
    let s : c.account-closing.result.quota.caps ≡ (account_at m.accounts a.0).quota.caps = ap (λ (x : Account). x.quota.caps) c.account-closing.ensures
    ∙ ap (λ (x : Account). x.quota.caps) (sym p.now) in
    record {
      left = rw (its, c.remove.ensures.slots, heir, q, s) p.left;
      gone = search rules;
      others = search rules;
      other_owners = search rules;
    }
