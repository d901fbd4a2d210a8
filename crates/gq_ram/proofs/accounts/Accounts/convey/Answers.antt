use Rattle.std.proofs.Common.{◌≡◌, ◌≤◌, refl, arith, sym, ap, subst, ◌∙◌}
use Rattle.gq_ram.specs.declared.account.Account.{Account}
use Rattle.gq_ram.specs.Account_table.{account_at, available, available_caps, IsOpen}
use Rattle.gq_ram.specs.Ledgers.{Ledger}
use Rattle.gq_ram.specs.internal.Accounts_fields.{ledger_view}
use Rattle.gq_ram.proofs.Account_sums.{account_within}
use Rattle.gq_ram.proofs.Balances_after_calls.{both_balanced}
use Rattle.gq_ram.proofs.accounts.Accounts.convey.Goals as goal

pub overflow_add-more : goal.overflow_add-more
overflow_add-more c =
    let l : Ledger = ledger_view c.self.inside in let f = c.args.from.0 in let t = c.args.to.0 in
    let taker : c.account-taker.result ≡ account_at l.accounts t = c.account-taker.ensures
    ∙ ap (λ (m : Ledger). account_at m.accounts t) (sym c.self.view_is) in
    record {
      fits = omega (
        arith,
        ap (λ (a : Account). a.quota.ram) taker,
        c.requires.enough,
        ap (λ (m : Ledger). (account_at m.accounts f).quota.ram) c.self.view_is,
        account_within (λ a. a.quota.ram) refl l.accounts f,
        account_within (λ a. a.quota.ram) refl l.accounts t,
        c.self.invariant.quotas,
        c.self.invariant.small,
      );
    }

pub overflow_add-more-2 : goal.overflow_add-more-2
overflow_add-more-2 c =
    let l : Ledger = ledger_view c.self.inside in let f = c.args.from.0 in let t = c.args.to.0 in
    let taker : c.account-taker.result ≡ account_at l.accounts t = c.account-taker.ensures
    ∙ ap (λ (m : Ledger). account_at m.accounts t) (sym c.self.view_is) in
    record {
      fits = omega (
        arith,
        ap (λ (a : Account). a.quota.caps) taker,
        c.requires.enough_caps,
        ap (λ (m : Ledger). (account_at m.accounts f).quota.caps) c.self.view_is,
        account_within (λ a. a.quota.caps) refl l.accounts f,
        account_within (λ a. a.quota.caps) refl l.accounts t,
        c.self.invariant.caps,
        c.self.invariant.small_caps,
      );
    }

pub set_quotas-requires-clause-balanced : goal.set_quotas-requires-clause-balanced
set_quotas-requires-clause-balanced c =
    let l : Ledger = ledger_view c.self.inside in let f = c.args.from.0 in let t = c.args.to.0 in let v = c.self.view_is in
    let from : IsOpen l.accounts f = subst (λ (m : Ledger). IsOpen m.accounts f) (sym v) c.requires.from_open in
    let to : IsOpen l.accounts t = subst (λ (m : Ledger). IsOpen m.accounts t) (sym v) c.requires.to_open in
    let enough : c.args.amount.ram ≤ available (account_at l.accounts f) =
    subst (λ (m : Ledger). c.args.amount.ram ≤ available (account_at m.accounts f)) (sym v) c.requires.enough in
    let caps : c.args.amount.caps ≤ available_caps (account_at l.accounts f) =
    subst (λ (m : Ledger). c.args.amount.caps ≤ available_caps (account_at m.accounts f)) (sym v) c.requires.enough_caps in
    rw (c.account-giver.ensures, c.account-taker.ensures, ← v) (both_balanced l f t c.args.amount c.self.invariant from to c.requires.apart enough caps)
