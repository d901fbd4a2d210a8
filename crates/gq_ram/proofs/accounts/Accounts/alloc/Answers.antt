use Rattle.std.proofs.Common.{◌≡◌, ◌≤◌, ◌*◌, length, refl, arith, sym, ap, subst, ◌∙◌, Some, set}
use Rattle.gq_tariff.specs.Prices.{up}
use Rattle.gq_tariff.specs.declared.amount.Amount.{Amount}
use Rattle.gq_pages.specs.Frame_bytes.{zeros}
use Rattle.gq_ram.specs.declared.account.Account.{Account}
use Rattle.gq_ram.specs.Account_table.{account_at, its_account, remaining, IsOpen}
use Rattle.gq_ram.specs.Ledgers.{Ledger}
use Rattle.gq_ram.specs.internal.Accounts_fields.{ledger_view}
use Rattle.gq_ram.proofs.Account_sums.{err_no_ok, account_within, account_slack}
use Rattle.gq_ram.proofs.Balances_made_spaces.{spent_balanced, length_zeros, of_fields}
use Rattle.gq_ram.proofs.accounts.Accounts.alloc.Goals as goal

pub round_up-requires : goal.round_up-requires
round_up-requires c =
    let l : Ledger = ledger_view c.self.inside in let a = c.args.account.0 in
    let there : c.avail-avail.result ≡ remaining (account_at l.accounts a) = c.avail-avail.ensures
    ∙ ap (λ (m : Ledger). remaining (account_at m.accounts a)) (sym c.self.view_is) in
    omega (
      arith,
      c.if-size-avail.false,
      ap (λ (x : Amount). x.ram) there,
      account_within (λ x. x.quota.ram) refl l.accounts a,
      c.self.invariant.quotas,
      c.self.invariant.small,
    )

pub create-requires : goal.create-requires
create-requires c =
    let l : Ledger = ledger_view c.self.inside in let a = c.args.account.0 in
    let there : c.avail-avail.result ≡ remaining (account_at l.accounts a) = c.avail-avail.ensures
    ∙ ap (λ (m : Ledger). remaining (account_at m.accounts a)) (sym c.self.view_is) in (
      omega (arith, c.if-size-eq0.false),
      omega (
        arith,
        c.if-size-avail.false,
        ap (λ (x : Amount). x.ram) there,
        account_within (λ x. x.quota.ram) refl l.accounts a,
        c.self.invariant.quotas,
        c.self.invariant.small,
      ),
    )

pub unreachable-requires : goal.unreachable-requires
unreachable-requires c =
    let l : Ledger = ledger_view c.self.inside in let a = c.args.account.0 in let b = c.self.invariant in
    let there : c.avail-avail.result ≡ remaining (account_at l.accounts a) = c.avail-avail.ensures
    ∙ ap (λ (m : Ledger). remaining (account_at m.accounts a)) (sym c.self.view_is) in
    let enough : up c.args.size ≤ c.self.inside.spaces.free * 4096 = omega (
      arith,
      c.round_up.ensures.value,
      c.in_ok-afford.ensures.afforded.enough,
      ap (λ (x : Amount). x.ram) there,
      account_slack (λ x. x.quota.ram) (λ x. x.used.ram) refl refl l.accounts a b.within,
      b.quotas,
      b.pages,
    ) in
    err_no_ok c.create.result c.in_default.field-0 c.in_default.is (c.create.ensures.enough.1 enough)

pub overflow_add-payer : goal.overflow_add-payer
overflow_add-payer c =
    let l : Ledger = ledger_view c.self.inside in let a = c.args.account.0 in
    let there : c.avail-avail.result ≡ remaining (account_at l.accounts a) = c.avail-avail.ensures
    ∙ ap (λ (m : Ledger). remaining (account_at m.accounts a)) (sym c.self.view_is) in
    let again : c.index_mut-payer.result.now ≡ account_at l.accounts a = sym (ap its_account c.index_mut-payer.ensures.value) in
    record {
      fits = omega (
        arith,
        ap (λ (x : Account). x.used.ram) again,
        c.in_ok-afford.ensures.afforded.enough,
        ap (λ (x : Amount). x.ram) there,
        account_within (λ x. x.quota.ram) refl l.accounts a,
        c.self.invariant.within a,
        c.self.invariant.quotas,
        c.self.invariant.small,
      );
    }

pub overflow_add-payer-2 : goal.overflow_add-payer-2
overflow_add-payer-2 c =
    let l : Ledger = ledger_view c.self.inside in let a = c.args.account.0 in
    let again : c.index_mut-payer.result.now ≡ account_at l.accounts a = sym (ap its_account c.index_mut-payer.ensures.value) in
    record {
      fits = omega (
        arith,
        ap (λ (x : Account). x.used.caps) again,
        account_within (λ x. x.quota.caps) refl l.accounts a,
        c.self.invariant.caps_within a,
        c.self.invariant.caps,
        c.self.invariant.small_caps,
        c.self.invariant.priced,
      );
    }

pub invariant_of-self : goal.invariant_of-self
invariant_of-self c =
    let l : Ledger = ledger_view c.self.inside in let a = c.args.account.0 in let b = c.self.invariant in let n = c.args.size in let k = c.in-Ok.ds.0 in
    let there : c.avail-avail.result ≡ remaining (account_at l.accounts a) = c.avail-avail.ensures
    ∙ ap (λ (m : Ledger). remaining (account_at m.accounts a)) (sym c.self.view_is) in
    let opened : IsOpen l.accounts a = subst (λ (m : Ledger). IsOpen m.accounts a) (sym c.self.view_is) c.requires in
    let long : length (zeros (up n)) ≡ up n = length_zeros (up n) in
    let cost : c.round_up.result ≡ length (zeros (up n)) = c.round_up.ensures.value ∙ sym long in
    let made : c.create.new.self ≡ record { spaces = set l.spaces.spaces k (Some (zeros (up n))); free = c.create.new.self.free } =
    of_fields c.create.new.self (set l.spaces.spaces k (Some (zeros (up n)))) c.in-Ok.ensures.made in
    let vacant = c.in-Ok.ensures.was_vacant in
    let again : c.index_mut-payer.result.now ≡ account_at l.accounts a = sym (ap its_account c.index_mut-payer.ensures.value) in
    rw (again, cost, made) (spent_balanced l c.args.account k (zeros (up n)) c.create.new.self.free b opened vacant.0 vacant.1
    (omega (arith, c.in-Ok.ensures.paid, long))
    (omega (arith, c.in_ok-afford.ensures.afforded.enough, cost, ap (λ (x : Amount). x.ram) there))
    (omega (arith, c.in_ok-afford.ensures.afforded.enough_caps, ap (λ (x : Amount). x.caps) there)))
