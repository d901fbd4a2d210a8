use Rattle.std.proofs.Common.{◌≡◌, length, arith, sym, ap, subst, None, set}
use Rattle.gq_ram.specs.declared.account.Account.{Account}
use Rattle.gq_ram.specs.Account_table.{account_at, its_account, IsOpen}
use Rattle.gq_ram.specs.Owning.{IsOf}
use Rattle.gq_ram.specs.Ledgers.{Ledger}
use Rattle.gq_ram.specs.internal.Accounts_fields.{ledger_view}
use Rattle.gq_ram.proofs.Balances_freed_spaces.{its_within, freed_balanced}
use Rattle.gq_ram.proofs.Balances_made_spaces.{of_fields}
use Rattle.gq_ram.proofs.accounts.Accounts.free.Goals as goal

pub overflow_sub-payer : goal.overflow_sub-payer
overflow_sub-payer c =
    let l : Ledger = ledger_view c.self.inside in let a = c.args.account.0 in let b = c.self.invariant in
    let payer : c.index_mut-payer.result.now ≡ account_at l.accounts a = sym (ap its_account c.index_mut-payer.ensures.value) in
    let own : IsOf l.owners c.args.ds.0 c.args.account = subst (λ (m : Ledger). IsOf m.owners c.args.ds.0 c.args.account)
    (sym c.self.view_is) c.requires.its_own in
    omega (arith, its_within length l c.args.account c.args.ds.0 b own, b.used a, ap (λ (x : Account). x.used.ram) payer, c.size-size.ensures.bytes)

pub overflow_sub-payer-2 : goal.overflow_sub-payer-2
overflow_sub-payer-2 c =
    let l : Ledger = ledger_view c.self.inside in let a = c.args.account.0 in let b = c.self.invariant in
    let payer : c.index_mut-payer.result.now ≡ account_at l.accounts a = sym (ap its_account c.index_mut-payer.ensures.value) in
    let own : IsOf l.owners c.args.ds.0 c.args.account = subst (λ (m : Ledger). IsOf m.owners c.args.ds.0 c.args.account)
    (sym c.self.view_is) c.requires.its_own in
    omega (arith, its_within (λ _. l.price) l c.args.account c.args.ds.0 b own, b.caps_used a, ap (λ (x : Account). x.used.caps) payer)

pub invariant_of-self : goal.invariant_of-self
invariant_of-self c =
    let l : Ledger = ledger_view c.self.inside in let a = c.args.account.0 in let b = c.self.invariant in let k = c.args.ds.0 in
    let payer : c.index_mut-payer.result.now ≡ account_at l.accounts a = sym (ap its_account c.index_mut-payer.ensures.value) in
    let own : IsOf l.owners k c.args.account = subst (λ (m : Ledger). IsOf m.owners k c.args.account) (sym c.self.view_is) c.requires.its_own in
    let opened : IsOpen l.accounts a = subst (λ (m : Ledger). IsOpen m.accounts a) (sym c.self.view_is) c.requires.open in
    let gone : c.destroy.new.self ≡ record { spaces = set l.spaces.spaces k None; free = c.destroy.new.self.free } =
    of_fields c.destroy.new.self (set l.spaces.spaces k None) c.destroy.ensures.gone in
    rw (payer, c.size-size.ensures.bytes, gone) (freed_balanced l c.args.account k c.destroy.new.self.free b opened own c.destroy.ensures.given)
