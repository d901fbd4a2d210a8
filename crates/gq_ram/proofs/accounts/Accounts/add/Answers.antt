use Rattle.std.proofs.Common.{sym, subst}
use Rattle.gq_ram.specs.Account_table.{IsOpen}
use Rattle.gq_ram.specs.Ledgers.{Ledger}
use Rattle.gq_ram.specs.internal.Accounts_fields.{ledger_view}
use Rattle.gq_ram.proofs.Ram_opening.{opened_balanced}
use Rattle.gq_ram.proofs.accounts.Accounts.add.Goals as goal

pub invariant_of-self-2 : goal.invariant_of-self-2
invariant_of-self-2 c =
    let l : Ledger = ledger_view c.self.inside in let r = c.args.reference in let e = c.in_ok-number.ensures in
    let opened : IsOpen l.accounts r.0 = subst (λ (m : Ledger). IsOpen m.accounts r.0) (sym c.self.view_is) c.requires in
    opened_balanced l c.insert.new.self.slots c.in_ok-number.number r c.self.invariant e.was_vacant e.updates.changed e.updates.others opened
