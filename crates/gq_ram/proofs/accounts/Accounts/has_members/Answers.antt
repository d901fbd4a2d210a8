use Rattle.std.proofs.Common.{ap, ◌∙◌}
use Rattle.gq_ram.specs.Account_table.{has_members}
use Rattle.gq_ram.specs.Ledgers.{Ledger}
use Rattle.gq_ram.proofs.Numbered_account_tables.{refers, refers_all}
use Rattle.gq_ram.proofs.accounts.Accounts.has_members.Goals as goal

pub loop-member-init : goal.loop-member-init
loop-member-init c = record {
  left = ap (λ xs. refers xs c.args.account) (c.into_iter-member-iterator.ensures.into_iter_gives ∙ c.iter-member-items.ensures.rest)
      ∙ refers_all 0 c.self.inside.accounts.slots c.args.account ∙ ap (λ (m : Ledger). has_members m.accounts c.args.account) c.self.view_is;
}
