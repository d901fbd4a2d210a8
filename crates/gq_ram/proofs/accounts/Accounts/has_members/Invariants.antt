use Rattle.std.proofs.Common.{◌≡◌}
use Rattle.gq_ram.specs.Account_table.{has_members}
use Rattle.gq_ram.proofs.Numbered_account_tables.{refers}
use Rattle.gq_ram.proofs.accounts.Accounts.has_members.Given as goal

abbrev pub invariant-loop-member : goal.invariant-loop-member
invariant-loop-member l = record {
  left : refers l.member-iterator l.account ≡ has_members l.fn.self.accounts l.account;
}
