-- What is given is no more than there is.
use Rattle.std.proofs.Common.{ℕ, ◌≤◌, refl, arith}
use Rattle.gq_ram.specs.declared.account.Account.{Account}
use Rattle.gq_ram.specs.Account_table.{account_at, available, available_caps}
use Rattle.gq_ram.specs.Ledgers.{Ledger, IsBalanced}
use Rattle.gq_ram.proofs.Account_caller_facts.{account_within}

pub ram_within : (l : Ledger) (k n : ℕ) → IsBalanced l → n ≤ available (account_at l.accounts k) → n ≤ 67108864
ram_within l k n b h = omega (arith, h, account_within (λ (x : Account). x.quota.ram) refl l.accounts k, b.quotas, b.small)

pub caps_within : (l : Ledger) (k n : ℕ) → IsBalanced l → n ≤ available_caps (account_at l.accounts k) → n ≤ 65536
caps_within l k n b h = omega (arith, h, account_within (λ (x : Account). x.quota.caps) refl l.accounts k, b.caps, b.small_caps)
