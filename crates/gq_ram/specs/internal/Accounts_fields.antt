-- The fields of an `Accounts`.
use Rattle.gq_ram.specs.declared.accounts.Accounts.TheInside.{Inside}
use Rattle.gq_ram.specs.Ledgers.{Ledger, IsBalanced}

abbrev pub ledger_view : Inside → Ledger
ledger_view s = record { accounts = s.accounts.slots; spaces = s.spaces; owners = s.owners.items; price = s.price; total = s.total; total_caps = s.total_caps }

abbrev pub IsAccounts : Inside → Type 0
IsAccounts s = IsBalanced (ledger_view s)
