-- The tree of nodes with their accounts, and quota that moves between two of them.
use Rattle.std.specs.Prelude.{◌≡◌, ℕ, ◌+◌, ◌-◌, ◌<◌, ◌⊎◌, List, length, Some, get_or, slice_set}
use Rattle.gq_tariff.specs.declared.amount.Amount.{Amount}
use Rattle.gq_ram.specs.declared.account.Account.{Account}
use Rattle.gq_store.specs.declared.AccountNo.{AccountNo}
use Rattle.gq_ram.specs.Account_table.{Entries, account_at, with_amount, IsOpen}
use Rattle.gq_ram.specs.Ledgers.{Ledger, with_accounts}

-- the nodes in preorder: the account of each, and the place of the node above it
pub record Tree : Type 0 where
  pub accounts : List AccountNo
  pub parents : List ℕ

-- the place of the node above a node
abbrev pub parent : Tree → ℕ → ℕ
parent t i = get_or t.parents i 0

-- the number of the account of a node
abbrev pub number : Tree → ℕ → ℕ
number t i = (get_or t.accounts i (record { 0 = 0 })).0

pub record IsTree (t : Tree) : Type 0 where
  pub count : length t.accounts ≡ length t.parents
  -- an init stands before the nodes that it starts
  pub preorder : (i : ℕ) → 0 < i → i < length t.parents → parent t i < i

-- one of the two stands right above the other
abbrev pub IsHop : Tree → ℕ → ℕ → Type 0
IsHop t i j = ((0 < i) × (parent t i ≡ j)) ⊎ ((0 < j) × (parent t j ≡ i))

-- each node has an account of its own, whose reference account, while it is open, is that of the node above
pub record AreNodes (t : Tree) (es : Entries) : Type 0 where
  pub apart : (i j : ℕ) → i < length t.parents → j < length t.parents → number t i ≡ number t j → i ≡ j
  pub references : (i : ℕ) → 0 < i → i < length t.parents → IsOpen es (number t i)
      → (account_at es (number t i)).reference ≡ Some (record { 0 = number t (parent t i) })

-- an account with so much quota less, and one with so much more
abbrev pub less : Account → Amount → Account
less a n = with_amount a (record { ram = a.quota.ram - n.ram; caps = a.quota.caps - n.caps })

abbrev pub more : Account → Amount → Account
more a n = with_amount a (record { ram = a.quota.ram + n.ram; caps = a.quota.caps + n.caps })

-- so much quota goes from one account to another
abbrev pub moved : Entries → ℕ → ℕ → Amount → Entries
moved es from to n = slice_set (slice_set es from (Some (less (account_at es from) n))) to (Some (more (account_at es to) n))

-- so much quota goes from the account of one node to that of another
abbrev pub donated : Tree → Ledger → ℕ → ℕ → Amount → Ledger
donated t l i j n = with_accounts l (moved l.accounts (number t i) (number t j) n)

-- the account of a node
abbrev pub account_of : Tree → Ledger → ℕ → Account
account_of t l i = account_at l.accounts (number t i)
