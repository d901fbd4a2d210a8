-- Quota that goes from one account to another.
use Rattle.std.specs.Prelude.{◌≡◌, ℕ, ◌<◌, ◌≤◌, ◌↔◌, length, Result, OnOk, OnErr, IsErrOf}
use Rattle.gq_tariff.specs.declared.amount.Amount.{Amount}
use Rattle.gq_ram.specs.declared.account.AccountFault.{AccountFault}
use Rattle.gq_ram.specs.declared.account.AccountFault.TheVariants.{Exceeded, CapsExceeded}
use Rattle.gq_ram.specs.Account_table.{Entries, IsOpen}
use Rattle.gq_ram.specs.Account_tree.{Tree, AreNodes, number}

-- quota can go from the node i to the node j: they are two nodes of the tree, and their accounts are open
pub record CanGive (t : Tree) (es : Entries) (i j : ℕ) : Type 0 where
  pub nodes : AreNodes t es
  pub from : i < length t.parents
  pub to : j < length t.parents
  pub apart : i ≡ j → ⊥
  pub from_open : IsOpen es (number t i)
  pub to_open : IsOpen es (number t j)

-- So much is given just where the giver has it: refused as `Exceeded` where it has fewer bytes, else as `CapsExceeded` where it has fewer capabilities.
pub record IsAfforded {A : Type 0} (r : Result A AccountFault) (ram caps : ℕ) (n : Amount) : Type 0 where
  pub enough : OnOk r (n.ram ≤ ram)
  pub enough_caps : OnOk r (n.caps ≤ caps)
  pub exceeded : IsErrOf r Exceeded ↔ (ram < n.ram)
  pub caps_exceeded : IsErrOf r CapsExceeded ↔ ((n.ram ≤ ram) × (caps < n.caps))
  pub only : OnErr r (n.ram ≤ ram → caps < n.caps)
