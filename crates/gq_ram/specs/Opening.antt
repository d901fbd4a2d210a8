-- Accounts that were opened for the nodes of a tree.
use Rattle.std.specs.Prelude.{◌≡◌, ℕ, ◌<◌, length, Some, None, get_or}
use Rattle.gq_ram.specs.Account_table.{Entries, first_account, IsOpen}
use Rattle.gq_ram.specs.Account_tree.{Tree, number, parent, AreNodes}

-- each node of t has an account that is open, and no other account is
pub record IsOpened (t : Tree) (old new : Entries) : Type 0 where
  pub nodes : AreNodes t new
  pub opened : (i : ℕ) → i < length t.parents → IsOpen new (number t i)
  -- an open account is that of some node
  pub only : (k : ℕ) → IsOpen new k → (i : ℕ) × (i < length t.parents) × (number t i ≡ k)
  -- the root node has the root account, as it was
  pub root : number t 0 ≡ 0
  pub kept : get_or new 0 None ≡ get_or old 0 None
  -- each other account has no quota yet, and that of the node above as its reference account
  pub empty : (i : ℕ) → 0 < i → i < length t.parents → get_or new (number t i) None ≡ Some (first_account (record { 0 = number t (parent t i) }))
