use Rattle.gq_ram.proofs.Node_accounts_opened.{AreOpen}
use Rattle.gq_ram.proofs.account_tree.AccountTree.open.Given as goal

abbrev pub invariant-loop-node : goal.invariant-loop-node
invariant-loop-node l = AreOpen l.parents.items l.fn.accounts l.accounts l.opened.items l.node
