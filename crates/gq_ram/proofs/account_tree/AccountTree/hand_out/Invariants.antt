use Rattle.gq_ram.proofs.Quota_handed_down.{IsHandedOut}
use Rattle.gq_ram.proofs.account_tree.AccountTree.hand_out.Given as goal

abbrev pub invariant-loop-node : goal.invariant-loop-node
invariant-loop-node l = IsHandedOut l.self l.fn.accounts l.accounts l.handed l.node
