-- A leaf has exited.
use Rattle.gq_model.proofs.Small_facts.{get_within}
use Rattle.gq_machine.proofs.Released_leaves.{gone_then, of_within}
use Rattle.gq_machine.proofs.Stepping_leaf_facts.{item_there}
use Rattle.gq_machine.proofs.main_end.leave.Goals as goal

pub returns : goal.returns
returns c =
    let ls = c.args.leaves.now.items in
    let x = c.args.number in
    let found = get_within ls x (of_within _ ls x c.requires.countable) in
    let old = c.index_mut-leaf.result.now in
    gone_then c.args.table.now x ls old c.exit.new.self c.release_after.new.leaves.items (item_there ls x found.0 old found.1 c.index_mut-leaf.ensures.value)
    c.exit.ensures c.release_after.ensures
