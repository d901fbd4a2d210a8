use Rattle.std.proofs.Common.{map, length}
use Rattle.std.proofs.lemmas.Slice.Zip.{either_empty_from_Zip}
use Rattle.std.specs.Slice.Iter.{iter_rest}
use Rattle.std.specs.Iterator.Adapters.{zip_first, zip_second}
use Rattle.gq_budget.specs.internal.Run_rounds.{all_asks}
use Rattle.gq_budget.proofs.Zipped_lists.{none_left, asks_none}
use Rattle.gq_budget.proofs.asks.all_asks.Goals as goal

pub returns : goal.returns
returns c =
    let s = c.loop-leaf.leaf-iterator in
    let m = either_empty_from_Zip s c.next.new.self c.next.result c.in-None.is c.next.ensures.steps in
    let xs = iter_rest (zip_first s) in
    let ys = iter_rest (zip_second s) in
    let all = c.args.leaves.now in
    let n = length c.loop-leaf.asks.items in
    none_left c.loop-leaf.asks.items (all_asks all n xs (map (λ v. v.items) ys)) (all_asks all 0 all (map (λ v. v.items) c.args.leads.now))
    (asks_none all n xs ys m) c.loop-leaf.invariant
