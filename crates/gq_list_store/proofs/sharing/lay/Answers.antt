use Rattle.std.proofs.Common.{arith}
use Rattle.gq_heap.proofs.Heap_caller_facts.{room_there}
use Rattle.gq_list_store.proofs.Shared_store_steps.{block_laid, slice_laid, first_laid, second_laid}
use Rattle.gq_list_store.proofs.sharing.lay.Goals as goal

pub store-requires-clause-inside : goal.store-requires-clause-inside
store-requires-clause-inside g c = room_there _ _ _ c.in_ok-block.ensures.in_use

pub returns : goal.returns
returns g c =
    let begun = block_laid _ _ _ _ _ _ c.requires c.in_ok-block.ensures.ok (c.store.ensures.puts c.args.account.0 c.in_ok-block.ensures.in_use) in
    let sliced = slice_laid _ _ _ _ _ _ _ begun c.in_ok-slice.ensures.ok (c.store-2.ensures.puts c.args.account.0 (record {
      size = 16;
      has =
          c.in_ok-slice.ensures.ok.has;
      inside = omega arith;
    })) in
    let first = first_laid _ _ _ _ _ _ _ sliced c.in_ok-first.ensures.ok in
    second_laid _ _ _ _ _ _ _ _ first (c.in_ok-first.ensures.ok.count_is, c.in_ok-first.ensures.ok.size_is) c.in_ok-second.ensures.ok
