use Rattle.std.proofs.Common.{◌∙◌, arith}
use Rattle.gq_heap.proofs.Heap_caller_facts.{room_there}
use Rattle.gq_list_store.proofs.Shared_store_steps.{first_takes, first_puts, second_takes, second_gives, second_ends, filled_is, second_is, left_is, left_block}
use Rattle.gq_list_store.proofs.Shared_store_steps.{reads_entry}
use Rattle.gq_list_store.proofs.sharing.trade.Goals as goal

pub store-requires-clause-kept : goal.store-requires-clause-kept
store-requires-clause-kept g c =
    let one = first_takes _ _ _ _ _ _ _ _ _ c.requires c.in_ok-take.ensures.ok in
    (c.args.account.0, filled_is _ _ _ _ _ _ _ one.1)

pub take-requires-2-clause-kept : goal.take-requires-2-clause-kept
take-requires-2-clause-kept g c =
    let one = first_takes _ _ _ _ _ _ _ _ _ c.requires c.in_ok-take.ensures.ok in
    let two = first_puts _ _ _ _ _ _ _ _ _ one.1 (c.store.ensures.puts c.args.account.0 (filled_is _ _ _ _ _ _ _ one.1)) in
    second_is _ _ _ _ _ _ _ two

pub load-in_slice-requires : goal.load-in_slice-requires
load-in_slice-requires g c =
    let one = first_takes _ _ _ _ _ _ _ _ _ c.requires c.in_ok-take.ensures.ok in
    let two = first_puts _ _ _ _ _ _ _ _ _ one.1 (c.store.ensures.puts c.args.account.0 (filled_is _ _ _ _ _ _ _ one.1)) in
    let three = second_takes _ _ _ _ _ _ _ _ _ _ two c.in_ok-take-2.ensures.ok in
    let four = second_gives _ _ _ _ _ _ _ _ _ _ three c.give.ensures.gives in
    let five = second_ends _ _ _ _ _ _ _ _ _ four c.end.ensures.ends in
    (c.args.account.0, record { size = 16; has = five.has; inside = omega arith })

pub load-in_block-requires-clause-kept : goal.load-in_block-requires-clause-kept
load-in_block-requires-clause-kept g c =
    let one = first_takes _ _ _ _ _ _ _ _ _ c.requires c.in_ok-take.ensures.ok in
    let two = first_puts _ _ _ _ _ _ _ _ _ one.1 (c.store.ensures.puts c.args.account.0 (filled_is _ _ _ _ _ _ _ one.1)) in
    let three = second_takes _ _ _ _ _ _ _ _ _ _ two c.in_ok-take-2.ensures.ok in
    let four = second_gives _ _ _ _ _ _ _ _ _ _ three c.give.ensures.gives in
    let five = second_ends _ _ _ _ _ _ _ _ _ four c.end.ensures.ends in
    (c.args.account.0, left_block _ _ _ _ _ _ five)

pub load-in_block-requires-clause-inside : goal.load-in_block-requires-clause-inside
load-in_block-requires-clause-inside g c = room_there _ _ _ (load-in_block-requires-clause-kept g c).1

pub load-in_entry-requires-clause-kept : goal.load-in_entry-requires-clause-kept
load-in_entry-requires-clause-kept g c =
    let one = first_takes _ _ _ _ _ _ _ _ _ c.requires c.in_ok-take.ensures.ok in
    let two = first_puts _ _ _ _ _ _ _ _ _ one.1 (c.store.ensures.puts c.args.account.0 (filled_is _ _ _ _ _ _ _ one.1)) in
    let three = second_takes _ _ _ _ _ _ _ _ _ _ two c.in_ok-take-2.ensures.ok in
    let four = second_gives _ _ _ _ _ _ _ _ _ _ three c.give.ensures.gives in
    let five = second_ends _ _ _ _ _ _ _ _ _ four c.end.ensures.ends in
    (c.args.account.0, left_is _ _ _ _ _ _ five)

pub returns : goal.returns
returns g c =
    let one = first_takes _ _ _ _ _ _ _ _ _ c.requires c.in_ok-take.ensures.ok in
    let two = first_puts _ _ _ _ _ _ _ _ _ one.1 (c.store.ensures.puts c.args.account.0 (filled_is _ _ _ _ _ _ _ one.1)) in
    let three = second_takes _ _ _ _ _ _ _ _ _ _ two c.in_ok-take-2.ensures.ok in
    let four = second_gives _ _ _ _ _ _ _ _ _ _ three c.give.ensures.gives in
    let five = second_ends _ _ _ _ _ _ _ _ _ four c.end.ensures.ends in
    let a = c.args.account.0 in (
      c.load-in_slice.ensures a (record { size = 16; has = five.has; inside = omega arith }) ∙ five.in_slice,
      c.load-in_block.ensures a (left_block _ _ _ _ _ _ five) ∙ five.in_block,
      reads_entry _ _ _ _ _ _ five _ (c.load-in_entry.ensures a (left_is _ _ _ _ _ _ five)),
    )
