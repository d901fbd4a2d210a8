use Rattle.std.proofs.Common.{[], ◌∷◌, refl}
use Rattle.gq_heap.proofs.Heap_caller_facts.{one_in_use, same_in_use, room_there}
use Rattle.gq_memory_rows.proofs.heap_rows.write_two.Goals as goal

pub store-requires-clause-kept : goal.store-requires-clause-kept
store-requires-clause-kept g c = (c.args.account.0, one_in_use _ _ _ _ _ c.requires ([], c.args.b ∷ [], refl, refl))

pub store-requires-clause-inside : goal.store-requires-clause-inside
store-requires-clause-inside g c = room_there _ _ _ (one_in_use _ _ _ _ _ c.requires ([], c.args.b ∷ [], refl, refl))

pub store-requires-2-clause-kept : goal.store-requires-2-clause-kept
store-requires-2-clause-kept g c =
    let first = same_in_use _ _ _ _ _ _ _ _ c.requires ([], c.args.b ∷ [], refl, refl)
    (c.store.ensures.puts c.args.account.0 (one_in_use _ _ _ _ _ c.requires ([], c.args.b ∷ [], refl, refl))) in
    (c.args.account.0, one_in_use _ _ _ _ _ first (c.args.a ∷ [], [], refl, refl))

pub store-requires-2-clause-inside : goal.store-requires-2-clause-inside
store-requires-2-clause-inside g c = room_there _ _ _ (one_in_use _ _ _ _ _ c.requires (c.args.a ∷ [], [], refl, refl))

pub load-requires-clause-kept : goal.load-requires-clause-kept
load-requires-clause-kept g c =
    let first = same_in_use _ _ _ _ _ _ _ _ c.requires ([], c.args.b ∷ [], refl, refl)
    (c.store.ensures.puts c.args.account.0 (one_in_use _ _ _ _ _ c.requires ([], c.args.b ∷ [], refl, refl))) in
    let second = same_in_use _ _ _ _ _ _ _ _ first (c.args.a ∷ [], [], refl, refl)
    (c.store-2.ensures.puts c.args.account.0 (one_in_use _ _ _ _ _ first (c.args.a ∷ [], [], refl, refl))) in
    (c.args.account.0, one_in_use _ _ _ _ _ second ([], c.args.b ∷ [], refl, refl))

pub load-requires-clause-inside : goal.load-requires-clause-inside
load-requires-clause-inside g c = room_there _ _ _ (one_in_use _ _ _ _ _ c.requires ([], c.args.b ∷ [], refl, refl))

pub load-requires-2-clause-kept : goal.load-requires-2-clause-kept
load-requires-2-clause-kept g c =
    let first = same_in_use _ _ _ _ _ _ _ _ c.requires ([], c.args.b ∷ [], refl, refl)
    (c.store.ensures.puts c.args.account.0 (one_in_use _ _ _ _ _ c.requires ([], c.args.b ∷ [], refl, refl))) in
    let second = same_in_use _ _ _ _ _ _ _ _ first (c.args.a ∷ [], [], refl, refl)
    (c.store-2.ensures.puts c.args.account.0 (one_in_use _ _ _ _ _ first (c.args.a ∷ [], [], refl, refl))) in
    (c.args.account.0, one_in_use _ _ _ _ _ second (c.args.a ∷ [], [], refl, refl))

pub load-requires-2-clause-inside : goal.load-requires-2-clause-inside
load-requires-2-clause-inside g c = room_there _ _ _ (one_in_use _ _ _ _ _ c.requires (c.args.a ∷ [], [], refl, refl))
