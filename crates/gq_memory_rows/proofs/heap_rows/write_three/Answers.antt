use Rattle.std.proofs.Common.{[], ◌∷◌, refl}
use Rattle.gq_heap.proofs.Heap_caller_facts.{one_in_use, same_in_use, room_there}
use Rattle.gq_memory_rows.proofs.heap_rows.write_three.Goals as goal

pub store-requires-clause-kept : goal.store-requires-clause-kept
store-requires-clause-kept g c = (c.args.account.0, one_in_use _ _ _ _ _ c.requires ([], c.args.b ∷ c.args.c ∷ [], refl, refl))

pub store-requires-clause-inside : goal.store-requires-clause-inside
store-requires-clause-inside g c = room_there _ _ _ (one_in_use _ _ _ _ _ c.requires ([], c.args.b ∷ c.args.c ∷ [], refl, refl))

pub store-requires-2-clause-kept : goal.store-requires-2-clause-kept
store-requires-2-clause-kept g c =
    let first = same_in_use _ _ _ _ _ _ _ _ c.requires ([], c.args.b ∷ c.args.c ∷ [], refl, refl)
    (c.store.ensures.puts c.args.account.0 (one_in_use _ _ _ _ _ c.requires ([], c.args.b ∷ c.args.c ∷ [], refl, refl))) in
    (c.args.account.0, one_in_use _ _ _ _ _ first (c.args.a ∷ [], c.args.c ∷ [], refl, refl))

pub store-requires-2-clause-inside : goal.store-requires-2-clause-inside
store-requires-2-clause-inside g c = room_there _ _ _ (one_in_use _ _ _ _ _ c.requires (c.args.a ∷ [], c.args.c ∷ [], refl, refl))

pub store-requires-3-clause-kept : goal.store-requires-3-clause-kept
store-requires-3-clause-kept g c =
    let first = same_in_use _ _ _ _ _ _ _ _ c.requires ([], c.args.b ∷ c.args.c ∷ [], refl, refl)
    (c.store.ensures.puts c.args.account.0 (one_in_use _ _ _ _ _ c.requires ([], c.args.b ∷ c.args.c ∷ [], refl, refl))) in
    let second = same_in_use _ _ _ _ _ _ _ _ first (c.args.a ∷ [], c.args.c ∷ [], refl, refl)
    (c.store-2.ensures.puts c.args.account.0 (one_in_use _ _ _ _ _ first (c.args.a ∷ [], c.args.c ∷ [], refl, refl))) in
    (c.args.account.0, one_in_use _ _ _ _ _ second (c.args.a ∷ c.args.b ∷ [], [], refl, refl))

pub store-requires-3-clause-inside : goal.store-requires-3-clause-inside
store-requires-3-clause-inside g c = room_there _ _ _ (one_in_use _ _ _ _ _ c.requires (c.args.a ∷ c.args.b ∷ [], [], refl, refl))

pub read_three-requires : goal.read_three-requires
read_three-requires g c =
    let first = same_in_use _ _ _ _ _ _ _ _ c.requires ([], c.args.b ∷ c.args.c ∷ [], refl, refl)
    (c.store.ensures.puts c.args.account.0 (one_in_use _ _ _ _ _ c.requires ([], c.args.b ∷ c.args.c ∷ [], refl, refl))) in
    let second = same_in_use _ _ _ _ _ _ _ _ first (c.args.a ∷ [], c.args.c ∷ [], refl, refl)
    (c.store-2.ensures.puts c.args.account.0 (one_in_use _ _ _ _ _ first (c.args.a ∷ [], c.args.c ∷ [], refl, refl))) in
    same_in_use _ _ _ _ _ _ _ _ second (c.args.a ∷ c.args.b ∷ [], [], refl, refl)
    (c.store-3.ensures.puts c.args.account.0 (one_in_use _ _ _ _ _ second (c.args.a ∷ c.args.b ∷ [], [], refl, refl)))

pub returns : goal.returns
returns g c =
    let first = same_in_use _ _ _ _ _ _ _ _ c.requires ([], c.args.b ∷ c.args.c ∷ [], refl, refl)
    (c.store.ensures.puts c.args.account.0 (one_in_use _ _ _ _ _ c.requires ([], c.args.b ∷ c.args.c ∷ [], refl, refl))) in
    let second = same_in_use _ _ _ _ _ _ _ _ first (c.args.a ∷ [], c.args.c ∷ [], refl, refl)
    (c.store-2.ensures.puts c.args.account.0 (one_in_use _ _ _ _ _ first (c.args.a ∷ [], c.args.c ∷ [], refl, refl))) in
    same_in_use _ _ _ _ _ _ _ _ second (c.args.a ∷ c.args.b ∷ [], [], refl, refl)
    (c.store-3.ensures.puts c.args.account.0 (one_in_use _ _ _ _ _ second (c.args.a ∷ c.args.b ∷ [], [], refl, refl)))
