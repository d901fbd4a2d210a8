use Rattle.std.proofs.Common.{[], ◌∷◌, refl}
use Rattle.gq_heap.proofs.Heap_caller_facts.{one_in_use, room_there}
use Rattle.gq_memory_rows.proofs.heap_rows.read_three.Goals as goal

pub load-requires-clause-kept : goal.load-requires-clause-kept
load-requires-clause-kept g c = (c.args.account.0, one_in_use _ _ _ _ _ c.requires ([], c.args.b ∷ c.args.c ∷ [], refl, refl))

pub load-requires-clause-inside : goal.load-requires-clause-inside
load-requires-clause-inside g c = room_there _ _ _ (one_in_use _ _ _ _ _ c.requires ([], c.args.b ∷ c.args.c ∷ [], refl, refl))

pub load-requires-2-clause-kept : goal.load-requires-2-clause-kept
load-requires-2-clause-kept g c = (c.args.account.0, one_in_use _ _ _ _ _ c.requires (c.args.a ∷ [], c.args.c ∷ [], refl, refl))

pub load-requires-2-clause-inside : goal.load-requires-2-clause-inside
load-requires-2-clause-inside g c = room_there _ _ _ (one_in_use _ _ _ _ _ c.requires (c.args.a ∷ [], c.args.c ∷ [], refl, refl))

pub load-requires-3-clause-kept : goal.load-requires-3-clause-kept
load-requires-3-clause-kept g c = (c.args.account.0, one_in_use _ _ _ _ _ c.requires (c.args.a ∷ c.args.b ∷ [], [], refl, refl))

pub load-requires-3-clause-inside : goal.load-requires-3-clause-inside
load-requires-3-clause-inside g c = room_there _ _ _ (one_in_use _ _ _ _ _ c.requires (c.args.a ∷ c.args.b ∷ [], [], refl, refl))
