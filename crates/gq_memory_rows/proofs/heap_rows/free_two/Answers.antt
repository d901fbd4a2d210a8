use Rattle.std.proofs.Common.{[], ◌∷◌, refl}
use Rattle.gq_heap.proofs.Heap_caller_facts.{one_in_use, fewer_in_use}
use Rattle.gq_memory_rows.proofs.heap_rows.free_two.Goals as goal

pub free-requires : goal.free-requires
free-requires g c = one_in_use _ _ _ _ _ c.requires ([], c.args.b ∷ [], refl, refl)

pub free-requires-2 : goal.free-requires-2
free-requires-2 g c =
    let one = fewer_in_use _ _ _ _ _ _ _ c.requires ([], c.args.b ∷ [], refl, refl) c.free.ensures.frees in
    one_in_use _ _ _ _ _ one ([], [], refl, refl)
