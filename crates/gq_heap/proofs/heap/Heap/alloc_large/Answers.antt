use Rattle.std.proofs.Common.{◌≡◌, ◌+◌, List, length, refl, ap, ◌∙◌, arith, rules}
use Rattle.gq_tariff.specs.Prices.{up}
use Rattle.gq_heap.proofs.Heap_cell_lists.{up_small}
use Rattle.gq_heap.proofs.Large_block_calls.{large_room, allocates_large}
use Rattle.gq_heap.proofs.Heap_call_effects.{allocates}
use Rattle.gq_heap.proofs.heap.Heap.alloc_large.Goals as goal

pub overflow_add-self-2 : goal.overflow_add-self-2
overflow_add-self-2 g c =
    let h = c.in_ok-chunk.ensures.ok in
    let room = large_room c.args.self.now _ _ c.requires.kept.places c.requires.kept.keeps _ _ h in
    omega (arith, room.0)

pub invariant_of-self : goal.invariant_of-self
invariant_of-self g c =
    let h = c.in_ok-chunk.ensures.ok in
    let room = large_room c.args.self.now _ _ c.requires.kept.places c.requires.kept.keeps _ _ h in
    record { few = omega (arith, room.1, c.round_up.ensures.value, c.from.ensures, up_small c.args.size c.requires.size.1); count_few = omega (arith, room.0) }

eight : {A : Type 0} (xs : List A) → length xs ≡ 8 → length xs ≡ 8
eight xs h = h

pub returns-clause-ok : goal.returns-clause-ok
returns-clause-ok g c =
    let h = c.in_ok-chunk.ensures.ok in
    let k = rw c.pages_of.ensures.price at h in
    let price : c.round_up.result ≡ up c.args.size = c.round_up.ensures.value ∙ ap up c.from.ensures in
    let bins : length c.args.self.now.bins ≡ 8 = eight _ (search rules) in
    rw c.number.ensures (allocates c.args.self.now _ (g.S.ByteStore.state c.args.store.now c.args.account.0) (g.S.ByteStore.state c.grow.new.self
    c.args.account.0) c.args.size _
    (allocates_large c.args.self.now _ (g.S.ByteStore.state c.args.store.now c.args.account.0) (g.S.ByteStore.state c.grow.new.self c.args.account.0)
    c.in_ok-chunk.chunk c.args.size
    c.requires.size k refl (ap (λ n. c.args.self.now.large + n) price) refl) bins bins)
