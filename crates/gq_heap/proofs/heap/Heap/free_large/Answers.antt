use Rattle.std.proofs.Common.{◌≡◌, ◌-◌, List, length, refl, ap, ◌∙◌, arith, rules}
use Rattle.gq_tariff.specs.Prices.{up}
use Rattle.gq_heap.proofs.Heap_cell_lists.{up_pos}
use Rattle.gq_heap.proofs.Large_block_calls.{has_large, frees_large}
use Rattle.gq_heap.proofs.Heap_call_effects.{frees}
use Rattle.gq_heap.proofs.heap.Heap.free_large.Goals as goal

pub shrink-requires : goal.shrink-requires
shrink-requires g c =
    let f = has_large c.args.self.now (g.S.ByteStore.state c.args.store.now c.args.account.0) c.args.number c.args.size c.requires in
    rw c.new.ensures (omega (arith, f.0, f.1, up_pos c.args.size (omega (arith, f.1))))

pub overflow_sub-self : goal.overflow_sub-self
overflow_sub-self g c =
    let f = has_large c.args.self.now (g.S.ByteStore.state c.args.store.now c.args.account.0) c.args.number c.args.size c.requires in
    let price : c.round_up.result ≡ up c.args.size = c.round_up.ensures.value ∙ ap up c.from.ensures in
    omega (arith, f.3, price)

pub overflow_sub-self-2 : goal.overflow_sub-self-2
overflow_sub-self-2 g c =
    let f = has_large c.args.self.now (g.S.ByteStore.state c.args.store.now c.args.account.0) c.args.number c.args.size c.requires in
    omega (arith, f.4)

eight : {A : Type 0} (xs : List A) → length xs ≡ 8 → length xs ≡ 8
eight xs h = h

pub returns-clause-frees : goal.returns-clause-frees
returns-clause-frees g c =
    let f = has_large c.args.self.now (g.S.ByteStore.state c.args.store.now c.args.account.0) c.args.number c.args.size c.requires in
    let price : c.round_up.result ≡ up c.args.size = c.round_up.ensures.value ∙ ap up c.from.ensures in
    let bins : length c.args.self.now.bins ≡ 8 = eight _ (search rules) in
    frees c.args.self.now _ (g.S.ByteStore.state c.args.store.now c.args.account.0) (g.S.ByteStore.state c.shrink.new.self c.args.account.0) _
    (frees_large c.args.self.now _ (g.S.ByteStore.state c.args.store.now c.args.account.0) (g.S.ByteStore.state c.shrink.new.self c.args.account.0)
    c.args.number c.args.size
    (rw c.new.ensures at c.shrink.ensures.shrunk) refl (ap (λ n. c.args.self.now.large - n) price) refl (g.S.ByteStore.state c.args.store.now c.args.account.0)
    f.0 f.3 f.4)
    bins bins
