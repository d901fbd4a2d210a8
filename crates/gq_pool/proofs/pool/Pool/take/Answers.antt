use Rattle.std.proofs.Common.{◌++◌, refl, subst, arith}
use Rattle.gq_heap.specs.Heap.{Allocates}
use Rattle.gq_pool.specs.Pools.{places_of}
use Rattle.gq_pool.proofs.Pool_call_effects.{adds, place_few, room_made, word_there}
use Rattle.gq_pool.proofs.Pool_caller_facts.{after_adds}
use Rattle.gq_pool.proofs.pool.Pool.take.Goals as goal

pub word-requires-clause-inside : goal.word-requires-clause-inside
word-requires-clause-inside g c =
    (c.args.account.0, word_there c.args.self.now c.args.heap.now _ c.args.index c.requires.kept c.requires.inside)

pub overflow_add-number : goal.overflow_add-number
overflow_add-number g c =
    let p = c.requires.kept in
    let a = subst (λ r. Allocates c.args.heap.now c.alloc.new.self (g.S.ByteStore.state c.args.store.now c.args.account.0)
    (g.S.ByteStore.state c.alloc.new.store c.args.account.0) c.args.self.now.size r) c.in-Small.is c.in_ok-place.ensures.ok in
    let few = place_few _ _ _ _ c.args.self.now.size c.in-Small.number _ (places_of c.args.self.now.class p.held ++ p.others) p.keeps.blocks a in
    omega (arith, few)

pub store4-requires : goal.store4-requires
store4-requires g c =
    rw c.new.ensures (
      c.args.account.0,
      room_made c.args.self.now c.args.heap.now _ _ _ c.args.index c.args.self.now.size _ c.requires.kept
          c.requires.inside c.in_ok-place.ensures.ok,
    )

pub returns-then-word-gt0-clause-ok : goal.returns-then-word-gt0-clause-ok
returns-then-word-gt0-clause-ok g c =
    let w = c.word.ensures c.args.account.0 (word_there c.args.self.now c.args.heap.now _ c.args.index c.requires.kept c.requires.inside) in
    record { there = λ h. (refl, refl, refl); absent = λ h. absurd (omega (arith, w, h)) }

pub returns-clause-ok : goal.returns-clause-ok
returns-clause-ok g c =
    let a = subst (λ r. Allocates c.args.heap.now c.alloc.new.self (g.S.ByteStore.state c.args.store.now c.args.account.0)
    (g.S.ByteStore.state c.alloc.new.store c.args.account.0) c.args.self.now.size r) c.in-Small.is c.in_ok-place.ensures.ok in
    let there = room_made c.args.self.now c.args.heap.now _ _ _ c.args.index c.args.self.now.size _ c.requires.kept c.requires.inside c.in_ok-place.ensures.ok
    in
    let alone = rw c.new.ensures at c.store4.ensures.alone in
    let stored = rw c.new.ensures at c.store4.ensures.stored in
    let w = c.word.ensures c.args.account.0 (word_there c.args.self.now c.args.heap.now _ c.args.index c.requires.kept c.requires.inside) in
    record {
      there = λ h. absurd (h (omega (arith, w)));
      absent = λ h. (
        refl,
        adds c.args.self.now c.args.heap.now _ _ _ _ c.args.index c.in-Small.number _ c.requires.inside c.requires.kept h a
            (alone c.args.account.0 there) (stored c.args.account.0 there),
      );
    }

pub returns-clause-kept : goal.returns-clause-kept
returns-clause-kept g c =
    let w = c.word.ensures c.args.account.0 (word_there c.args.self.now c.args.heap.now _ c.args.index c.requires.kept c.requires.inside) in
    let t = returns-clause-ok g c in
    after_adds c.args.self.now c.args.heap.now _ _ _ c.args.index c.requires.kept (t.absent (omega (arith, w))).1

pub returns-clause-rest : goal.returns-clause-rest
returns-clause-rest g c =
    let there = room_made c.args.self.now c.args.heap.now _ _ _ c.args.index c.args.self.now.size _ c.requires.kept c.requires.inside c.in_ok-place.ensures.ok
    in
    let rest = rw c.new.ensures at c.store4.ensures.rest in
    g.met.S.ByteStore.rest_trans _ _ _ _ c.in_ok-place.ensures.rest (rest c.args.account.0 there)
