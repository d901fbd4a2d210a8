use Rattle.std.proofs.Common.{refl, arith}
use Rattle.gq_pool.proofs.Pool_call_effects.{entry_in_use, room_freed, removes, word_there}
use Rattle.gq_pool.proofs.Pool_caller_facts.{after_removes}
use Rattle.gq_pool.proofs.pool.Pool.give.Goals as goal

pub word-word-requires-clause-inside : goal.word-word-requires-clause-inside
word-word-requires-clause-inside g c =
    (c.args.account.0, word_there c.args.self.now c.args.heap.now _ c.args.index c.requires.kept c.requires.inside)

pub free-requires : goal.free-requires
free-requires g c =
    let word = c.word-word.ensures c.args.account.0 (word_there c.args.self.now c.args.heap.now _ c.args.index c.requires.kept c.requires.inside) in
    entry_in_use c.args.self.now c.args.heap.now _ c.args.index c.word-word.result c.requires.kept c.requires.inside word (omega arith)

pub store4-requires : goal.store4-requires
store4-requires g c =
    let word = c.word-word.ensures c.args.account.0 (word_there c.args.self.now c.args.heap.now _ c.args.index c.requires.kept c.requires.inside) in
    rw c.new.ensures (
      c.args.account.0,
      room_freed c.args.self.now c.args.heap.now _ _ _ c.args.index c.word-word.result c.requires.kept
          c.requires.inside word (omega arith) c.free.ensures.frees,
    )

pub returns-then-word-eq0-clause-gives : goal.returns-then-word-eq0-clause-gives
returns-then-word-eq0-clause-gives g c =
    let word = c.word-word.ensures c.args.account.0 (word_there c.args.self.now c.args.heap.now _ c.args.index c.requires.kept c.requires.inside) in
    record { absent = λ a. (refl, refl, refl); there = λ h. absurd (h (omega (arith, word))) }

pub returns-clause-gives : goal.returns-clause-gives
returns-clause-gives g c =
    let word = c.word-word.ensures c.args.account.0 (word_there c.args.self.now c.args.heap.now _ c.args.index c.requires.kept c.requires.inside) in
    let there = room_freed c.args.self.now c.args.heap.now _ _ _ c.args.index c.word-word.result c.requires.kept c.requires.inside word (omega arith)
    c.free.ensures.frees in
    let alone = rw c.new.ensures at c.store4.ensures.alone in
    let stored = rw c.new.ensures at c.store4.ensures.stored in
    record {
      absent = λ a. absurd (omega (arith, word, a));
      there = λ _. (
        refl,
        removes c.args.self.now c.args.heap.now _ _ _ _ c.args.index c.word-word.result c.requires.inside word (omega arith)
            c.free.ensures.frees (alone c.args.account.0 there) (stored c.args.account.0 there),
      );
    }

pub returns-clause-kept : goal.returns-clause-kept
returns-clause-kept g c =
    let word = c.word-word.ensures c.args.account.0 (word_there c.args.self.now c.args.heap.now _ c.args.index c.requires.kept c.requires.inside) in
    let r = returns-clause-gives g c in
    after_removes c.args.self.now c.args.heap.now _ _ _ c.args.index c.requires.kept (r.there (λ a. omega (arith, word, a))).1

pub returns-clause-rest : goal.returns-clause-rest
returns-clause-rest g c =
    let word = c.word-word.ensures c.args.account.0 (word_there c.args.self.now c.args.heap.now _ c.args.index c.requires.kept c.requires.inside) in
    let there = room_freed c.args.self.now c.args.heap.now _ _ _ c.args.index c.word-word.result c.requires.kept c.requires.inside word (omega arith)
    c.free.ensures.frees in
    let rest = rw c.new.ensures at c.store4.ensures.rest in
    g.met.S.ByteStore.rest_trans _ _ _ _ c.free.ensures.rest (rest c.args.account.0 there)
