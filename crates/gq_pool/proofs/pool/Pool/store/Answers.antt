use Rattle.std.proofs.Common.{[], ◌∷◌, arith}
use Rattle.gq_pool.proofs.Pool_call_effects.{entry_in_use, entry_room, puts_there, puts_absent, word_there}
use Rattle.gq_pool.proofs.Pool_caller_facts.{after_puts}
use Rattle.gq_pool.proofs.pool.Pool.store.Goals as goal

pub word-word-requires-clause-inside : goal.word-word-requires-clause-inside
word-word-requires-clause-inside g c =
    (c.requires.kept.0, word_there c.args.self.now c.args.heap.now _ c.args.index c.requires.kept.1 c.requires.inside.0)

pub store-requires-clause-kept : goal.store-requires-clause-kept
store-requires-clause-kept g c = (
  c.requires.kept.0,
  entry_in_use c.args.self.now c.args.heap.now _ c.args.index c.word-word.result c.requires.kept.1 c.requires.inside.0
      (c.word-word.ensures c.requires.kept.0 (word_there c.args.self.now c.args.heap.now _ c.args.index c.requires.kept.1 c.requires.inside.0)) (omega arith),
)

pub store-requires-clause-inside : goal.store-requires-clause-inside
store-requires-clause-inside g c =
    omega (arith, c.requires.inside.1, entry_room c.args.self.now _ c.requires.kept.1.held c.requires.kept.1.keeps.table)

pub returns-then-word-gt0-clause-puts : goal.returns-then-word-gt0-clause-puts
returns-then-word-gt0-clause-puts g c = λ a kept.
    let word = c.word-word.ensures a (word_there c.args.self.now c.args.heap.now _ c.args.index kept c.requires.inside.0) in
    let used = entry_in_use c.args.self.now c.args.heap.now _ c.args.index c.word-word.result kept c.requires.inside.0 word (omega arith) in
    puts_there c.args.self.now c.args.heap.now _ _ c.args.index c.word-word.result c.args.offset (c.args.value ∷ []) c.requires.inside.0 word
    (omega arith) (c.store.ensures.puts a used)

pub returns-else-word-gt0-clause-puts : goal.returns-else-word-gt0-clause-puts
returns-else-word-gt0-clause-puts g c = λ a kept.
    let word = c.word-word.ensures a (word_there c.args.self.now c.args.heap.now _ c.args.index kept c.requires.inside.0) in
    puts_absent c.args.self.now c.args.heap.now _ c.args.index c.args.offset (c.args.value ∷ []) c.requires.inside.0 (omega (arith, word))

pub returns-then-word-gt0-clause-kept : goal.returns-then-word-gt0-clause-kept
returns-then-word-gt0-clause-kept g c = λ a kept.
    after_puts c.args.self.now c.args.heap.now _ _ c.args.index c.args.offset (c.args.value ∷ []) kept (returns-then-word-gt0-clause-puts g c a kept)

pub returns-else-word-gt0-clause-kept : goal.returns-else-word-gt0-clause-kept
returns-else-word-gt0-clause-kept g c = λ a kept. kept

pub returns-then-word-gt0-clause-rest : goal.returns-then-word-gt0-clause-rest
returns-then-word-gt0-clause-rest g c = λ a kept.
    let word = c.word-word.ensures a (word_there c.args.self.now c.args.heap.now _ c.args.index kept c.requires.inside.0) in
    c.store.ensures.rest a
    (entry_in_use c.args.self.now c.args.heap.now _ c.args.index c.word-word.result kept c.requires.inside.0 word (omega arith))

pub returns-else-word-gt0-clause-rest : goal.returns-else-word-gt0-clause-rest
returns-else-word-gt0-clause-rest g c = λ a kept. g.met.S.ByteStore.rest_refl _ _
