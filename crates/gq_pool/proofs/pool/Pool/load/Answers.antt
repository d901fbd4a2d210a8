use Rattle.std.proofs.Common.{arith}
use Rattle.gq_pool.proofs.Pool_call_effects.{entry_in_use, entry_room, reads_absent, reads_there, word_there}
use Rattle.gq_pool.proofs.pool.Pool.load.Goals as goal

pub word-word-requires-clause-inside : goal.word-word-requires-clause-inside
word-word-requires-clause-inside g c =
    (c.requires.kept.0, word_there c.args.self.now c.args.heap.now _ c.args.index c.requires.kept.1 c.requires.inside.0)

pub load-requires-clause-kept : goal.load-requires-clause-kept
load-requires-clause-kept g c = (
  c.requires.kept.0,
  entry_in_use c.args.self.now c.args.heap.now _ c.args.index c.word-word.result c.requires.kept.1 c.requires.inside.0
      (c.word-word.ensures c.requires.kept.0 (word_there c.args.self.now c.args.heap.now _ c.args.index c.requires.kept.1 c.requires.inside.0)) (omega arith),
)

pub load-requires-clause-inside : goal.load-requires-clause-inside
load-requires-clause-inside g c =
    omega (arith, c.requires.inside.1, entry_room c.args.self.now _ c.requires.kept.1.held c.requires.kept.1.keeps.table)

pub returns-then-word-eq0 : goal.returns-then-word-eq0
returns-then-word-eq0 g c = λ a kept.
    let there = word_there c.args.self.now c.args.heap.now _ c.args.index kept c.requires.inside.0 in
    reads_absent c.args.self.now c.args.heap.now _ c.args.index c.args.offset c.requires.inside.0 (omega (arith, c.word-word.ensures a there))

pub returns : goal.returns
returns g c = λ a kept.
    let there = word_there c.args.self.now c.args.heap.now _ c.args.index kept c.requires.inside.0 in
    let word = c.word-word.ensures a there in
    let used = entry_in_use c.args.self.now c.args.heap.now _ c.args.index c.word-word.result kept c.requires.inside.0 word (omega arith) in
    reads_there c.args.self.now c.args.heap.now _ c.args.index c.word-word.result c.args.offset c.load.result c.requires.inside.0 word (omega arith)
    (c.load.ensures a used)
