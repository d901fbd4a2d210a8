use Rattle.gq_pool.proofs.Pool_call_effects.{absent_tested, word_there}
use Rattle.gq_pool.proofs.pool.Pool.has_entry.Goals as goal

pub word-requires-clause-inside : goal.word-requires-clause-inside
word-requires-clause-inside g c =
    (c.requires.kept.0, word_there c.args.self.now c.args.heap.now _ c.args.index c.requires.kept.1 c.requires.inside)

pub returns : goal.returns
returns g c = λ a kept.
    absent_tested c.word.result _ (c.word.ensures a (word_there c.args.self.now c.args.heap.now _ c.args.index kept c.requires.inside))
