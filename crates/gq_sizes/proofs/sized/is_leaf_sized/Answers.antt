use Rattle.gq_sizes.proofs.sized.is_leaf_sized.Goals as goal

pub returns-then-signals-clause-ends : goal.returns-then-signals-clause-ends
returns-then-signals-clause-ends c n m endless ram caps h = (c.is_least.ensures.least n m endless ram caps c.if-not-is_least.false).ends
