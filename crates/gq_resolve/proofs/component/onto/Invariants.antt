use Rattle.std.proofs.Common.{◌≡◌, ◌++◌, ◌∷◌, drop}
use Rattle.gq_resolve.proofs.component.onto.Given as goal

abbrev pub invariant-loop-upper : goal.invariant-loop-upper
invariant-loop-upper l = l.levels.items ++ drop l.upper-index l.above ≡ l.fn.level ∷ l.above
