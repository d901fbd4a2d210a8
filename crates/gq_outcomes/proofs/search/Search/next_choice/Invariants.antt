use Rattle.std.proofs.Common.{◌≡◌, length}
use Rattle.gq_outcomes.specs.internal.Search_states.{ComesTo, IsSearch}
use Rattle.gq_outcomes.proofs.search.Search.next_choice.Given as goal

-- the branches that are left come to the same
abbrev pub invariant-loop-self : goal.invariant-loop-self
invariant-loop-self l = record {
  search : (n : _) → IsSearch n l.fn.self → IsSearch n l.self;
  left : l.self.left ≡ l.fn.self.left;
  cut : l.self.cut ≡ l.fn.self.cut;
  comes : (s : _) (past : _) (u : _) → ComesTo s past l.fn.self u → ComesTo s past l.self u;
}

abbrev pub decreases-loop-self : goal.decreases-loop-self
decreases-loop-self l = length l.self.branches.items
