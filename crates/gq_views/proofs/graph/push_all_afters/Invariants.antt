use Rattle.std.proofs.Common.{◌≡◌, ◌++◌, drop}
use Rattle.gq_model.specs.machine.Scenario.{components, system}
use Rattle.gq_views.specs.Tree.{all_afters}
use Rattle.gq_views.proofs.graph.push_all_afters.Given as goal

-- the arrows so far, with those of the leaves that are left, are all
abbrev pub invariant-loop-leaf : goal.invariant-loop-leaf
invariant-loop-leaf l =
    l.text.items ++ all_afters (system l.drawn) l.places l.leaf (drop l.leaf (components l.drawn))
    ≡ l.fn.text.items ++ all_afters (system l.drawn) l.places 0 (components l.drawn)
