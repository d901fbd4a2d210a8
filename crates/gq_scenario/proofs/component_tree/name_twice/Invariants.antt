use Rattle.std.proofs.Common.{◌≡◌, [], ◌∷◌, take, drop, codes}
use Rattle.gq_scenario.specs.Document.{name_twice}
use Rattle.gq_scenario.proofs.Repeated_names.{seen_after}
use Rattle.gq_scenario.proofs.component_tree.name_twice.Given as goal

abbrev pub invariant-loop-place : goal.invariant-loop-place
invariant-loop-place l = name_twice (seen_after (codes "init" ∷ []) (take l.place l.names)) (drop l.place l.names) ≡ name_twice (codes "init" ∷ []) l.names
