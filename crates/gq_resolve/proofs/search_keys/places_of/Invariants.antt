use Rattle.std.proofs.Common.{take}
use Rattle.gq_program.specs.Name_keys.{AreWithin}
use Rattle.gq_scenario.specs.Component_trees.{nodes_of}
use Rattle.gq_resolve.specs.internal.Search_keys.{keys_of}
use Rattle.gq_resolve.proofs.search_keys.places_of.Given as goal

-- it is reported of the nodes so far
abbrev pub invariant-loop-place : goal.invariant-loop-place
invariant-loop-place l = AreWithin l.places (keys_of (nodes_of (take l.place l.node-items)))
