use Rattle.std.proofs.Common.{take}
use Rattle.gq_program.specs.Name_keys.{AreWithin}
use Rattle.gq_resolve.specs.internal.Search_keys.{name_keys}
use Rattle.gq_resolve.proofs.leaf_names.places_of.Given as goal

-- it is reported of the leaves so far
abbrev pub invariant-loop-place : goal.invariant-loop-place
invariant-loop-place l = AreWithin l.places (name_keys (take l.place l.components))
