use Rattle.std.proofs.Common.{◌≡◌, drop}
use Rattle.gq_model.specs.rules.Kinds.{same_kinds}
use Rattle.gq_caps.specs.Known.{all_known}
use Rattle.gq_caps.proofs.kinds.are_same_from.Given as goal

-- what is left is the same just where all is
abbrev pub invariant-loop-place : goal.invariant-loop-place
invariant-loop-place l =
    same_kinds (all_known (drop l.place l.kinds)) (all_known (drop l.place l.others)) ≡
    same_kinds (all_known (drop l.first l.kinds)) (all_known (drop l.first l.others))
