use Rattle.std.proofs.Common.{◌≡◌, ◌*◌, drop}
use Rattle.gq_model.specs.rules.Kinds.{same_kinds}
use Rattle.gq_caps.specs.Known.{all_known}
use Rattle.gq_caps.proofs.kinds.are_same.Given as goal

-- what is left is the same just where all is
abbrev pub invariant-loop-four : goal.invariant-loop-four
invariant-loop-four l =
    same_kinds (all_known (drop (4 * l.four) l.kinds)) (all_known (drop (4 * l.four) l.others)) ≡
    same_kinds (all_known l.kinds) (all_known l.others)
