use Rattle.std.proofs.Common.{◌≡◌, drop}
use Rattle.gq_model.specs.machine.Lists.{all_of}
use Rattle.gq_sizes.specs.Gives.{leaf_gives_right}
use Rattle.gq_sizes.proofs.gives.all_give.Given as goal

abbrev pub invariant-loop-verified : goal.invariant-loop-verified
invariant-loop-verified l = all_of (leaf_gives_right l.interfaces) (drop l.verified-index l.leaves) ≡ all_of (leaf_gives_right l.interfaces) l.leaves
