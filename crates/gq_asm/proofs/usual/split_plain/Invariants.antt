use Rattle.std.proofs.Common.{◌≡◌, true, take}
use Rattle.gq_model.specs.machine.Lists.{all_of}
use Rattle.gq_asm.specs.Word_prefixes.{is_plain}
use Rattle.gq_asm.proofs.usual.split_plain.Given as goal

abbrev pub invariant-loop-i : goal.invariant-loop-i
invariant-loop-i l = all_of is_plain (take l.i l.text) ≡ true
