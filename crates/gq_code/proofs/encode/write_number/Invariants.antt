use Rattle.std.proofs.Common.{◌≡◌, ◌-◌, ◌++◌}
use Rattle.gq_model.specs.machine.Program.{spelled}
use Rattle.gq_code.proofs.encode.write_number.Given as goal

abbrev pub invariant-loop-i : goal.invariant-loop-i
invariant-loop-i l = l.out.items ++ spelled (l.width - l.i) l.left ≡ l.initial.out.items ++ spelled l.width l.number
