-- The bytes before `i` begin the first line.
use Rattle.std.proofs.Common.{◌≡◌, take, drop}
use Rattle.gq_model.specs.texts.Letters.{fed_lines}
use Rattle.gq_command.proofs.Stored_laws.{onto}
use Rattle.gq_command.proofs.stored.first_line.Given as goal

abbrev pub invariant-loop-i : goal.invariant-loop-i
invariant-loop-i l = fed_lines l.text ≡ onto (take l.i l.text) (fed_lines (drop l.i l.text))
