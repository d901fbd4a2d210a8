-- Statements that have a code.
use Rattle.std.specs.Prelude.{Bool, true, ◌&&◌}
use Rattle.gq_model.specs.machine.Lists.{all_of}
use Rattle.gq_model.specs.machine.Program.{Statements, Done, Do, If, Loop}
use Rattle.gq_model.specs.texts.Operands.{operands, in_range}

-- every operand is in its range, however deep the statement stands
abbrev pub has_code : Statements → Bool
has_code Done = true
has_code (Do i rest) = all_of in_range (operands i) && has_code rest
has_code (If arm other rest) = has_code arm && has_code other && has_code rest
has_code (Loop count body rest) = has_code body && has_code rest
