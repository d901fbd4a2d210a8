use Rattle.std.proofs.Common.{◌≡◌, drop}
use Rattle.gq_model.specs.machine.Lists.{all_of}
use Rattle.gq_fit.specs.Value_edits.{is_value_byte}
use Rattle.gq_fit.proofs.edits.is_scalar.Given as goal

abbrev pub invariant-loop-byte : goal.invariant-loop-byte
invariant-loop-byte l = all_of is_value_byte (drop l.byte-index l.bytes) ≡ all_of is_value_byte l.bytes
