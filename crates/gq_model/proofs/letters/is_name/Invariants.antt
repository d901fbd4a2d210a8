use Rattle.std.proofs.Common.{◌≡◌, drop}
use Rattle.gq_model.specs.machine.Lists.{all_of}
use Rattle.gq_model.specs.texts.Letters.{is_name_byte}
use Rattle.gq_model.proofs.letters.is_name.Given as goal

abbrev pub invariant-loop-byte : goal.invariant-loop-byte
invariant-loop-byte l = all_of is_name_byte (drop l.byte-index l.bytes) ≡ all_of is_name_byte l.bytes
