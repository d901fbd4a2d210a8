use Rattle.std.proofs.Common.{◌≡◌, ◌&&◌, drop}
use Rattle.std.specs.Char.{is_ascii_hexdigit}
use Rattle.gq_model.specs.machine.Lists.{all_of}
use Rattle.gq_reader.proofs.hexadecimal.are_digits.Given as goal

-- those so far are, and so are those that are left
abbrev pub invariant-loop-byte : goal.invariant-loop-byte
invariant-loop-byte l = (l.are && all_of is_ascii_hexdigit (drop l.byte-index l.text)) ≡ all_of is_ascii_hexdigit l.text
