use Rattle.std.proofs.Common.{◌≡◌, drop}
use Rattle.gq_program.specs.Name_keys.{keyed_on, key_of}
use Rattle.gq_program.proofs.name_keys.key_of.Given as goal

-- with the letters that are left it is the number of all
abbrev pub invariant-loop-letter : goal.invariant-loop-letter
invariant-loop-letter l = keyed_on l.key (drop l.letter-index l.name) ≡ key_of l.name
