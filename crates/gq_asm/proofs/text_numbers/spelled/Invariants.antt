use Rattle.std.proofs.Common.{◌≡◌, ◌<◌, ◌^◌, drop}
use Rattle.gq_model.specs.machine.Lists.{all_of}
use Rattle.gq_model.specs.texts.Letters.{is_digit, spelled_on}
use Rattle.gq_asm.proofs.text_numbers.spelled.Given as goal

abbrev pub invariant-loop-byte : goal.invariant-loop-byte
invariant-loop-byte l =
    (l.number < 10 ^ l.byte-index) × (all_of is_digit (drop l.byte-index l.text) ≡ all_of is_digit l.text) ×
    (spelled_on l.number (drop l.byte-index l.text) ≡ spelled_on 0 l.text)
