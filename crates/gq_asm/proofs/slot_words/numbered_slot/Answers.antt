use Rattle.std.proofs.Common.{rules, tests}
use Rattle.gq_asm.proofs.slot_words.numbered_slot.Goals as goal

pub returns-in_ok-slot_number-in-115 : goal.returns-in_ok-slot_number-in-115
returns-in_ok-slot_number-in-115 c = search (tests, rules)
