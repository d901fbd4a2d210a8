use Rattle.std.proofs.Common.{rules, tests}
use Rattle.gq_asm.proofs.slot_words.slot_or_object.Goals as goal

pub returns-then-same_text : goal.returns-then-same_text
returns-then-same_text c = search (tests, rules)
