use Rattle.gq_reader.proofs.Hex_digits.{even_spells, odd_spells}
use Rattle.gq_reader.proofs.hexadecimal.is_hex.Goals as goal

pub returns-then-text-eq0 : goal.returns-then-text-eq0
returns-then-text-eq0 c = even_spells c.args.text.now c.are_digits.result c.if-text-eq0.true c.are_digits.ensures

pub returns-else-text-eq0 : goal.returns-else-text-eq0
returns-else-text-eq0 c = odd_spells c.args.text.now c.if-text-eq0.false
