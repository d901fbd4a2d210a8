use Rattle.std.proofs.Common.{length}
use Rattle.gq_reader.proofs.interface_reading.+with_upgrades.Given as goal

abbrev pub decreases-with_upgrades : goal.decreases-with_upgrades
decreases-with_upgrades l = length l.bytes.now
