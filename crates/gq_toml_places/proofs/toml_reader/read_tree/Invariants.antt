use Rattle.std.proofs.Common.{length}
use Rattle.gq_toml_places.proofs.toml_reader.read_tree.Given as goal

abbrev pub decreases-steps : goal.decreases-steps
decreases-steps l = length l.reader.rest.now
