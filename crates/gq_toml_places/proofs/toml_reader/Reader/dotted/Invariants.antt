use Rattle.std.proofs.Common.{length, ◌≤◌}
use Rattle.gq_toml_places.proofs.toml_reader.Reader.dotted.Given as goal

abbrev pub invariant-loop-part : goal.invariant-loop-part
invariant-loop-part l = length l.self.rest.now ≤ length l.fn.self.rest.now
