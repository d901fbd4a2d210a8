use Rattle.std.proofs.Common.{◌≡◌, drop}
use Rattle.gq_model.specs.machine.Lists.{any_of}
use Rattle.gq_model.specs.rules.Use.{is_there}
use Rattle.gq_races.proofs.openers.is_among.Given as goal

abbrev pub invariant-loop-server : goal.invariant-loop-server
invariant-loop-server l = any_of (is_there l.leaf) l.servers ≡ any_of (is_there l.leaf) (drop l.server-index l.servers)
