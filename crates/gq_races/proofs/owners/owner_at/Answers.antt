use Rattle.gq_races.proofs.Leaf_owner_rounds.{at_get, at_over}
use Rattle.gq_races.proofs.owners.owner_at.Goals as goal

pub returns-in-Some : goal.returns-in-Some
returns-in-Some c z = at_get c.args.owners.now z c.args.leaf c.in-Some.owner.now c.in-Some.ensures.lookup.3.0 c.in-Some.ensures.lookup.1

pub returns-in-None : goal.returns-in-None
returns-in-None c z = at_over c.args.owners.now z c.args.leaf c.in-None.ensures.lookup.3
