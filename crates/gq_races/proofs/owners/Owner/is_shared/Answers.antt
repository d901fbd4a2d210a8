use Rattle.std.proofs.Common.{ap, arith, sym}
use Rattle.std.specs.Prelude.{not}
use Rattle.std.proofs.lemmas.Bool.Decides.{nat_tests}
use Rattle.gq_races.proofs.Leaf_owner_rounds.{any_nobody, shared_only}
use Rattle.gq_races.proofs.owners.Owner.is_shared.Goals as goal

pub returns-in-Only : goal.returns-in-Only
returns-in-Only c = rw (c.in-Only.is) (shared_only c.in-Only.leaf c.args.count _ (grind (arith, nat_tests)))

pub returns-in-Nobody : goal.returns-in-Nobody
returns-in-Nobody c = rw (c.in-Nobody.is) (sym (ap not (any_nobody c.args.count)))
