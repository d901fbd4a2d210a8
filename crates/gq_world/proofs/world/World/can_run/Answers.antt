use Rattle.gq_world.proofs.World_account_lines.{leaves_count}
use Rattle.gq_world.proofs.world.World.can_run.Goals as goal

pub can_run-requires-clause-count : goal.can_run-requires-clause-count
can_run-requires-clause-count c = let m = c.self.inside.machine in leaves_count m.scenario m.world c.self.invariant.budgeted.stands
