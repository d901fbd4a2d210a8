use Rattle.gq_world.proofs.World_turn_facts.{kept_at_start}
use Rattle.gq_world.proofs.world.World.start.Goals as goal

pub invariant_of-result : goal.invariant_of-result
invariant_of-result c = kept_at_start c.args.machine.scenario c.args.machine.world c.args.budgets.items c.requires.stands c.requires.start c.requires.budgets
