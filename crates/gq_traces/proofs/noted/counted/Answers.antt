-- A leaf for each component, and an account for each node.
use Rattle.gq_world.proofs.World_account_lines.{all_count, leaves_count}
use Rattle.gq_traces.proofs.noted.counted.Goals as goal

pub returns-clause-leaves : goal.returns-clause-leaves
returns-clause-leaves c = leaves_count c.args.world.now.scenario c.args.world.now.world c.machine-machine.ensures.stands

pub returns-clause-accounts : goal.returns-clause-accounts
returns-clause-accounts c =
    all_count c.args.world.now (leaves_count c.args.world.now.scenario c.args.world.now.world c.machine-machine.ensures.stands)
