-- The steps of a leaf, which is there.
use Rattle.std.proofs.Common.{ap}
use Rattle.gq_world.proofs.World_account_lines.{leaves_count}
use Rattle.gq_world.proofs.World_turn_facts.{has_taken}
use Rattle.gq_world.proofs.world.World.steps.Goals as goal

pub returns : goal.returns
returns c =
    let m = c.self.inside.machine in
    has_taken m.scenario c.args.self.now m.world c.args.leaf c.steps.result (ap (λ w. w.scenario) c.self.view_is) (ap (λ w. w.world) c.self.view_is)
    (leaves_count m.scenario m.world c.self.invariant.budgeted.stands) c.requires c.steps.ensures
