-- A world stands.
use Rattle.std.proofs.Common.{ap}
use Rattle.gq_world.proofs.World_turn_facts.{stands_seen}
use Rattle.gq_world.proofs.world.World.machine.Goals as goal

pub returns-clause-stands : goal.returns-clause-stands
returns-clause-stands c =
    let m = c.self.inside.machine in
    let w = c.args.self.now in
    stands_seen m.scenario w.scenario m.world w.world (ap (λ v. v.scenario) c.self.view_is) (ap (λ v. v.world) c.self.view_is) c.self.invariant.budgeted.stands
