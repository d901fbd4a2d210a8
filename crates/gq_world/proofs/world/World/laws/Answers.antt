use Rattle.std.proofs.Common.{ap}
use Rattle.gq_world.proofs.World_turn_facts.{defined, stands_seen, upheld_here}
use Rattle.gq_world.proofs.world.World.laws.Goals as goal

pub returns-clause-upheld : goal.returns-clause-upheld
returns-clause-upheld c =
    let m = c.self.inside.machine in
    let w = c.args.self.now in
    let stands = stands_seen m.scenario w.scenario m.world w.world (ap (λ v. v.scenario) c.self.view_is)
    (ap (λ v. v.world) c.self.view_is) c.self.invariant.budgeted.stands in
    upheld_here c.accepted_laws.ensures.promises w.scenario w.world stands

pub returns-clause-goes_on : goal.returns-clause-goes_on
returns-clause-goes_on c = λ x.
    let m = c.self.inside.machine in
    let w = c.args.self.now in
    let stands = stands_seen m.scenario w.scenario m.world w.world (ap (λ v. v.scenario) c.self.view_is)
    (ap (λ v. v.world) c.self.view_is) c.self.invariant.budgeted.stands in
    defined c.accepted_laws.ensures.promises w.scenario w.world x stands
