-- A setting keeps what stands.
use Rattle.std.proofs.Common.{ap}
use Rattle.gq_world.proofs.World_turn_facts.{kept_by_setting, set_seen}
use Rattle.gq_world.proofs.world.World.set_input.Goals as goal

pub invariant_of-self : goal.invariant_of-self
invariant_of-self c =
    let m = c.self.inside.machine in
    kept_by_setting c.accepted_laws.ensures.set m.scenario c.set_input.new.self.scenario m.world c.set_input.new.self.world
    c.self.inside.budgets.items c.self.inside.stopped
    c.self.inside.signals c.args.leaf c.args.input c.args.number c.set_input.ensures.scenario c.set_input.ensures.set c.self.invariant

pub returns-clause-set : goal.returns-clause-set
returns-clause-set c =
    let m = c.self.inside.machine in
    set_seen m.scenario m.world c.set_input.new.self.world c.args.self.now c.args.leaf c.args.input c.args.number
    (ap (λ w. w.scenario) c.self.view_is) (ap (λ w. w.world) c.self.view_is) c.set_input.ensures.set
