-- Turns that a leaf takes alone keep what stands.
use Rattle.std.proofs.Common.{arith, ◌-◌}
use Rattle.gq_world.proofs.World_turn_facts.{kept_alone, taken_once}
use Rattle.gq_world.proofs.world.World.try_turns_alone.Goals as goal

pub invariant_of-self : goal.invariant_of-self
invariant_of-self c =
    let m = c.self.inside.machine in
    kept_alone c.accepted_laws.ensures.kept m.scenario c.turns_alone.new.self.scenario m.world c.turns_alone.new.self.world c.self.inside.budgets.items
    c.self.inside.stopped c.self.inside.signals c.args.leaf (c.args.turns - c.turns_alone.result) c.turns_alone.ensures.scenario c.turns_alone.ensures.alone
    c.self.invariant

pub returns-clause-counted : goal.returns-clause-counted
returns-clause-counted c less n taken =
    let same = taken_once c.args.self.now.world c.args.leaf c.steps.result n c.steps.ensures taken in
    let few = c.can_count.ensures.can c.if-not-can_count.false in
    omega (arith, same, few)
