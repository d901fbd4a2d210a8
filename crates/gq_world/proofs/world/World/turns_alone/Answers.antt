-- Turns that a leaf takes alone keep what stands.
use Rattle.std.proofs.Common.{◌-◌, ◌∙◌, ap}
use Rattle.gq_world.proofs.World_turn_facts.{alone_in, countable_running, kept_alone}
use Rattle.gq_world.proofs.world.World.turns_alone.Goals as goal

pub turns_alone-requires-clause-countable : goal.turns_alone-requires-clause-countable
turns_alone-requires-clause-countable c =
    let m = c.self.inside.machine in
    countable_running c.accepted_laws.ensures.promises m.scenario m.world
    c.self.inside.budgets.items c.self.inside.stopped c.args.leaf c.args.turns
    c.self.inside.signals c.ranges.turns.fits c.self.invariant (ap (λ w. w.stopped) c.self.view_is ∙ c.requires.running)

pub invariant_of-self : goal.invariant_of-self
invariant_of-self c =
    let m = c.self.inside.machine in
    kept_alone c.accepted_laws.ensures.kept m.scenario c.turns_alone.new.self.scenario m.world c.turns_alone.new.self.world
    c.self.inside.budgets.items c.self.inside.stopped
    c.self.inside.signals c.args.leaf (c.args.turns - c.turns_alone.result) c.turns_alone.ensures.scenario c.turns_alone.ensures.alone c.self.invariant

pub returns-clause-alone : goal.returns-clause-alone
returns-clause-alone c =
    let m = c.self.inside.machine in
    alone_in m.scenario m.world c.turns_alone.new.self.world c.args.self.now c.args.leaf (c.args.turns - c.turns_alone.result)
    (ap (λ w. w.scenario) c.self.view_is) (ap (λ w. w.world) c.self.view_is) c.turns_alone.ensures.alone
