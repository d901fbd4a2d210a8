-- The leaf is there, and can take a turn.
use Rattle.gq_model.specs.machine.Scenario.{system}
use Rattle.gq_traces.proofs.First_able.{able_within, able_if}
use Rattle.std.proofs.Common.{◌∙◌, sym}
use Rattle.gq_traces.proofs.rests.next_able.Goals as goal

pub returns-in-Some-clause-there : goal.returns-in-Some-clause-there
returns-in-Some-clause-there c =
    let w = c.args.world.now in (able_within (system w.scenario) w.world c.args.from c.in-Some.leaf (sym c.first_able.ensures ∙ c.in-Some.is)).0

pub returns-in-Some-clause-can : goal.returns-in-Some-clause-can
returns-in-Some-clause-can c =
    let w = c.args.world.now in (able_within (system w.scenario) w.world c.args.from c.in-Some.leaf (sym c.first_able.ensures ∙ c.in-Some.is)).1

pub returns-in-None-clause-there : goal.returns-in-None-clause-there
returns-in-None-clause-there c =
    let w = c.args.world.now in (able_if (system w.scenario) w.world 0 c.first_able-in-None.result c.first_able-in-None.ensures).0

pub returns-in-None-clause-can : goal.returns-in-None-clause-can
returns-in-None-clause-can c =
    let w = c.args.world.now in (able_if (system w.scenario) w.world 0 c.first_able-in-None.result c.first_able-in-None.ensures).1
