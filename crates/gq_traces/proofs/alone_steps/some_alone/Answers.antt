-- The leaf has a program and stands somewhere.
use Rattle.std.proofs.Common.{arith}
use Rattle.gq_model.specs.machine.Scenario.{components}
use Rattle.gq_traces.proofs.Leaves_standing.{programs_long, stand_long}
use Rattle.gq_traces.proofs.alone_steps.some_alone.Goals as goal

pub alone_in-requires-clause-leaf : goal.alone_in-requires-clause-leaf
alone_in-requires-clause-leaf c =
    let less = c.requires.leaf in
    let long = programs_long c.args.programs.now (components c.args.world.now.scenario) c.requires.programs in
    omega (arith, less, long)

pub alone_in-requires-clause-aheads : goal.alone_in-requires-clause-aheads
alone_in-requires-clause-aheads c = stand_long c.args.programs.now c.args.aheads.now c.requires.stand

pub straight_in-count-requires-clause-leaf : goal.straight_in-count-requires-clause-leaf
straight_in-count-requires-clause-leaf c =
    let less = c.requires.leaf in
    let long = programs_long c.args.programs.now (components c.args.world.now.scenario) c.requires.programs in
    omega (arith, less, long)

pub straight_in-count-requires-clause-aheads : goal.straight_in-count-requires-clause-aheads
straight_in-count-requires-clause-aheads c = stand_long c.args.programs.now c.args.aheads.now c.requires.stand
