-- Past the next step.
use Rattle.std.proofs.Common.{arith}
use Rattle.std.specs.Prelude.{slice_get}
use Rattle.gq_model.specs.machine.Scenario.{components}
use Rattle.gq_traces.specs.internal.Printed_steps.{IsTop}
use Rattle.gq_traces.proofs.Leaves_standing.{from_some, programs_long}
use Rattle.gq_traces.proofs.tracker.pass_own.Goals as goal

pub pass_by-requires-clause-leaf : goal.pass_by-requires-clause-leaf
pass_by-requires-clause-leaf c =
    let long = programs_long c.args.programs.now (components c.args.machine.now.scenario) c.requires.programs in
    let less = c.requires.leaf in
    omega (arith, less, long)

pub returns : goal.returns
returns c l ts t leaf aheads at =
    c.pass_by.ensures l.operands (from_some (slice_get c.args.machine.now.world.leaves c.args.leaf) (λ z. IsTop c.top.result z.operands) l leaf c.top.ensures)
    ts t aheads at
