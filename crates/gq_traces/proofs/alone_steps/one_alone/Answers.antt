-- One step, or none.
use Rattle.std.proofs.Common.{◌≡◌, ◌-◌, subst, arith}
use Rattle.std.specs.Prelude.{IfSome, slice_get}
use Rattle.gq_machine.specs.Machines.{Machine}
use Rattle.gq_model.specs.machine.Scenario.{components, system}
use Rattle.gq_traces.specs.internal.Printed_steps.{IsTop}
use Rattle.gq_traces.proofs.Leaves_standing.{from_some, programs_long}
use Rattle.gq_traces.proofs.Straight_line_statements.{one_step}
use Rattle.gq_traces.proofs.alone_steps.one_alone.Goals as goal

pub pass_by-requires-clause-leaf : goal.pass_by-requires-clause-leaf
pass_by-requires-clause-leaf c =
    let less = c.requires.leaf in
    let long = programs_long c.args.programs.now (components c.args.world.now.scenario) c.requires.programs in
    omega (arith, less, long)

pub returns-clause-steps : goal.returns-clause-steps
returns-clause-steps c =
    let w = c.args.world.now in
    let took = c.turns_alone in
    let test = c.if-turns_alone-gt0.false in
    let all : 1 - took.result ≡ 1 = omega (arith, test) in
    one_step (system w.scenario) c.args.programs.now c.args.leaf (1 - took.result) w.world took.new.self.world c.args.aheads.now c.pass_by.new.aheads
    c.top-top.result all took.ensures.alone
    (λ l there. from_some (slice_get w.world.leaves c.args.leaf) (λ z. IsTop c.top-top.result z.operands) l there
    (subst (λ (m : Machine). IfSome (slice_get m.world.leaves c.args.leaf) (λ z. IsTop c.top-top.result z.operands)) c.machine.ensures.is c.top-top.ensures))
    c.pass_by.ensures

pub returns-then-turns_alone-gt0-clause-none : goal.returns-then-turns_alone-gt0-clause-none
returns-then-turns_alone-gt0-clause-none c none = c.turns_alone.ensures.over c.if-turns_alone-gt0.true
