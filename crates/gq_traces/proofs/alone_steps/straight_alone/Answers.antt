-- As many steps as the leaf takes alone.
use Rattle.std.proofs.Common.{◌≡◌, ◌-◌, ◌≤◌, subst, sym, arith}
use Rattle.gq_bytecode.specs.Nexts.{GoesAlone}
use Rattle.gq_model.specs.machine.Scenario.{components, system}
use Rattle.gq_traces.proofs.Leaves_standing.{programs_long, stand_long}
use Rattle.gq_traces.proofs.Straight_line_statements.{taken_straight}
use Rattle.gq_traces.proofs.alone_steps.straight_alone.Goals as goal

pub returns-then-left-eq0-clause-steps : goal.returns-then-left-eq0-clause-steps
returns-then-left-eq0-clause-steps c =
    let w = c.args.world.now in
    let took = c.turns_alone-left in
    let none = c.if-left-eq0.true in
    let all : c.args.count - took.result ≡ c.args.count = omega (arith, none) in
    taken_straight (components w.scenario) (system w.scenario) c.args.programs.now c.args.leaf c.args.count w.world took.new.self.world c.args.aheads.now
    c.go_to.new.aheads c.args.next c.requires.leaf c.requires.programs c.requires.stand
    (subst (λ n. GoesAlone (system w.scenario) c.args.leaf n w.world took.new.self.world) all took.ensures.alone) c.requires.straight c.go_to.ensures

pub straight_in-taken-requires-clause-leaf : goal.straight_in-taken-requires-clause-leaf
straight_in-taken-requires-clause-leaf c =
    let less = c.requires.leaf in
    let long = programs_long c.args.programs.now (components c.args.world.now.scenario) c.requires.programs in
    omega (arith, less, long)

pub straight_in-taken-requires-clause-aheads : goal.straight_in-taken-requires-clause-aheads
straight_in-taken-requires-clause-aheads c = stand_long c.args.programs.now c.args.aheads.now c.requires.stand

pub go_to-requires-2 : goal.go_to-requires-2
go_to-requires-2 c =
    let less = c.requires.leaf in
    let long = programs_long c.args.programs.now (components c.args.world.now.scenario) c.requires.programs in
    let stand = stand_long c.args.programs.now c.args.aheads.now c.requires.stand in
    omega (arith, less, long, stand)

pub returns-clause-steps : goal.returns-clause-steps
returns-clause-steps c =
    let w = c.args.world.now in
    let took = c.turns_alone-left in
    let found = c.straight_in-taken in
    let few : c.args.count - took.result ≤ c.args.count = omega arith in
    let all = found.ensures.all c.args.count c.args.next c.requires.straight few in
    taken_straight (components w.scenario) (system w.scenario) c.args.programs.now c.args.leaf found.result.0 w.world took.new.self.world c.args.aheads.now
    c.go_to-2.new.aheads found.result.1 c.requires.leaf c.requires.programs c.requires.stand
    (subst (λ n. GoesAlone (system w.scenario) c.args.leaf n w.world took.new.self.world) (sym all) took.ensures.alone) found.ensures.straight
    c.go_to-2.ensures

pub returns-clause-none : goal.returns-clause-none
returns-clause-none c none =
    let some = c.if-left-eq0.false in
    c.turns_alone-left.ensures.over (omega (arith, some))

pub returns-then-left-eq0-clause-none : goal.returns-then-left-eq0-clause-none
returns-then-left-eq0-clause-none c none =
    let some = c.requires.some in
    absurd (omega (arith, some, none))
