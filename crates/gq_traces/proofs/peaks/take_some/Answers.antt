-- Turns that a leaf takes alone, and one more.
use Rattle.std.proofs.Common.{◌≡◌, ◌+◌, ◌-◌, Ok, arith, refl, subst}
use Rattle.gq_bytecode.specs.Nexts.{GoesAlone}
use Rattle.gq_machine.specs.Events.{event_of}
use Rattle.gq_model.specs.machine.Scenario.{Scenario, system}
use Rattle.gq_model.specs.machine.Step.{next}
use Rattle.gq_traces.specs.internal.Peaking.{AreRaised}
use Rattle.gq_traces.proofs.Peaks_kept.{alone_peaked, alone_then}
use Rattle.gq_traces.proofs.Steps_when_able.{able_goes, able_then}
use Rattle.gq_traces.proofs.peaks.take_some.Goals as goal

pub returns-then-left-eq0-clause-peaked : goal.returns-then-left-eq0-clause-peaked
returns-then-left-eq0-clause-peaked c =
    let w = c.args.world.now in
    let alone = c.turns_alone-left in
    let none = c.if-left-eq0.true in
    let all : c.args.most - alone.result ≡ c.args.most = omega (arith, none) in
    alone_peaked w alone.new.self c.args.leaf c.args.turns c.args.most c.args.peaks.now alone.ensures.scenario
    alone.ensures.stopped alone.ensures.signals
    (subst (λ n. GoesAlone (system w.scenario) c.args.leaf n w.world alone.new.self.world) all alone.ensures.alone)

pub returns-clause-peaked : goal.returns-clause-peaked
returns-clause-peaked c =
    let w = c.args.world.now in
    let alone = c.turns_alone-left in
    let step = c.step-event in
    let few = alone.ensures.left in
    alone_then w alone.new.self step.new.self c.args.leaf c.args.turns (c.args.most - alone.result) (c.args.most - alone.result + 1) c.args.peaks.now
    c.raise.new.peaks (event_of step.result step.new.line.items) refl alone.ensures.scenario alone.ensures.stopped
    alone.ensures.signals step.ensures.scenario step.ensures.stopped step.ensures.signals alone.ensures.alone step.ensures.stepped
    (subst (λ n. AreRaised step.new.self.scenario step.new.self.world (c.args.turns + n) c.args.peaks.now c.raise.new.peaks) c.from.ensures c.raise.ensures)

pub returns-then-left-eq0-clause-able : goal.returns-then-left-eq0-clause-able
returns-then-left-eq0-clause-able c can =
    let w = c.args.world.now in
    let alone = c.turns_alone-left in
    let none = c.if-left-eq0.true in
    let all : c.args.most - alone.result ≡ c.args.most = omega (arith, none) in
    (able_goes (system w.scenario) c.args.leaf c.args.most w.world alone.new.self.world
    (subst (λ n. GoesAlone (system w.scenario) c.args.leaf n w.world alone.new.self.world) all alone.ensures.alone) can).0

pub returns-clause-able : goal.returns-clause-able
returns-clause-able c can =
    let w = c.args.world.now in
    let alone = c.turns_alone-left in
    let step = c.step-event in
    able_then (system w.scenario) c.args.leaf (c.args.most - alone.result) (c.args.most - alone.result + 1) refl w.world alone.new.self.world
    step.new.self.world (event_of step.result step.new.line.items) alone.ensures.alone
    (subst (λ (s : Scenario). next (system s) alone.new.self.world c.args.leaf ≡ Ok (step.new.self.world, event_of step.result step.new.line.items))
    alone.ensures.scenario step.ensures.stepped) can
