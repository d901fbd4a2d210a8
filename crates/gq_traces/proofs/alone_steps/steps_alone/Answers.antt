-- Steps so far, and some more, until none is left or none can be taken.
use Rattle.std.proofs.Common.{◌∙◌, ◌+◌, refl, subst, sym, arith}
use Rattle.gq_model.specs.machine.Scenario.{Scenario, system}
use Rattle.gq_traces.specs.internal.Alone_positions.{StepsAlone}
use Rattle.gq_traces.specs.internal.Flat.{ArePrograms, programs_of}
use Rattle.gq_traces.proofs.Steps_taken_alone.{steps_then, stands_still}
use Rattle.gq_traces.proofs.alone_steps.steps_alone.Goals as goal

pub loop-done-init : goal.loop-done-init
loop-done-init c = record { few = omega arith; scenario = refl; running = c.requires.running; signals = refl; steps = (refl, refl) }

pub some_alone-taken-requires-clause-programs : goal.some_alone-taken-requires-clause-programs
some_alone-taken-requires-clause-programs c =
    subst (λ (r : Scenario). ArePrograms c.args.programs.now (programs_of r)) (sym c.loop-done.invariant.scenario) c.requires.programs

pub some_alone-taken-requires-clause-stand : goal.some_alone-taken-requires-clause-stand
some_alone-taken-requires-clause-stand c =
    let w = c.args.world.now in
    let l = c.loop-done in
    stands_still w.scenario c.args.leaf c.requires.leaf c.args.programs.now c.requires.programs w.stopped l.done w.world l.world.world c.args.aheads.now
    l.aheads l.invariant.steps c.counted.ensures.leaves c.requires.stand

pub loop-done-preserved : goal.loop-done-preserved
loop-done-preserved c =
    let w = c.args.world.now in
    let l = c.loop-done in
    let took = c.some_alone-taken in
    let few = took.ensures.few in
    let within = l.invariant.few in
    let test = c.loop-done-test.true in
    record {
      few = omega (arith, few, within, test);
      scenario = took.ensures.scenario ∙ l.invariant.scenario;
      running = took.ensures.running;
      signals = took.ensures.signals ∙ l.invariant.signals;
      steps = steps_then (system w.scenario) c.args.programs.now c.args.leaf l.done took.result (l.done + took.result) refl w.world l.world.world
          took.new.world.world c.args.aheads.now l.aheads took.new.aheads l.invariant.steps
          (subst (λ (r : Scenario). StepsAlone (system r) c.args.programs.now c.args.leaf took.result l.world.world took.new.world.world l.aheads
          took.new.aheads) l.invariant.scenario took.ensures.steps);
    }

pub returns-then-taken-eq0-clause-steps : goal.returns-then-taken-eq0-clause-steps
returns-then-taken-eq0-clause-steps c =
    let w = c.args.world.now in
    let l = c.loop-done in
    let took = c.some_alone-taken in
    let none = c.if-taken-eq0.true in
    steps_then (system w.scenario) c.args.programs.now c.args.leaf l.done took.result l.done (omega (arith, none)) w.world l.world.world
    took.new.world.world c.args.aheads.now l.aheads took.new.aheads l.invariant.steps
    (subst (λ (r : Scenario). StepsAlone (system r) c.args.programs.now c.args.leaf took.result l.world.world took.new.world.world l.aheads took.new.aheads)
    l.invariant.scenario took.ensures.steps)

pub returns-then-taken-eq0-clause-signals : goal.returns-then-taken-eq0-clause-signals
returns-then-taken-eq0-clause-signals c = c.some_alone-taken.ensures.signals ∙ c.loop-done.invariant.signals

pub returns-then-taken-eq0-clause-over : goal.returns-then-taken-eq0-clause-over
returns-then-taken-eq0-clause-over c less = c.some_alone-taken.ensures.none c.if-taken-eq0.true

pub returns-clause-over : goal.returns-clause-over
returns-clause-over c less =
    let test = c.loop-done-test.false in
    absurd (omega (arith, less, test))
