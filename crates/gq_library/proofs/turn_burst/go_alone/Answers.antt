use Rattle.std.proofs.Common.{◌-◌, ◌∙◌, [], arith}
use Rattle.gq_machine.specs.Events.{event_of}
use Rattle.gq_model.specs.machine.Scenario.{components, system}
use Rattle.gq_model.proofs.Small_facts.{get_within}
use Rattle.gq_library.specs.C_turns.{burst, taken_on}
use Rattle.gq_library.proofs.Quiet_turn_runs.{alone, quiet_some}
use Rattle.gq_library.proofs.turn_burst.go_alone.Goals as goal

pub returns-then-rest-left-clause-leads : goal.returns-then-rest-left-clause-leads
returns-then-rest-left-clause-leads c =
    let w = c.args.world.now in
    let s = system w.scenario in
    let most = c.args.most in
    let left = c.args.left in
    let rest = c.try_turns_alone-rest.result in
    let new = c.try_turns_alone-rest.new.self.world in
    let event = event_of c.args.event [] in
    let few = c.requires.few in
    let less = c.if-rest-left.true in
    let counted = c.try_turns_alone-rest.ensures.counted less c.steps-before.result c.steps-before.ensures in
    let there = get_within (components w.scenario) c.args.leaf c.requires.leaf in
    let q = quiet_some (left - rest) event (omega (arith, less)) in
    alone s c.args.leaf (left - rest) rest left (most - left) (most - rest) c.steps-before.result there.0 event w.world new there.1
    (λ v. c.turn_laws.ensures.counted s v c.args.leaf) c.steps-before.ensures (omega (arith, counted)) (omega (arith, less)) (omega (arith, few, less))
    c.try_turns_alone-rest.ensures.alone ∙ (λ i. taken_on s c.args.leaf rest (burst (most - rest) (q i) new))
