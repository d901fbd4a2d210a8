use Rattle.std.proofs.Common.{◌≡◌, ◌∙◌, ◌<◌, length, arith}
use Rattle.std.specs.Vec.{with_item}
use Rattle.std.proofs.lemmas.List.{length-map, length-set}
use Rattle.gq_model.specs.machine.Scenario.{components}
use Rattle.gq_outcomes.specs.internal.Walks.{said_of}
use Rattle.gq_outcomes.proofs.Walk_facts.{all_none, none_set}
use Rattle.gq_outcomes.proofs.walk.Walk.forget_lines.Goals as goal

pub loop-place-preserved : goal.loop-place-preserved
loop-place-preserved c =
    let l = c.loop-place in
    let said = l.self.said.items in
    let new = c.truncate.new.self in
    let less : l.place < length said = omega arith in
    let count : length (with_item l.self.said l.place new).items ≡ length said = length-set said l.place new in
    record {
      walk = record {
        scenario = l.invariant.walk.scenario;
        ready = l.invariant.walk.ready;
        choices = l.invariant.walk.choices;
        count = count ∙ l.invariant.walk.count;
        turns = l.invariant.walk.turns;
        running = l.invariant.walk.running;
      };
      world = l.invariant.world;
      past = l.invariant.past;
      count = count ∙ l.invariant.count;
      none = none_set (λ v. v.items) said new l.place c.truncate.ensures.items less l.invariant.none;
    }

pub returns-clause-said : goal.returns-clause-said
returns-clause-said c =
    let l = c.loop-place in
    let said = l.self.said.items in
    let all = components c.args.self.now.world.scenario in
    let same : length (said_of l.self) ≡ length said = length-map said (λ v. v.items) in
    let count : length said ≡ length all = l.invariant.walk.count in
    all_none (said_of l.self) l.place all (omega (arith, same)) (same ∙ count) l.invariant.none
