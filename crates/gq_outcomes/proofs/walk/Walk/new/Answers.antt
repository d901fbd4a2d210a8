use Rattle.std.proofs.Common.{◌∙◌, ap, refl, subst, length}
use Rattle.gq_model.specs.machine.Scenario.{components}
use Rattle.gq_outcomes.specs.Outcomes.{no_lines}
use Rattle.gq_outcomes.specs.internal.Choosing.{AreChoices}
use Rattle.gq_outcomes.proofs.Walk_facts.{begins}
use Rattle.gq_outcomes.proofs.walk.Walk.new.Goals as goal

pub returns-in-Ok-clause-walk : goal.returns-in-Ok-clause-walk
returns-in-Ok-clause-walk c =
    let w = c.in_ok-world.world in
    let parts = c.in-Ok.parts in
    let table = c.table.ensures in
    begins w.scenario (record { world = w; choices = parts.0; said = parts.1; past = c.new.result }) refl
    (c.read_laws.ensures.ready c.args.scenario.now w.scenario c.in_ok-world.ensures.loaded) c.in_ok-world.ensures.running c.in_ok-world.ensures.world
    (subst (λ s. AreChoices s parts.0) table c.in-Ok.ensures.choices) (c.in-Ok.ensures.none ∙ ap (λ s. no_lines (components s)) table)
    (c.in-Ok.ensures.count ∙ ap (λ s. length (components s)) table) c.new.ensures.items
