use Rattle.std.proofs.Common.{◌≡◌, ◌∙◌, Result, Ok, ap, sym, subst}
use Rattle.gq_model.specs.machine.Scenario.{Scenario, system}
use Rattle.gq_model.specs.machine.World as model
use Rattle.gq_model.specs.machine.World.{start}
use Rattle.gq_model.specs.rules.Accept.{IsAccepted}
use Rattle.gq_laws.specs.Stands.{Stands}
use Rattle.gq_load.specs.Load.{LoadRefusal}
use Rattle.gq_world.specs.Headline.{Upholding}
use Rattle.gq_world.proofs.world.World.load.Goals as goal

stands_at : (s t : Scenario) (w : model.World) → t ≡ s → w ≡ start (system t) → Stands s (start (system s)) → Stands t w
stands_at s t w e f h =
    let there : Stands t (start (system t)) = subst (λ (r : Scenario). Stands r (start (system r))) (sym e) h in
    subst (λ (u : model.World). Stands t u) (sym f) there

pub start-requires-clause-stands : goal.start-requires-clause-stands
start-requires-clause-stands c =
    let s = c.in_ok-accepted.accepted in
    let sound = c.loaded_laws.ensures.sound c.args.text.now s c.in_ok-accepted.ensures.loaded in
    let made = c.in_ok-machine.machine in
    let same : c.into_parts-table.result.0 ≡ s = c.into_parts-table.ensures.table in
    let world : made.world ≡ start (system c.into_parts-table.result.0) = c.in_ok-machine.ensures.world in
    let there = stands_at s c.into_parts-table.result.0 made.world same world (c.accepted_laws.ensures.first s sound) in
    subst (λ (r : Scenario). Stands r made.world) (sym c.in_ok-machine.ensures.scenario) there

pub returns-clause-upheld : goal.returns-clause-upheld
returns-clause-upheld c =
    let s = c.in_ok-accepted.accepted in
    let same = c.start.ensures.scenario ∙ (c.in_ok-machine.ensures.scenario ∙ c.into_parts-table.ensures.table) in
    subst Upholding (sym same) (λ turns. c.loaded_laws.ensures.runs c.args.text.now s turns c.in_ok-accepted.ensures.loaded)

pub returns-clause-loaded : goal.returns-clause-loaded
returns-clause-loaded c =
    let same = c.start.ensures.scenario ∙ (c.in_ok-machine.ensures.scenario ∙ c.into_parts-table.ensures.table) in
    c.in_ok-accepted.ensures.loaded ∙ ap (λ (r : Scenario). let o : Result Scenario LoadRefusal = Ok r in o) (sym same)

pub returns-clause-world : goal.returns-clause-world
returns-clause-world c =
    let table = c.start.ensures.scenario ∙ c.in_ok-machine.ensures.scenario in
    c.start.ensures.world ∙ (c.in_ok-machine.ensures.world ∙ ap (λ (r : Scenario). start (system r)) (sym table))

pub returns-clause-running : goal.returns-clause-running
returns-clause-running c = c.start.ensures.running

pub returns-clause-accepted : goal.returns-clause-accepted
returns-clause-accepted c =
    let same = c.start.ensures.scenario ∙ (c.in_ok-machine.ensures.scenario ∙ c.into_parts-table.ensures.table) in
    subst IsAccepted (sym same) c.laws.ensures
