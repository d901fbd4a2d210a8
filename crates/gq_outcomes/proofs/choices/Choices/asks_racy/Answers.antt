use Rattle.std.proofs.Common.{◌∙◌, ◌&&◌, sym}
use Rattle.gq_model.specs.machine.Scenario.{components, system}
use Rattle.gq_model.proofs.Small_facts.{get_within}
use Rattle.gq_outcomes.specs.Choices.{is_one_of, racy_servers}
use Rattle.gq_outcomes.specs.internal.Choosing.{is_active}
use Rattle.gq_outcomes.proofs.Choosing_facts.{choice_is}
use Rattle.gq_outcomes.proofs.choices.Choices.asks_racy.Goals as goal

pub returns : goal.returns
returns c l el =
    let m = c.args.machine.now in
    let x = c.args.leaf in
    let s = system m.scenario in
    let component = get_within (components m.scenario) x c.requires.leaf in
    let next = c.next-asks.ensures component.0 l component.1 el in
    let racy = c.as_slice.ensures.value ∙ c.requires.choices.racy_are in
    (λ i. is_active l.phase && (c.is_one_of.ensures ∙ (λ j. is_one_of (racy j) (c.server_asked.ensures l el j))) i)
    ∙ sym (choice_is s m.world x component.0 l (racy_servers s) next.core c.next-asks.result next.stands next.is component.1 el)
