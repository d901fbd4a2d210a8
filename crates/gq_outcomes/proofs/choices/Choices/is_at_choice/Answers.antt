use Rattle.std.proofs.Common.{◌≡◌, ◌∙◌, ◌&&◌, ap, sym, subst, Option}
use Rattle.std.specs.Prelude.{IfSome}
use Rattle.gq_model.specs.machine.Scenario.{components, system}
use Rattle.gq_model.specs.machine.World.{Leaf}
use Rattle.gq_model.proofs.Small_facts.{get_within}
use Rattle.gq_machine.specs.Readers.{StandsAt}
use Rattle.gq_outcomes.specs.Choices.{racy_servers}
use Rattle.gq_outcomes.specs.internal.Choosing.{is_active}
use Rattle.gq_outcomes.proofs.Choosing_facts.{leaf_there, none_chooses}
use Rattle.gq_outcomes.proofs.choices.Choices.is_at_choice.Goals as goal

pub returns-then-is_active : goal.returns-then-is_active
returns-then-is_active c =
    let l = leaf_there c.args.machine.now c.requires.sound c.args.leaf c.requires.leaf in
    let phase = subst (λ (o : Option Leaf). IfSome o (λ l. c.phase.result ≡ l.phase)) l.1 c.phase.ensures in
    ap (λ b. b && c.asks_racy.result) (sym c.if-is_active.true ∙ c.is_active.ensures ∙ ap is_active phase) ∙ c.asks_racy.ensures l.0 l.1

pub returns-else-is_active : goal.returns-else-is_active
returns-else-is_active c =
    let m = c.args.machine.now in
    let s = system m.scenario in
    let l = leaf_there m c.requires.sound c.args.leaf c.requires.leaf in
    let component = get_within (components m.scenario) c.args.leaf c.requires.leaf in
    let phase = subst (λ (o : Option Leaf). IfSome o (λ l. c.phase.result ≡ l.phase)) l.1 c.phase.ensures in
    let stands = subst (λ (o : Option Leaf). IfSome o (λ l. StandsAt component.0 l c.registers-registers.result.now)) l.1 (c.registers-registers.ensures
    component.0 component.1) in
    c.if-is_active.false
    ∙ sym (none_chooses s m.world c.args.leaf (racy_servers s) component.0 l.0 c.registers-registers.result.now stands
    (ap is_active (sym phase) ∙ sym c.is_active.ensures ∙ c.if-is_active.false) component.1 l.1)
