use Rattle.std.proofs.Common.{◌≡◌, ◌∙◌, ap, sym, subst, length, get_or, Option}
use Rattle.std.specs.Prelude.{IfSome}
use Rattle.std.proofs.lemmas.Option.{slice_get_read}
use Rattle.gq_model.specs.machine.Program.{body_of, section_in}
use Rattle.gq_model.specs.machine.Routes.{server_of}
use Rattle.gq_model.specs.machine.Scenario.{components, system}
use Rattle.gq_model.specs.machine.World as model
use Rattle.gq_machine.specs.Readers.{StandsAt}
use Rattle.gq_model.specs.machine.World.{section_of}
use Rattle.gq_statements.specs.Slot_statements.{current_seen}
use Rattle.gq_outcomes.specs.internal.Asks.{AreOfSections, asks_of}
use Rattle.gq_outcomes.specs.internal.Left.{ahead_in}
use Rattle.gq_outcomes.proofs.choices.Choices.next.Goals as goal

pub returns : goal.returns
returns c component l ec el =
    let m = c.args.machine.now in
    let x = c.args.leaf in
    let all = components m.scenario in
    let server = server_of (system m.scenario) component in
    let sections = component.node.program.sections in
    let asks = c.index-2.result.now in
    let there = slice_get_read c.args.self.now.asks.items (length all) x asks (sym c.requires.choices.count) c.requires.leaf
    (c.index-2.ensures ∙ ap (λ k. get_or c.args.self.now.asks.items k asks) c.index.ensures) in
    let current = subst (λ (o : Option model.Leaf). IfSome o (λ l. current_seen c.current.result ≡ l.current)) el c.current.ensures in
    let reacting = subst (λ (o : Option model.Leaf). IfSome o (λ l. c.reacting.result ≡ l.reacting)) el c.reacting.ensures in
    let section : section_of (current_seen c.current.result) c.reacting.result ≡ section_of l.current l.reacting =
    λ i. section_of (current i) (reacting i) in
    let stands = subst (λ (o : Option model.Leaf). IfSome o (λ l. StandsAt component l c.registers.result.now)) el (c.registers.ensures component ec) in
    let of = subst (AreOfSections server sections) (sym c.as_slice.ensures.value) (c.requires.choices.each x component asks ec there) in
    let is = c.asks_at.ensures server sections of in
    record {
      core = c.registers.result.now;
      stands = stands;
      is = is ∙ (λ i. asks_of server (ahead_in (body_of (section_in ((c.section_of.ensures ∙ section) i) sections)) (c.position.ensures i)));
    }
