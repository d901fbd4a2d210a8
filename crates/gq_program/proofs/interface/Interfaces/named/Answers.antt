use Rattle.std.proofs.Common.{◌∙◌, ap, sym, subst, ◌≡◌, true}
use Rattle.gq_model.specs.machine.Scenario.{interface_in}
use Rattle.gq_model.specs.machine.Program.{text_eq}
use Rattle.gq_program.specs.Interfaces.{are_interfaces}
use Rattle.gq_program.proofs.Sorted_interfaces.{named_there}
use Rattle.gq_program.proofs.interface.Interfaces.named.Goals as goal

-- the names rise, so the one that is looked at first is the only one of its letters
pub returns-in-Some : goal.returns-in-Some
returns-in-Some c =
    let there = c.in-Some.ensures.lookup.3 in
    let order = subst (λ es. are_interfaces es ≡ true) (sym c.entries.ensures.entries) c.entries.ensures.in_order in
    named_there c.args.name.now c.entries.result.now c.from-2.result c.in-Some.field-0.now order there.0 (there.1 c.in-Some.field-0.now)
    (ap (text_eq c.args.name.now) (sym c.as_bytes.ensures.bytes) ∙ (sym c.same_text.ensures ∙ c.if-same_text.true))
    ∙ ap (interface_in c.args.name.now) c.entries.ensures.entries
