use Rattle.std.proofs.Common.{◌∙◌, ◌++◌, ◌∷◌, [], ap, sym}
use Rattle.std.proofs.lemmas.Result.{on_ok_weaker}
use Rattle.gq_machine.specs.Readers.{StandsAt, body_in}
use Rattle.gq_model.specs.machine.World.{section_of}
use Rattle.gq_model.specs.machine.Program.{body_of, section_in}
use Rattle.gq_model.specs.machine.Scenario.{components}
use Rattle.gq_model.proofs.Small_facts.{get_within}
use Rattle.gq_outcomes.specs.internal.Key_parts.{leaf_at}
use Rattle.gq_outcomes.specs.internal.Left.{left_in}
use Rattle.gq_outcomes.proofs.Kept_readers.{leaf_reads}
use Rattle.gq_outcomes.proofs.Key_lists.{behind}
use Rattle.gq_outcomes.proofs.Sections_left.{todo_is}
use Rattle.gq_outcomes.proofs.key.push_todo.Goals as goal

pub returns : goal.returns
returns c =
    let m = c.args.machine.now in
    let leaf = leaf_at m.world c.args.leaf in
    let core = c.registers-registers.result.now in
    let component = get_within (components m.scenario) c.args.leaf c.requires.leaf in
    let body = body_in leaf.phase (body_of (section_in (section_of leaf.current leaf.reacting) component.0.node.program.sections)) in
    let stands = leaf_reads m c.requires.sound c.args.leaf c.requires.leaf (λ l. StandsAt component.0 l core)
    (c.registers-registers.ensures component.0 component.1) in
    let same = c.statements_of-statements.ensures.statements component.0 component.1 in
    let left = c.in_ok-push_left.ensures ∙ λ i. c.args.key.now.items ++ left_in (c.rounds.ensures i) 0 (same i) (c.position.ensures i) in
    on_ok_weaker c.push_byte.result
    (λ put. behind _ _ _ (left_in core.rounds 0 body core.position) (0 ∷ []) left put
    ∙ ap (λ t. c.args.key.now.items ++ t) (sym (todo_is leaf body core stands))) c.push_byte.ensures
