use Rattle.std.proofs.Common.{◌≡◌, ◌∙◌, ap, sym, get_or, map}
use Rattle.gq_model.specs.machine.World.{section_of}
use Rattle.gq_model.specs.machine.Program.{body_of, section_in}
use Rattle.gq_model.specs.machine.Scenario.{Component, components}
use Rattle.gq_statements.specs.Slot_statements.{current_seen}
use Rattle.gq_outcomes.specs.internal.Key_parts.{leaf_at, rests}
use Rattle.gq_outcomes.proofs.Choice_lists.{program_there}
use Rattle.gq_outcomes.proofs.Kept_readers.{leaf_reads}
use Rattle.gq_outcomes.proofs.Sections_left.{at_rest, in_section}
use Rattle.gq_outcomes.proofs.key.statements_of.Goals as goal

pub returns-then-rests-clause-statements : goal.returns-then-rests-clause-statements
returns-then-rests-clause-statements c component e =
    let m = c.args.machine.now in
    let leaf = leaf_at m.world c.args.leaf in
    let phase : c.phase.result ≡ leaf.phase =
    leaf_reads m c.requires.sound c.args.leaf c.requires.leaf (λ l. c.phase.result ≡ l.phase) c.phase.ensures in
    at_rest leaf.phase (body_of (section_in (section_of leaf.current leaf.reacting) component.node.program.sections))
    (ap rests (sym phase) ∙ sym c.rests.ensures ∙ c.if-rests.true)

pub returns-clause-statements : goal.returns-clause-statements
returns-clause-statements c component e =
    let m = c.args.machine.now in
    let leaf = leaf_at m.world c.args.leaf in
    let program = c.index-programs-index.result in
    let phase : c.phase.result ≡ leaf.phase =
    leaf_reads m c.requires.sound c.args.leaf c.requires.leaf (λ l. c.phase.result ≡ l.phase) c.phase.ensures in
    let current : current_seen c.current.result ≡ leaf.current =
    leaf_reads m c.requires.sound c.args.leaf c.requires.leaf (λ l. current_seen c.current.result ≡ l.current) c.current.ensures in
    let reacting : c.reacting.result ≡ leaf.reacting =
    leaf_reads m c.requires.sound c.args.leaf c.requires.leaf (λ l. c.reacting.result ≡ l.reacting) c.reacting.ensures in
    let section : c.section_of.result ≡ section_of leaf.current leaf.reacting = c.section_of.ensures ∙ λ i. section_of (current i) (reacting i) in
    let same : program ≡ component.node.program =
    program_there (components m.scenario) c.programs.result.now c.args.leaf program component
    (c.programs.ensures ∙ ap (λ s. map (λ (d : Component). d.node.program) (components s)) c.table.ensures) e
    (c.index-programs-index.is ∙ ap (λ k. get_or c.programs.result.now k program) c.index.ensures) in
    c.statements_in.ensures.statements ∙ (λ i. body_of (section_in (section i) (same i).sections))
    ∙ in_section leaf.phase (body_of (section_in (section_of leaf.current leaf.reacting) component.node.program.sections))
    (ap rests (sym phase) ∙ sym c.rests.ensures ∙ c.if-rests.false)
