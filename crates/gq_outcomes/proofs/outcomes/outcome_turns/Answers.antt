-- The text was made, and is written; and it leads to the outcome.
use Rattle.std.proofs.Common.{Ok, ap, sym, ◌∙◌}
use Rattle.gq_output.specs.Writer_failures.{written_to}
use Rattle.gq_reports.proofs.Command_text_endings.{whole_text}
use Rattle.gq_outcomes.specs.Laws.{WritesTurnsTo}
use Rattle.gq_outcomes.specs.Written.{outcome_turns_written}
use Rattle.gq_outcomes.proofs.Outcome_lists.{leads_to}
use Rattle.gq_outcomes.proofs.outcomes.outcome_turns.Goals as goal

pub returns-clause-writes : goal.returns-clause-writes
returns-clause-writes g c =
    c.put_text.ensures (outcome_turns_written c.args.number c.args.scenario.now) (c.in_ok-text.ensures.text ∙ ap Ok (sym c.as_slice.ensures.value))

pub returns-clause-leads : goal.returns-clause-leads
returns-clause-leads g c =
    let before = written_to g.W.Write.contents c.args.out.now in
    let after = written_to g.W.Write.contents c.put_text.new.out in
    whole_text (WritesTurnsTo c.args.number c.args.scenario.now before after) c.put_text.result
    (λ h. leads_to c.args.number c.args.scenario.now c.in_ok-text.text.items (λ s loads. c.turn_list_laws.ensures.leads c.args.scenario.now s loads)
    c.in_ok-text.ensures.text before after h)
    (c.put_text.ensures (Ok c.in_ok-text.text.items) (ap Ok (sym c.as_slice.ensures.value)))
