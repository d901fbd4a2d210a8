use Rattle.std.proofs.Common.{◌≡◌, Ok, sym, subst}
use Rattle.std.specs.Prelude.{IfErr, IfOk}
use Rattle.gq_reports.specs.Command_outcomes.{IsBefore, IsFaultOf}
use Rattle.gq_reports.specs.Whole.{Written}
use Rattle.gq_outcomes.specs.Outcomes.{outcomes}
use Rattle.gq_outcomes.specs.Text.{nth_outcome}
use Rattle.gq_outcomes.specs.Written.{turns_of_outcome}
use Rattle.gq_outcomes.proofs.Outcome_endings.{passed_on, turns_written}
use Rattle.gq_outcomes.proofs.outcomes.turns_to.Goals as goal

pub returns-clause-text : goal.returns-clause-text
returns-clause-text c =
    let s = c.in_ok-walk.walk.world.scenario in
    let n = c.args.number in
    let r = c.text_of_turns-text.result in
    let given = turns_written c.args.scenario.now s n c.in_ok-walk.ensures.loaded in
    subst (λ (w : Written). IfOk r (λ text. w ≡ Ok text.items)) (sym given)
    (subst (λ z. IfOk r (λ text. turns_of_outcome z n (nth_outcome n (outcomes s).found) ≡ Ok text.items)) c.in_ok-search.ensures.walk.walk.scenario
    (c.text_of_turns-text.ensures.text (outcomes s) c.in_ok-search.ensures.finds))

pub returns-clause-refused : goal.returns-clause-refused
returns-clause-refused c =
    let s = c.in_ok-walk.walk.world.scenario in
    let n = c.args.number in
    let r = c.text_of_turns-text.result in
    let given = turns_written c.args.scenario.now s n c.in_ok-walk.ensures.loaded in
    subst (λ (w : Written). IfErr r (λ fault. IsBefore fault × IsFaultOf fault w)) (sym given)
    (subst (λ z. IfErr r (λ fault. IsBefore fault × IsFaultOf fault (turns_of_outcome z n (nth_outcome n (outcomes s).found))))
    c.in_ok-search.ensures.walk.walk.scenario (c.text_of_turns-text.ensures.refused (outcomes s) c.in_ok-search.ensures.finds))

pub returns-in_err-search-clause-refused : goal.returns-in_err-search-clause-refused
returns-in_err-search-clause-refused c =
    passed_on c.from_residual-in_err-search.result c.in_err-search.field-0.0 c.args.scenario.now
    (λ s. turns_of_outcome s c.args.number (nth_outcome c.args.number (outcomes s).found)) c.from_residual-in_err-search.ensures.1
    c.in_err-search.ensures.refused
