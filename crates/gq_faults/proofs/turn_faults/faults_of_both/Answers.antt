use Rattle.std.proofs.Common.{ap, sym, ◌∙◌}
use Rattle.std.proofs.lemmas.Result.{err_from_is_err_and}
use Rattle.gq_model.specs.machine.Scenario.{Scenario}
use Rattle.gq_load.specs.Load.{loaded}
use Rattle.gq_faults.specs.Found_lists.{first}
use Rattle.gq_faults.specs.Turn_faults.{lines_of_both, reported_of, turn_faults}
use Rattle.gq_faults.proofs.Scenario_turn_refusals.{answers_none, answers_some, both_early, both_memory}
use Rattle.gq_faults.proofs.turn_faults.faults_of_both.Goals as goal

pub returns-in-Some-2-clause-answer : goal.returns-in-Some-2-clause-answer
returns-in-Some-2-clause-answer g c =
    let text = c.args.turns.text.now in
    answers_some (loaded c.args.scenario.text.now) c.in-Ok.accepted text c.in-Ok.ensures.loaded c.in-Some-2.fault c.in-Some-2.line
    (sym c.in-Some-2.is ∙ (c.in_ok-fault-2.ensures.first ∙ ap (λ (s : Scenario). first (turn_faults s text)) c.table.ensures))

pub returns-clause-answer : goal.returns-clause-answer
returns-clause-answer g c =
    let text = c.args.turns.text.now in
    answers_none (loaded c.args.scenario.text.now) c.in-Ok.accepted text c.in-Ok.ensures.loaded
    (sym c.in-None.is ∙ (c.in_ok-fault-2.ensures.first ∙ ap (λ (s : Scenario). first (turn_faults s text)) c.table.ensures))

pub returns-in_err-fault-clause-reported : goal.returns-in_err-fault-clause-reported
returns-in_err-fault-clause-reported g c =
    let p = err_from_is_err_and c.from_residual.result c.from_residual.ensures.1 in
    rw (p.1, p.2)
    (both_early c.args.scenario.path.now c.args.turns.path.now c.args.scenario.text.now c.args.turns.text.now _ _ _ _ c.in_err-fault.field-0.0
    c.in_err-fault.ensures.reported)

pub returns-in-Err-Memory-clause-reported : goal.returns-in-Err-Memory-clause-reported
returns-in-Err-Memory-clause-reported g c =
    let text = c.args.scenario.text.now in
    both_memory _ g.W.Write.contents (reported_of (loaded text) c.args.scenario.path.now c.args.turns.path.now) (lines_of_both text c.args.turns.text.now)
    c.args.out.now c.faults.new.out c.in_ok-fault.field-0 c.in_default.is c.in_ok-fault.ensures.accepted
