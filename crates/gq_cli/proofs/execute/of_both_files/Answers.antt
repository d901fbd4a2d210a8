-- All that is wrong was reported: with the scenario, or else with the turns.
use Rattle.std.proofs.Common.{◌≡◌, ◌⊎◌, Some, subst}
use Rattle.gq_load.specs.Load.{loaded}
use Rattle.gq_faults.specs.Turn_faults.{Answers, lines_of_both, reported_of}
use Rattle.gq_cli.specs.Early_command_ends.{IsReportedAs}
use Rattle.gq_cli.specs.Executed.{Of_faults}
use Rattle.gq_cli.specs.declared.execute.CommandFault.TheVariants.{Write}
use Rattle.gq_cli.proofs.Faults_command_result.{both_ends, both_none, kept_faults, unreported_ends, whole_prefix}
use Rattle.gq_cli.proofs.execute.of_both_files.Goals as goal

pub returns-in-Ok-None-clause-ended : goal.returns-in-Ok-None-clause-ended
returns-in-Ok-None-clause-ended g c known =
    both_none c.args.scenario.path.now c.args.turns.path.now c.args.scenario.text.now c.args.turns.text.now _ _ c.first_turn_fault_laws.ensures
    (subst (λ a. Answers a (loaded c.args.scenario.text.now) c.args.turns.text.now) c.in-Ok-None.field-0-is c.in-Ok-None.ensures.answer)
    c.in-Ok-None.ensures.reported.reported

pub returns-in-Ok-Some-clause-ended : goal.returns-in-Ok-Some-clause-ended
returns-in-Ok-Some-clause-ended g c =
    both_ends c.args.scenario.path.now c.args.turns.path.now c.args.scenario.text.now c.args.turns.text.now _ _ c.in-Ok-Some.refused c.refused_after.result _ _
    (subst (λ a. Answers a (loaded c.args.scenario.text.now) c.args.turns.text.now) c.in-Ok-Some.field-0-is c.in-Ok-Some.ensures.answer)
    (kept_faults (reported_of (loaded c.args.scenario.text.now) c.args.scenario.path.now c.args.turns.path.now)
    (lines_of_both c.args.scenario.text.now c.args.turns.text.now) _ _ _ c.in-Ok-Some.ensures.reported.reported c.refused_after.ensures.bytes)
    (subst (λ f. (c.refused_after.result ≡ Write) ⊎ IsReportedAs f c.refused_after.result) c.refusal_of.ensures c.refused_after.ensures.reported)

pub returns-in-Ok-Some-clause-stopped : goal.returns-in-Ok-Some-clause-stopped
returns-in-Ok-Some-clause-stopped g c memory =
    whole_prefix (reported_of (loaded c.args.scenario.text.now) c.args.scenario.path.now c.args.turns.path.now)
    (lines_of_both c.args.scenario.text.now c.args.turns.text.now) _ _
    (kept_faults (reported_of (loaded c.args.scenario.text.now) c.args.scenario.path.now c.args.turns.path.now)
    (lines_of_both c.args.scenario.text.now c.args.turns.text.now) _ _ _ c.in-Ok-Some.ensures.reported.reported c.refused_after.ensures.bytes)

pub returns-in-Err-clause-ended : goal.returns-in-Err-clause-ended
returns-in-Err-clause-ended g c =
    unreported_ends c.in-Err.error c.unreported.result
    (Of_faults c.args.scenario.path.now c.args.scenario.text.now (Some (c.args.turns.path.now, c.args.turns.text.now))) _ _ _ _ c.unreported.ensures
    c.in-Err.ensures.reported.cut c.in-Err.ensures.reported.ended

pub returns-in-Err-clause-stopped : goal.returns-in-Err-clause-stopped
returns-in-Err-clause-stopped g c memory = c.in-Err.ensures.reported.cut
