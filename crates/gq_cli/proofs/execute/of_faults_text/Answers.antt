-- All that is wrong was reported.
use Rattle.std.proofs.Common.{◌≡◌, IfNone, IfSome, IsOk, None, subst}
use Rattle.gq_load.specs.Load_faults.{Prints}
use Rattle.gq_load.specs.Load.{loaded}
use Rattle.gq_faults.specs.First_stage_faults.{fault_lines, refusal_of}
use Rattle.gq_cli.specs.Executed.{Of_faults}
use Rattle.gq_cli.proofs.Faults_command_result.{kept_faults, none_ends, refused_ends, unreported_ends, whole_prefix}
use Rattle.gq_cli.proofs.execute.of_faults_text.Goals as goal

pub returns-in-Ok-None-clause-ended : goal.returns-in-Ok-None-clause-ended
returns-in-Ok-None-clause-ended g c known =
    let h = subst (λ fault. IfNone fault (IsOk (loaded c.args.scenario.now) × (c.faults.new.out ≡ c.args.out.now))) c.in-Ok-None.field-0-is
    c.in-Ok-None.ensures.accepted in
    none_ends c.args.path.now c.args.scenario.now _ _ h.0 (λ i. g.W.Write.contents (h.1 i).writer)

pub returns-in-Ok-Some-clause-ended : goal.returns-in-Ok-Some-clause-ended
returns-in-Ok-Some-clause-ended g c =
    let h = subst (λ fault. IfSome fault (λ f. Prints f (refusal_of (loaded c.args.scenario.now)))) c.in-Ok-Some.field-0-is c.in-Ok-Some.ensures.refused in
    refused_ends c.args.path.now c.args.scenario.now _ _ c.in-Ok-Some.fault c.refused_after.result _ _ h
    (kept_faults c.args.path.now (fault_lines c.args.scenario.now) _ _ _ c.in-Ok-Some.ensures.reported.reported c.refused_after.ensures.bytes)
    c.refused_after.ensures.reported

pub returns-in-Ok-Some-clause-stopped : goal.returns-in-Ok-Some-clause-stopped
returns-in-Ok-Some-clause-stopped g c memory =
    whole_prefix c.args.path.now (fault_lines c.args.scenario.now) _ _
    (kept_faults c.args.path.now (fault_lines c.args.scenario.now) _ _ _ c.in-Ok-Some.ensures.reported.reported c.refused_after.ensures.bytes)

pub returns-in-Err-clause-ended : goal.returns-in-Err-clause-ended
returns-in-Err-clause-ended g c =
    unreported_ends c.in-Err.error c.unreported.result (Of_faults c.args.path.now c.args.scenario.now None) _ _ _ _ c.unreported.ensures
    c.in-Err.ensures.reported.cut
    c.in-Err.ensures.reported.ended

pub returns-in-Err-clause-stopped : goal.returns-in-Err-clause-stopped
returns-in-Err-clause-stopped g c memory = c.in-Err.ensures.reported.cut
