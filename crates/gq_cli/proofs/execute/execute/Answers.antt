-- A command was done, was refused, or a write failed.
use Rattle.std.proofs.Common.{ap, Err, inl, inr, refl, subst, ◌∙◌}
use Rattle.gq_cli.specs.Executed.{Executes, IsReported, writes_refusals}
use Rattle.gq_cli.proofs.Command_input_results.{all_reported, cut_short, done_either, part_reported, refused_either}
use Rattle.gq_cli.proofs.execute.execute.Goals as goal

pub returns-in-Ok-clause-done : goal.returns-in-Ok-clause-done
returns-in-Ok-clause-done g c same =
    done_either c.args.rules.now c.args.command.now _ _ _ _ _ _ c.args.out.now.failures c.perform.new.out.failures
    (writes_refusals c.args.command.now) refl (λ quiet. c.in-Ok.ensures.ended quiet tt)
    (λ writes. c.in-Ok.ensures.faults writes tt)

pub returns-in-Err-Write-clause-cut : goal.returns-in-Err-Write-clause-cut
returns-in-Err-Write-clause-cut g c quiet same =
    inr (
      cut_short (Unit {0}) (Executes c.args.rules.now c.args.command.now (g.R.Read.remaining c.args.scenario.now) (g.R.Read.remaining c.perform.new.scenario)
          (g.T.Read.remaining c.args.turns.now) (g.T.Read.remaining c.perform.new.turns)) c.in-Err-Write.field-0 (g.W.Write.contents c.args.out.now.writer)
          (g.W.Write.contents c.perform.new.out.writer) c.in-Err-Write.field-0-is (c.in-Err-Write.ensures.ended quiet),
      (c.perform.ensures.leaves quiet).raised (c.in-Err-Write.is ∙ ap Err c.in-Err-Write.field-0-is),
    )

pub returns-in-Err-Refused-clause-refused : goal.returns-in-Err-Refused-clause-refused
returns-in-Err-Refused-clause-refused g c same =
    let e = c.in-Err-Refused in
    refused_either c.args.rules.now c.args.command.now (g.R.Read.remaining c.args.scenario.now) (g.R.Read.remaining c.perform.new.scenario)
    (g.T.Read.remaining c.args.turns.now) (g.T.Read.remaining c.perform.new.turns) (g.W.Write.contents c.args.out.now.writer)
    (g.W.Write.contents c.perform.new.out.writer) c.args.out.now.failures c.perform.new.out.failures g.E.Write.contents c.args.err.now c.report_line.new.err
    e.field-0 e.line e.field-0-is
    (subst (IsReported g.E.Write.contents c.args.err.now c.report_line.new.err) c.as_bytes.ensures.value c.report_line.ensures)
    (writes_refusals c.args.command.now) refl e.ensures.ended e.ensures.faults

pub returns-in-Err-Refused-clause-faults : goal.returns-in-Err-Refused-clause-faults
returns-in-Err-Refused-clause-faults g c writes same =
    let e = c.in-Err-Refused in
    all_reported c.args.rules.now c.args.command.now (g.R.Read.remaining c.args.scenario.now) (g.R.Read.remaining c.perform.new.scenario)
    (g.T.Read.remaining c.args.turns.now) (g.T.Read.remaining c.perform.new.turns) (g.W.Write.contents c.args.out.now.writer)
    (g.W.Write.contents c.perform.new.out.writer) c.args.out.now.failures c.perform.new.out.failures e.field-0 e.line e.field-0-is
    (e.ensures.faults writes)

pub returns-in-Err-Write-clause-faults_cut : goal.returns-in-Err-Write-clause-faults_cut
returns-in-Err-Write-clause-faults_cut g c writes same =
    let e = c.in-Err-Write in
    inr (part_reported c.args.rules.now c.args.command.now (g.R.Read.remaining c.args.scenario.now) (g.R.Read.remaining c.perform.new.scenario)
    (g.T.Read.remaining c.args.turns.now) (g.T.Read.remaining c.perform.new.turns) (g.W.Write.contents c.args.out.now.writer)
    (g.W.Write.contents c.perform.new.out.writer) c.args.out.now.failures c.perform.new.out.failures e.field-0 e.field-0-is (e.ensures.faults writes))

pub returns-in-Err-Read-clause-faults_cut : goal.returns-in-Err-Read-clause-faults_cut
returns-in-Err-Read-clause-faults_cut g c writes same =
    inl ((c.perform.ensures.failed_read writes) (c.in-Err-Read.is ∙ ap Err c.in-Err-Read.field-0-is))

pub returns-in-Err-Memory-clause-faults_stopped : goal.returns-in-Err-Memory-clause-faults_stopped
returns-in-Err-Memory-clause-faults_stopped g c writes same =
    (c.perform.ensures.stopped writes) (c.in-Err-Memory.is ∙ ap Err c.in-Err-Memory.field-0-is)
