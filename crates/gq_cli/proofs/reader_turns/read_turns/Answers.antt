-- The turns of all that the reader had.
use Rattle.std.proofs.Common.{◌∙◌, [], Err, sym, subst}
use Rattle.gq_init.specs.TurnLines.{IsTurned}
use Rattle.gq_init.specs.TurnReading.{answer}
use Rattle.gq_init.specs.declared.turns.TurnsError.TheVariants.{Fault}
use Rattle.gq_cli.proofs.Read_turn_run.{read_to_end, reads_by}
use Rattle.gq_cli.proofs.Command_refusal_reasons.{reported_turns, turns_silent}
use Rattle.gq_cli.proofs.reader_turns.read_turns.Goals as goal

pub returns-in-Ok-clause-turns : goal.returns-in-Ok-clause-turns
returns-in-Ok-clause-turns g c =
    reads_by _ _ (λ text e. sym e ∙ c.in-Ok.ensures)
    (read_to_end c.args.table.now _ _ c.in_ok-turns.turns c.read_pieces.new.turns c.in_default.ensures.text c.in_ok-turns.ensures.answer)

pub returns-in-Err-Fault-clause-turns : goal.returns-in-Err-Fault-clause-turns
returns-in-Err-Fault-clause-turns g c =
    let cs = c.args.table.now in
    let last = c.read_pieces.new.turns in
    let reported : IsTurned (Err (Fault c.in-Err-Fault.fault c.in-Err-Fault.line)) (answer cs last []) =
    subst (λ e. IsTurned (Err e) (answer cs last [])) c.in-Err-Fault.field-0-is c.in-Err-Fault.ensures in
    reported_turns c.args.table.now _ _ c.in-Err-Fault.fault c.in-Err-Fault.line c.reported.result c.reported.ensures (
    reads_by _ _ (λ text e. sym e ∙ reported)
    (read_to_end cs _ _ c.in_ok-turns.turns c.read_pieces.new.turns c.in_default.ensures.text c.in_ok-turns.ensures.answer)
    )

pub returns-in-Err-Fault-clause-silent : goal.returns-in-Err-Fault-clause-silent
returns-in-Err-Fault-clause-silent g c = turns_silent c.in-Err-Fault.fault c.in-Err-Fault.line c.reported.result c.reported.ensures
