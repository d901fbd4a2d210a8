use Rattle.std.proofs.Common.{option_map}
use Rattle.gq_faults.proofs.Turn_lines.{line_right, line_wrong}
use Rattle.gq_faults.proofs.turn_faults.TurnLines.read.Goals as goal

pub returns-in_err-fault-clause-faults : goal.returns-in_err-fault-clause-faults
returns-in_err-fault-clause-faults c =
    let old = c.args.self.now in
    let next = c.next_turn-said in
    rw c.from_residual.ensures
    (line_right c.args.table.now old.line c.unwrap_or.result old.total c.turns_after-self.result c.args.text.now next.result.0
    (option_map (λ rest. rest.now) next.result.1) c.reported_fault.result c.unwrap_or.ensures next.ensures.line c.reported_fault.ensures
    c.turns_after-self.ensures.turns c.in_err-fault.was)

pub returns-clause-faults : goal.returns-clause-faults
returns-clause-faults c =
    let old = c.args.self.now in
    let next = c.next_turn-said in
    rw (c.wrong_line.ensures.fault, c.wrong_line.ensures.line)
    (line_wrong c.args.table.now old.line c.unwrap_or.result old.total c.turns_after-self.result c.args.text.now next.result.0
    (option_map (λ rest. rest.now) next.result.1) c.reported_fault.result c.in_ok-fault.fault c.unwrap_or.ensures next.ensures.line c.reported_fault.ensures
    c.turns_after-self.ensures.turns c.in_ok-fault.was)
