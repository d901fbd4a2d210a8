-- The line that was begun, and then what follows it.
use Rattle.std.proofs.Common.{◌++◌, ◌+◌, ap, drop, ◌∙◌}
use Rattle.std.proofs.lemmas.List.{take_rest}
use Rattle.std.proofs.lemmas.Result.{on_ok_weaker}
use Rattle.gq_init.specs.TurnReading.{answer}
use Rattle.gq_init.proofs.Piecewise_turn_lines.{in_parts}
use Rattle.gq_init.proofs.turn_reader.TurnReader.push.Goals as goal

pub returns-clause-answer : goal.returns-clause-answer
returns-clause-answer c =
    let all = c.args.table.now in
    let piece = c.args.piece.now in
    let k = c.in-Some.end + 1 in
    on_ok_weaker c.push_lines.result (λ pushed rest.
    pushed rest
    ∙ (ap (λ t. answer all c.end_line.new.self (t ++ rest)) (take_rest piece k)
    ∙ (c.in_ok-end_line.ensures.answer (drop k piece ++ rest) ∙ in_parts all c.args.self.now piece rest k))) c.push_lines.ensures.answer
