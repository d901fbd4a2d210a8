-- Whole lines, and then what is kept.
use Rattle.std.proofs.Common.{◌++◌, ◌+◌, ap, drop, ◌∙◌}
use Rattle.std.proofs.lemmas.List.{take_rest}
use Rattle.std.proofs.lemmas.Result.{on_ok_weaker}
use Rattle.gq_init.specs.TurnReading.{Reading, answer}
use Rattle.gq_init.proofs.Piecewise_turn_lines.{answer_kept, in_parts}
use Rattle.gq_init.proofs.turn_reader.TurnReader.push_lines.Goals as goal

pub returns-clause-answer : goal.returns-clause-answer
returns-clause-answer c =
    let all = c.args.table.now in
    let piece = c.args.piece.now in
    let k = c.in-Some.end + 1 in
    let rest_of = take_rest piece k in
    on_ok_weaker c.keep-2.result (λ kept rest.
    ap (λ (r : Reading). answer all r rest) kept
    ∙ (answer_kept all c.push_ended.new.self _ rest
    ∙ (ap (λ t. answer all c.push_ended.new.self (t ++ rest)) rest_of
    ∙ (c.in_ok-push_ended.ensures.answer (drop k piece ++ rest) ∙ in_parts all c.args.self.now piece rest k)))) c.keep-2.ensures.kept
