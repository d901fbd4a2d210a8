use Rattle.std.proofs.Common.{◌∙◌, ap, sym}
use Rattle.gq_fit.specs.Places.{is_one}
use Rattle.gq_fit.proofs.Giving_lines.{word_and_space}
use Rattle.gq_fit.proofs.lexer.is_one.Goals as goal

pub returns-in-Some : goal.returns-in-Some
returns-in-Some c =
    let split = rw c.in-Some.is at c.next_piece.ensures.piece in
    c.is_empty.ensures ∙ sym (ap is_one split ∙ word_and_space c.next_piece.result.0.now c.in-Some.rest.now)
