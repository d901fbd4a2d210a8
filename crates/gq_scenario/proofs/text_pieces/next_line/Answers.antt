use Rattle.std.proofs.Common.{sym, ◌∙◌}
use Rattle.gq_scenario.proofs.Text_line_pieces.{lines-piece, is_some-map}
use Rattle.gq_scenario.proofs.text_pieces.next_line.Goals as goal

pub returns-then-is_some-clause-line : goal.returns-then-is_some-clause-line
returns-then-is_some-clause-line c =
    let some = sym c.is_some.ensures ∙ c.if-is_some.true in
    let e = lines-piece c.args.text.now c.next_piece.result.0.now _ c.next_piece.ensures.piece (is_some-map (λ rest. rest.now) c.next_piece.result.1 some) in
    rw c.without_return.ensures e
