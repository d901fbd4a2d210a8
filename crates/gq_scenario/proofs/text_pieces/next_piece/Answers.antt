use Rattle.std.proofs.Common.{◌==◌, ◌+◌, sym, add-one, ap, ◌∙◌, ◌∷◌, take, drop}
use Rattle.std.proofs.lemmas.List.{take_rest}
use Rattle.gq_model.specs.texts.Letters.{pieces}
use Rattle.gq_scenario.proofs.Text_line_pieces.{pieces_first, pieces_only}
use Rattle.gq_scenario.proofs.text_pieces.next_piece.Goals as goal

pub returns-in-Some-clause-piece : goal.returns-in-Some-clause-piece
returns-in-Some-clause-piece c =
    let text = c.args.text.now in
    let place = c.in-Some.place in
    let found = c.in-Some.ensures in
    let first = pieces_first c.args.separator text place found.there.0 found.first found.there.1 in
    rw (take_rest text (place + 1)) (first ∙ ap (λ n. take place text ∷ pieces (λ c'. c' == c.args.separator) (drop n text)) (sym (add-one place)))

pub returns-in-None-clause-piece : goal.returns-in-None-clause-piece
returns-in-None-clause-piece c = pieces_only c.args.separator c.args.text.now c.in-None.ensures.none
