-- A text in one piece.
use Rattle.std.proofs.Common.{◌++◌, ◌∙◌, rules}
use Rattle.gq_model.specs.texts.Letters.{lines}
use Rattle.gq_init.proofs.Piecewise_turn_lines.{text_finished, reported_start}
use Rattle.gq_init.proofs.turns.read_turns.Goals as goal

pub returns : goal.returns
returns c =
    let all = c.args.table.now in
    let t = c.read_lines.new.self in
    let s = c.in_ok-turns.turns in
    let e = c.in_ok-turns.ensures in
    text_finished all c.args.text.now t.items.items t.total t.line t.fault c.finish.result (search rules)
    (λ more. c.in_ok-read_lines.ensures.reported more
    ∙ reported_start all s.items.items s.total s.line s.fault (lines c.args.text.now ++ more) e.items e.total e.line e.fault)
    (c.finish.ensures all)
