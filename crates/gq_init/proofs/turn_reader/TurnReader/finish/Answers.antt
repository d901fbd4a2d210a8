-- The last line.
use Rattle.std.proofs.Common.{◌++◌, [], List, ℕ, ap, subst, ◌∙◌, rules}
use Rattle.gq_model.specs.texts.Letters.{lines}
use Rattle.gq_init.specs.TurnReading.{Reading, answer, reported}
use Rattle.gq_init.specs.TurnLines.{IsTurned}
use Rattle.gq_init.proofs.Piecewise_turn_lines.{answer_finished}
use Rattle.gq_init.proofs.turn_reader.TurnReader.finish.Goals as goal

pub returns : goal.returns
returns c =
    let all = c.args.table.now in
    let t = c.self.inside.turns in
    let held : Reading = record {
      items = t.items.items;
      total = t.total;
      line = t.line;
      fault = t.fault;
      size = c.self.inside.size;
      last = c.self.inside.last.items;
    } in
    let n = c.read_lines.new.self in
    subst (λ (r : Reading). IsTurned c.finish.result (answer all r [])) c.self.view_is
    (answer_finished all held n.items.items n.total n.line n.fault c.finish.result (search rules)
    (λ more. c.in_ok-read_lines.ensures.reported more ∙ ap (λ (s : List ℕ). reported all held.items held.total held.line held.fault (lines s ++ more))
    c.as_slice.ensures.value)
    (c.finish.ensures all))
