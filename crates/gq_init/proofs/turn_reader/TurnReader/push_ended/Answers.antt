-- Whole lines, where none was begun.
use Rattle.std.proofs.Common.{◌≡◌, ◌++◌, ◌+◌, [], length, List, ℕ, ap, sym, refl, ◌∙◌}
use Rattle.std.proofs.lemmas.Result.{on_ok_weaker}
use Rattle.gq_init.specs.TurnReading.{Reading, answer}
use Rattle.gq_init.proofs.Piecewise_turn_lines.{answer_kept, answer_read}
use Rattle.gq_init.proofs.turn_reader.TurnReader.push_ended.Goals as goal

pub returns-clause-answer : goal.returns-clause-answer
returns-clause-answer c =
    let all = c.args.table.now in
    let piece = c.args.piece.now in
    let t = c.self.inside.turns in
    let held : Reading = record {
      items = t.items.items;
      total = t.total;
      line = t.line;
      fault = t.fault;
      size = c.self.inside.size;
      last = c.self.inside.last.items;
    } in
    let n = c.read_lines.new.self in
    let new : Reading = record {
      items = n.items.items;
      total = n.total;
      line = n.line;
      fault = n.fault;
      size = c.self.inside.size + length piece;
      last = c.self.inside.last.items;
    } in
    let empty : held.last ≡ [] = ap (λ (r : Reading). r.last) c.self.view_is ∙ c.requires.last in
    let mid : Reading = record held { size = held.size + length piece; last = piece } in
    on_ok_weaker c.read_lines.result (λ reported_is rest.
    answer_read all mid new c.requires.ended empty refl reported_is rest
    ∙ (ap (λ (l : List ℕ). answer all (record held { size = held.size + length piece; last = l ++ piece }) rest) (sym empty)
    ∙ (ap (λ (r : Reading). answer all (record r { size = r.size + length piece; last = r.last ++ piece }) rest) c.self.view_is
    ∙ answer_kept all c.args.self.now piece rest))) c.read_lines.ensures.reported
