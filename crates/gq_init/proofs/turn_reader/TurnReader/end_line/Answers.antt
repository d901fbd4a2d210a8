-- The line that was begun ends with the piece.
use Rattle.std.proofs.Common.{◌≡◌, ◌++◌, List, ℕ, ap, sym, subst, refl, ◌∙◌}
use Rattle.std.proofs.lemmas.Result.{on_ok_weaker}
use Rattle.gq_model.specs.texts.Letters.{lines}
use Rattle.gq_init.specs.TurnReading.{Reading, answer, reported}
use Rattle.gq_init.specs.internal.Piecewise_lines.{IsEnded, lines_read}
use Rattle.gq_init.proofs.Piecewise_turn_lines.{answer_kept, answer_read, ended_behind}
use Rattle.std.specs.Prelude.{false}
use Rattle.gq_init.proofs.turn_reader.TurnReader.end_line.Goals as goal

pub returns-clause-answer : goal.returns-clause-answer
returns-clause-answer c =
    let all = c.args.table.now in
    let t = c.self.inside.turns in
    let mid : Reading = record {
      items = t.items.items;
      total = t.total;
      line = t.line;
      fault = t.fault;
      size = c.self.inside.size;
      last = c.self.inside.last.items;
    } in
    let n = c.read_lines-read.new.self in
    let new : Reading = record {
      items = n.items.items;
      total = n.total;
      line = n.line;
      fault = n.fault;
      size = c.self.inside.size;
      last = c.clear.new.self.items;
    } in
    let kept = c.self.view_is ∙ c.in_ok-keep.ensures.kept in
    let last : mid.last ≡ c.args.self.now.last ++ c.args.piece.now = ap (λ (r : Reading). r.last) kept in
    let ended : IsEnded mid.last = subst IsEnded (sym last) (ended_behind c.args.self.now.last c.args.piece.now c.requires.ended) in
    on_ok_weaker c.read_lines-read.result (λ reported_is rest.
    answer_read all mid new ended c.clear.ensures.items refl
    (λ more. reported_is more ∙ ap (λ (s : List ℕ). reported all mid.items mid.total mid.line mid.fault (lines_read false (lines s) ++ more))
    c.as_slice.ensures.value) rest
    ∙ (ap (λ r. answer all r rest) kept ∙ answer_kept all c.args.self.now c.args.piece.now rest)) c.read_lines-read.ensures.reported
