-- A turn more.
use Rattle.std.proofs.Common.{◌≡◌, ◌+◌, ◌∷◌, ◌++◌, [], None, rules, ap, ◌∙◌}
use Rattle.gq_model.specs.declared.act.TurnLine.{TurnLine}
use Rattle.gq_model.specs.declared.act.Act.TheVariants.{Turns}
use Rattle.gq_model.specs.declared.act.TurnLine.TheVariants.{Gives}
use Rattle.gq_model.specs.texts.Letters.{lines}
use Rattle.gq_init.specs.TurnReading.{reported}
use Rattle.gq_init.specs.internal.Piecewise_lines.{lines_read}
use Rattle.gq_init.proofs.Piecewise_turn_lines.{read_turn_ahead}
use Rattle.gq_init.proofs.turn_list.TurnList.read_ahead.Goals as goal

pub loop-turn-preserved : goal.loop-turn-preserved
loop-turn-preserved c =
    let l = c.loop-turn in
    let all = c.args.table.now in
    let count = c.in-Some.turn.1 in
    let turn : TurnLine = Gives c.in-Some.turn.0 (Turns count) in
    let after = c.in-Some.after.now in
    let items : c.push.new.self.items ≡ l.self.items.items ++ turn ∷ [] = c.in-Ok.ensures.items ∙ ap (λ t. l.self.items.items ++ t ∷ []) c.new.ensures in
    record {
      reported = λ is_last more.
          ap (λ ts. reported all ts (l.total + count) (l.line + 1) None (lines_read is_last (lines after) ++ more)) items
          ∙ (read_turn_ahead all l.self.items.items l.total l.line l.left.now after turn c.in-Some.ensures.turn (search rules) is_last more
          ∙ l.invariant.reported is_last more);
      kept_total = l.invariant.kept_total;
      kept_line = l.invariant.kept_line;
      clear = l.invariant.clear;
      few = search rules;
      shorter = search rules;
      counted = search rules;
    }
