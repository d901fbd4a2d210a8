-- A line more.
use Rattle.std.proofs.Common.{◌≡◌, ◌≤◌, ◌+◌, ◌∷◌, ◌++◌, [], Some, None, Ok, rules, sym, ap, subst, ◌∙◌}
use Rattle.std.specs.Prelude.{option_map, IfOk, IfSome}
use Rattle.gq_model.specs.declared.act.TurnLine.{TurnLine}
use Rattle.gq_model.specs.texts.Turns.{line_turns}
use Rattle.gq_model.specs.machine.Rest.{greatest_turns}
use Rattle.gq_scenario.specs.Text_pieces.{lines_left}
use Rattle.gq_init.specs.TurnReading.{reported}
use Rattle.gq_init.specs.internal.Piecewise_lines.{lines_read}
use Rattle.gq_init.proofs.Piecewise_turn_lines.{read_fault, read_none, read_some}
use Rattle.gq_init.proofs.turn_list.TurnList.read_lines.Goals as goal

pub loop-left-preserved-in-Ok-None : goal.loop-left-preserved-in-Ok-None
loop-left-preserved-in-Ok-None c =
    let l = c.loop-left in
    let r = c.read_ahead.new.self in
    let all = c.args.table.now in
    let found : c.in-Ok-None.field-0 ≡ None = rw (c.in-Ok-None.is) at c.in-Ok-None.field-0-is in
    let said = c.in-Ok-None.is ∙ ap Ok found in
    record {
      reported = λ more. read_none all r.items.items r.total r.line c.args.is_last c.in_ok-rest.rest.now c.next_turn-said.result.0
          c.next_turn-said.result.1 c.next_turn-said.ensures.line (sym c.is_begun.ensures ∙ c.if-is_begun.false) said more
          ∙ (c.in_ok-rest.ensures.reported c.args.is_last more
          ∙ (ap (λ o. reported all l.self.items.items l.self.total l.self.line None
          (lines_read c.args.is_last (lines_left (option_map (λ rest. rest.now) o)) ++ more))
          (sym c.in-Some.is) ∙ l.invariant.reported more));
      clear = c.in_ok-rest.ensures.clear;
      few = c.in_ok-rest.ensures.few;
      counted = search rules;
    }

pub loop-left-preserved : goal.loop-left-preserved
loop-left-preserved c =
    let l = c.loop-left in
    let r = c.read_ahead.new.self in
    let all = c.args.table.now in
    let turn : TurnLine = c.in-Ok-Some.turn in
    let found : c.in-Ok-Some.field-0 ≡ Some turn = rw (c.in-Ok-Some.is) at c.in-Ok-Some.field-0-is in
    let said = c.in-Ok-Some.is ∙ ap Ok found in
    let items : c.push.new.self.items ≡ r.items.items ++ turn ∷ [] = c.in-Ok.ensures.items ∙ ap (λ t. r.items.items ++ t ∷ []) c.of.ensures in
    let given = c.line_turns.ensures in
    let rest = lines_read c.args.is_last (lines_left (option_map (λ rest. rest.now) c.next_turn-said.result.1)) in
    let room = subst (λ s. IfOk s (λ o. IfSome o (λ t. r.total + line_turns t ≤ greatest_turns))) said c.next_turn-said.ensures.few in
    record {
      reported = λ more.
          ap (λ ts. reported all ts (r.total + c.line_turns.result) (r.line + 1) None (rest ++ more)) items
          ∙ (ap (λ n. reported all (r.items.items ++ turn ∷ []) (r.total + n) (r.line + 1) None (rest ++ more)) given
          ∙ (read_some all r.items.items r.total r.line c.args.is_last c.in_ok-rest.rest.now c.next_turn-said.result.0
          c.next_turn-said.result.1 c.next_turn-said.ensures.line (sym c.is_begun.ensures ∙ c.if-is_begun.false) turn said more
          ∙ (c.in_ok-rest.ensures.reported c.args.is_last more
          ∙ (ap (λ o. reported all l.self.items.items l.self.total l.self.line None
          (lines_read c.args.is_last (lines_left (option_map (λ rest. rest.now) o)) ++ more)) (sym c.in-Some.is) ∙ l.invariant.reported more))));
      clear = c.in_ok-rest.ensures.clear;
      few = subst (λ n. r.total + n ≤ greatest_turns) (sym given) room;
      counted = search rules;
    }

pub returns-in-Err-clause-reported : goal.returns-in-Err-clause-reported
returns-in-Err-clause-reported c more =
    let l = c.loop-left in
    let r = c.read_ahead.new.self in
    let all = c.args.table.now in
    read_fault all r.items.items r.total r.line c.args.is_last c.in_ok-rest.rest.now c.next_turn-said.result.0
    c.next_turn-said.result.1 c.next_turn-said.ensures.line (sym c.is_begun.ensures ∙ c.if-is_begun.false) c.in-Err.fault (c.in-Err.is) more
    ∙ (c.in_ok-rest.ensures.reported c.args.is_last more
    ∙ (ap (λ o. reported all l.self.items.items l.self.total l.self.line None
    (lines_read c.args.is_last (lines_left (option_map (λ rest. rest.now) o)) ++ more))
    (sym c.in-Some.is) ∙ (l.invariant.reported more ∙ search rules)))
