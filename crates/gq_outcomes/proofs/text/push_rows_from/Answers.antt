-- Rows of turns: one grows, or is put and another begins.
use Rattle.std.proofs.Common.{◌≡◌, ◌∙◌, ◌<◌, ◌+◌, ◌++◌, ◌∷◌, [], ℕ, ap, arith, sym, subst, append-nil, length, drop, get_or}
use Rattle.std.proofs.lemmas.Result.{on_ok_weaker}
use Rattle.gq_model.specs.machine.Scenario.{components}
use Rattle.gq_outcomes.specs.Text.{onto_row, rows_back}
use Rattle.gq_outcomes.specs.internal.Turn_rows.{past_of, rows_onto}
use Rattle.gq_outcomes.proofs.Text_lines.{one_left}
use Rattle.gq_outcomes.proofs.Turn_rows.{begins_full, begins_other, grows, lines_back, row_put, rows_are, rows_end, turn_same}
use Rattle.gq_outcomes.proofs.text.push_rows_from.Goals as goal
use Rattle.gq_outcomes.proofs.text.push_rows_from.Goals.{then-leaf-turn+then-count-lt-GREATEST_ROW, else-leaf-turn+in_ok-push_row}
use Rattle.gq_outcomes.proofs.text.push_rows_from.Goals.{else-leaf-turn-via-then-leaf-turn+else-count-lt-GREATEST_ROW, else-leaf-turn-via-else-leaf-turn}

pub loop-turn-init : goal.loop-turn-init
loop-turn-init c = record {
  leaf = c.requires.first;
  rows = ([], sym (append-nil c.args.text.now.items), sym (rows_are c.args.rest.now (c.args.first ∷ [])));
}

pub loop-turn-preserved : goal.loop-turn-preserved
loop-turn-preserved c =
    let l = c.loop-turn in
    let cs = components c.args.table.now in
    let rest = c.args.rest.now in
    let k = l.turn-index in
    let within = c.loop-turn-test.true in
    let x = get_or rest k 0 in
    let done = l.invariant.rows.0 in
    let whole = rows_back (past_of (c.args.first ∷ rest)) in
    let row : ℕ × ℕ = (l.leaf, l.count) in
    let here : rows_onto (drop (k + 1) rest) (onto_row x (row ∷ done)) ≡ whole
    = ap (λ t. rows_onto t (row ∷ done)) (sym (one_left rest k x within (turn_same rest k 0 within))) ∙ l.invariant.rows.2 in
    let now : ℕ × ℕ = (c.if-leaf-turn.leaf, c.if-leaf-turn.count) in
    elim c.if-leaf-turn.branch [
      | then-leaf-turn+then-count-lt-GREATEST_ROW w ↦
          record {
            leaf = subst (λ y. y < length cs) (sym w.leaf-is) l.invariant.leaf;
            rows = (
              done,
              subst (λ t. t.items ≡ c.args.text.now.items ++ lines_back cs done) (sym w.text-is) l.invariant.rows.1,
              ap (λ r. rows_onto (drop (k + 1) rest) (r ∷ done)) (λ i. (w.leaf-is i, w.count-is i))
                  ∙ ap (rows_onto (drop (k + 1) rest)) (sym (grows x l.leaf l.count done w.if-leaf-turn.true w.if-count-lt-GREATEST_ROW.true))
                  ∙ here,
            );
          }
      | else-leaf-turn+in_ok-push_row w ↦
          let begins : onto_row x (row ∷ done) ≡ (x, 1) ∷ row ∷ done
          = elim w.else-leaf-turn.branch [
            | else-leaf-turn-via-then-leaf-turn+else-count-lt-GREATEST_ROW v ↦
                begins_full x l.leaf l.count done v.if-leaf-turn.true v.if-count-lt-GREATEST_ROW.false
            | else-leaf-turn-via-else-leaf-turn v ↦ begins_other x l.leaf l.count done v.if-leaf-turn.false
          ] in
          record {
            leaf = subst (λ y. y < length cs) (sym w.leaf-is) (c.requires.rest k 0 within);
            rows = (
              row ∷ done,
              subst (λ t. t.items ≡ c.args.text.now.items ++ lines_back cs (row ∷ done)) (sym w.text-is)
                  (row_put cs c.args.text.now.items l.text.items w.push_row.new.text.items row done l.invariant.rows.1 w.in_ok-push_row.ensures),
              ap (λ r. rows_onto (drop (k + 1) rest) (r ∷ row ∷ done)) (λ i. (w.leaf-is i, w.count-is i))
                  ∙ ap (rows_onto (drop (k + 1) rest)) (sym begins) ∙ here,
            );
          }
    ]

pub returns : goal.returns
returns c =
    let l = c.loop-turn in
    let cs = components c.args.table.now in
    let done = l.invariant.rows.0 in
    let row : ℕ × ℕ = (l.leaf, l.count) in
    on_ok_weaker c.push_row-2.result (λ put.
    row_put cs c.args.text.now.items l.text.items c.push_row-2.new.text.items row done l.invariant.rows.1 put
    ∙ ap (λ r. c.args.text.now.items ++ lines_back cs r) (rows_end c.args.rest.now l.turn-index (row ∷ done) (omega (arith, c.loop-turn-test.false))
    ∙ l.invariant.rows.2)) c.push_row-2.ensures
