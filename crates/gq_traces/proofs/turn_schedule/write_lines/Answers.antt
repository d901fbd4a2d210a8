-- One line more, or the end.
use Rattle.std.proofs.Common.{◌≡◌, ◌∙◌, ◌+◌, ◌-◌, ◌∷◌, ℕ, List, drop, length, refl, ap, sym, subst, arith}
use Rattle.std.specs.Io.KnownBytes.{Appends}
use Rattle.std.proofs.lemmas.Result.{err_from_is_err_and}
use Rattle.std.proofs.lemmas.List.Sums.{sum_by-cons}
use Rattle.gq_model.specs.declared.act.TurnLine.{TurnLine}
use Rattle.gq_model.specs.machine.Scenario.{components}
use Rattle.gq_model.specs.texts.Turns.{line_turns}
use Rattle.gq_output.specs.Writes.{IsPrefix, IsRaised}
use Rattle.gq_world.proofs.Turn_sequence_runs.{below_at, here_is}
use Rattle.gq_traces.specs.Schedule.{greatest_text, listed_turns}
use Rattle.gq_traces.proofs.Lines_written.{HasWritten, first_written, next_written, prefix_written}
use Rattle.gq_traces.proofs.turn_schedule.write_lines.Goals as goal

room_is : 16777190 ≡ greatest_text
unfolding greatest_text
room_is = refl

-- how many turns are left from this line on
turns_left : (line : TurnLine) (left rest : List TurnLine) → left ≡ line ∷ rest → listed_turns left ≡ line_turns line + listed_turns rest
turns_left line left rest at = ap listed_turns at ∙ sum_by-cons line_turns line rest

pub loop-item-init : goal.loop-item-init
loop-item-init g c =
    record {
      below = c.requires.leaves;
      few = (let few = c.requires.few in omega (arith, few));
      written = first_written (components c.args.table.now) c.args.list.now 16777190 (g.W.Write.contents c.args.out.now.writer) room_is;
      counted = refl;
    }

pub returns-in_err-put-clause-writes : goal.returns-in_err-put-clause-writes
returns-in_err-put-clause-writes g c =
    let l = c.loop-item in
    let cs = components c.args.table.now in
    let list = c.args.list.now in
    let t = c.item-item.result in
    let a = g.W.Write.contents c.args.out.now.writer in
    let b = g.W.Write.contents l.out.writer in
    let d = g.W.Write.contents c.put.new.out.writer in
    let p = err_from_is_err_and c.from_residual.result c.from_residual.ensures.1 in
    let e = c.in_err-put.ensures in
    let here = here_is list l.item-index t c.loop-item-test.true c.item-item.is in
    let size = c.len.ensures.value in
    let room = c.if-len-room.false in
    rw (p.1) (record {
      written = tt;
      counted = tt;
      prefix = prefix_written cs list (drop (l.item-index + 1) list) (drop l.item-index list) t l.room l.turns c.line_text-line.result.items a b d here
          c.line_text-line.ensures l.invariant.written (omega (arith, size, room))
          (subst (λ (x : List ℕ). IsPrefix b d x) c.as_slice.ensures.value e.prefix);
      raised = subst (λ n. IsRaised n c.put.new.out.failures) l.invariant.counted e.raised;
    })

pub loop-item-preserved : goal.loop-item-preserved
loop-item-preserved g c =
    let l = c.loop-item in
    let cs = components c.args.table.now in
    let list = c.args.list.now in
    let t = c.item-item.result in
    let a = g.W.Write.contents c.args.out.now.writer in
    let b = g.W.Write.contents l.out.writer in
    let d = g.W.Write.contents c.put.new.out.writer in
    let e = c.in_ok-put.ensures in
    let here = here_is list l.item-index t c.loop-item-test.true c.item-item.is in
    let size = c.len.ensures.value in
    let again = c.len-room.ensures.value in
    let room = c.if-len-room.false in
    let few = l.invariant.few in
    let split = turns_left t (drop l.item-index list) (drop (l.item-index + 1) list) here in
    let count = c.count-turns.ensures in
    let same : length c.line_text-line.result.items ≡ c.len-room.result = sym again in
    record {
      below = (below_at (length cs) list l.item-index t here l.invariant.below).1;
      few = omega (arith, few, split, count);
      written = subst (λ n. HasWritten cs list (drop (l.item-index + 1) list) (l.room - n) (l.turns + c.count-turns.result) a d) same
          (next_written cs list (drop (l.item-index + 1) list) (drop l.item-index list) t l.room l.turns c.line_text-line.result.items a b d here
          c.line_text-line.ensures l.invariant.written c.count-turns.result (omega (arith, size, room)) count
          (subst (λ (x : List ℕ). Appends b d x) c.as_slice.ensures.value e.written));
      counted = e.counted ∙ l.invariant.counted;
    }
