-- The lines that fit are written, and behind them that there are more.
use Rattle.std.proofs.Common.{◌≡◌, ◌∙◌, Bool, true, false, refl, sym}
use Rattle.std.specs.Prelude.{not}
use Rattle.std.proofs.lemmas.Result.{err_from_is_err_and}
use Rattle.gq_model.specs.machine.Rest.{some_can}
use Rattle.gq_model.specs.machine.Scenario.{components, system}
use Rattle.gq_traces.specs.Schedule.{cut_lines, fitting, greatest_text}
use Rattle.gq_views.specs.Listing.{joined}
use Rattle.gq_traces.proofs.Lines_written.{fewer_text, going_text, lines_prefix, lines_text, written_behind}
use Rattle.gq_traces.proofs.turn_schedule.write_list.Goals as goal

not_true : (b : Bool) → not b ≡ true → b ≡ false
not_true true e = absurd cc
not_true false e = cc

-- some leaf could go on, by whether none can
going : (can at_rest : Bool) → at_rest ≡ not can → at_rest ≡ false → can ≡ true
going true at_rest is e = refl
going false at_rest is e = absurd (no (sym is ∙ e))
  where
    no : true ≡ false → ⊥
    no e = cc

pub returns-in_err-written : goal.returns-in_err-written
returns-in_err-written g c =
    let p = err_from_is_err_and c.from_residual.result c.from_residual.ensures.1 in
    let e = c.in_err-written.ensures.writes in
    rw (p.1) (record {
      written = tt;
      counted = tt;
      prefix = lines_prefix c.args.world.now.scenario c.table.result.now c.args.world.now.world c.args.list.now c.table.ensures
          (g.W.Write.contents c.args.out.now.writer) (g.W.Write.contents c.write_lines.new.out.writer) e.prefix;
      raised = e.raised;
    })

pub returns-then-not-written : goal.returns-then-not-written
returns-then-not-written g c =
    let w = c.args.world.now in
    let t = c.table.result.now in
    let e = c.in_ok-written.ensures in
    let list = c.args.list.now in
    written_behind g.W.Write.contents c.args.out.now c.write_lines.new.out c.write_cut.new.out
    (lines_text (components t) (fitting (components t) greatest_text list)) (joined (cut_lines true c.in_ok-written.written.turns)) _ c.write_cut.result
    (fewer_text w.scenario t w.world list c.table.ensures c.in_ok-written.written.all c.in_ok-written.written.turns e.all
    (not_true c.in_ok-written.written.all c.if-not-written.true) e.turns)
    e.writes.written e.writes.counted c.write_cut.ensures

pub returns-then-not-is_at_rest : goal.returns-then-not-is_at_rest
returns-then-not-is_at_rest g c =
    let w = c.args.world.now in
    let t = c.table.result.now in
    let e = c.in_ok-written.ensures in
    let list = c.args.list.now in
    let cut = c.write_cut-then-not-is_at_rest in
    written_behind g.W.Write.contents c.args.out.now c.write_lines.new.out cut.new.out
    (lines_text (components t) (fitting (components t) greatest_text list)) (joined (cut_lines true c.in_ok-written.written.turns)) _ cut.result
    (going_text w.scenario t w.world list c.table.ensures c.in_ok-written.written.turns
    (going (some_can (system w.scenario) w.world 0 (components w.scenario)) c.is_at_rest.result c.is_at_rest.ensures c.if-not-is_at_rest.true) e.turns)
    e.writes.written e.writes.counted cut.ensures
