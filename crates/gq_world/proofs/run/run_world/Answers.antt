use Rattle.std.proofs.lemmas.Result.{err_from_is_err_and}
use Rattle.gq_world.specs.Account_lines.{accounts_text}
use Rattle.gq_reports.specs.Whole.{whole_of}
use Rattle.gq_world.specs.internal.Act_transitions.{acts_of_lines}
use Rattle.gq_reports.proofs.Command_text_endings.{since}
use Rattle.gq_world.proofs.Run_text.{complete, cut_lines, cut_turns}
use Rattle.gq_world.proofs.run.run_world.Goals as goal

pub returns-in_err-take_all : goal.returns-in_err-take_all
returns-in_err-take_all g c =
    let old = c.args.world.now in
    let a = g.W.Write.contents c.args.out.now.writer in
    let b = g.W.Write.contents c.take_all.new.out.writer in
    let p = err_from_is_err_and c.from_residual.result c.from_residual.ensures.1 in
    rw (p.1) (record {
      written = tt;
      counted = tt;
      prefix = cut_turns old.scenario c.args.turns.now old c.requires.start a b b c.in_err-take_all.ensures.cut;
      raised = c.in_err-take_all.ensures.raised;
    })

pub returns : goal.returns
returns g c =
    let old = c.args.world.now in
    let new = c.take_all.new.world in
    let whole = whole_of old.scenario (acts_of_lines old.scenario c.args.turns.now) in
    let a = g.W.Write.contents c.args.out.now.writer in
    let b = g.W.Write.contents c.take_all.new.out.writer in
    let d = g.W.Write.contents c.write_accounts.new.out.writer in
    let e = c.in_ok-take_all.ensures in
    since g.W.Write.contents c.args.out.now c.take_all.new.out c.write_accounts.new.out (accounts_text new) whole c.write_accounts.result e.counted
    (complete old.scenario c.args.turns.now old c.requires.start a b d new e.scenario e.ran)
    (cut_lines old.scenario c.args.turns.now old c.requires.start a b d new e.scenario e.ran) c.write_accounts.ensures
