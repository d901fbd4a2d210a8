use Rattle.std.proofs.Common.{◌-◌, ◌+◌, ◌++◌, sym}
use Rattle.gq_model.specs.rules.Accept.{steps_of_signal, signal_line, signal_lines_of}
use Rattle.gq_load.proofs.Signal_line_steps.{lines_next, line_more}
use Rattle.gq_load.proofs.signal_lines.push_lines.Goals as goal

pub loop-signal-preserved : goal.loop-signal-preserved
loop-signal-preserved c =
    let l = c.loop-signal in
    let d = c.args.component.now in
    let bs = c.args.budgets.now in
    let y = c.args.leaf in
    let n = c.signals-signals.result in
    line_more l.text.items c.push_line.new.text.items (signal_line y l.signal d (steps_of_signal y l.signal bs))
    (signal_lines_of y (l.signal + 1) (n - (l.signal + 1)) d bs) (signal_lines_of y l.signal (n - l.signal) d bs)
    (c.args.text.now.items ++ signal_lines_of y 0 n d bs) (c.in_ok-push_line.ensures d (sym c.label.ensures))
    (lines_next y l.signal n d bs c.loop-signal-test.true) l.invariant
