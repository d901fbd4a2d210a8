use Rattle.std.proofs.Common.{Some, None, sym, ◌∙◌}
use Rattle.gq_init.proofs.Signal_lines.{signal_named}
use Rattle.gq_init.proofs.signals.read_signal.Goals as goal

pub returns-in-Some-leaf_named-clause-signal : goal.returns-in-Some-leaf_named-clause-signal
returns-in-Some-leaf_named-clause-signal c =
    let placed = sym c.in-Some-leaf_named.is ∙ c.leaf_named.ensures.number in
    c.signal_at.ensures.signal
    ∙ sym (signal_named c.args.table.now c.args.word.now c.in-Some.name.now c.in-Some.signal (Some c.in-Some-leaf_named.leaf)
    (sym c.in-Some.ensures.signal) placed)

pub returns-in-None-clause-signal : goal.returns-in-None-clause-signal
returns-in-None-clause-signal c =
    let placed = sym c.in-None.is ∙ c.leaf_named.ensures.number in
    sym (signal_named c.args.table.now c.args.word.now c.in-Some.name.now c.in-Some.signal None (sym c.in-Some.ensures.signal) placed)
