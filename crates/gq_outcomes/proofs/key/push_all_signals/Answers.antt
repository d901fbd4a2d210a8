use Rattle.std.proofs.Common.{◌<◌, ◌≤◌, ◌++◌, subst}
use Rattle.gq_model.specs.machine.World.{Signal}
use Rattle.gq_outcomes.specs.internal.Keys.{list_key, signal_key}
use Rattle.gq_outcomes.proofs.Kept_readers.{get_is}
use Rattle.gq_outcomes.proofs.Key_lists.{count_put, key_put, key_whole}
use Rattle.gq_outcomes.proofs.key.push_all_signals.Goals as goal

pub loop-number-init : goal.loop-number-init
loop-number-init c =
    count_put signal_key c.args.signals.now c.count-count.result c.args.key.now.items c.push_number.new.key.items c.count-count.ensures.count
    c.in_ok-push_number.ensures

pub loop-number-preserved : goal.loop-number-preserved
loop-number-preserved c =
    let l = c.loop-number in
    let signals = c.args.signals.now in
    let s : Signal = record { submitted = c.get.result.submitted; taken = c.get.result.taken } in
    key_put signal_key signals l.number s s l.key.items c.push_signal.new.key.items (c.args.key.now.items ++ list_key signal_key signals)
    (subst (λ n. l.number < n) c.count-count.ensures.count c.loop-number-test.true) (get_is signals l.number s c.get.ensures)
    c.in_ok-push_signal.ensures l.invariant

pub returns : goal.returns
returns c =
    let l = c.loop-number in
    key_whole signal_key c.args.signals.now l.number l.key.items (c.args.key.now.items ++ list_key signal_key c.args.signals.now)
    (subst (λ n. n ≤ l.number) c.count-count.ensures.count c.loop-number-test.false) l.invariant
