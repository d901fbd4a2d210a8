-- A signal that is submitted.
use Rattle.std.proofs.Common.{◌∙◌, length, sym, ap, map, arith}
use Rattle.std.proofs.lemmas.List.{length-map}
use Rattle.gq_model.specs.machine.Run.{signals_with}
use Rattle.gq_leaf.specs.internal.Signal_lists.{signal_seen}
use Rattle.gq_leaf.proofs.Signal_counts.{none_submitted, refilled_submitted, submitted_seen}
use Rattle.gq_leaf.proofs.signals.Signals.submit.Goals as goal

pub returns-then-number-len : goal.returns-then-number-len
returns-then-number-len c =
    let xs = c.self.inside.list.items in
    let i = c.args.number in
    ap (map signal_seen) (refilled_submitted xs c.as_mut_slice.result.now c.submit_in.new.signals i c.as_mut_slice.ensures.value c.submit_in.ensures)
    ∙ submitted_seen xs i ∙ ap (λ l. signals_with l i) c.self.view_is

pub returns-else-number-len : goal.returns-else-number-len
returns-else-number-len c =
    let xs = c.self.inside.list.items in
    let seen = ap length c.self.view_is in
    let same = length-map xs signal_seen in
    sym (none_submitted c.args.self.now c.args.number (omega (arith, c.if-number-len.false, c.len.ensures.value, seen, same)))
