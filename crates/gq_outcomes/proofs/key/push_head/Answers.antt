use Rattle.std.proofs.Common.{◌++◌, ◌∷◌}
use Rattle.std.proofs.lemmas.Result.{on_ok_weaker}
use Rattle.std.specs.Prelude.{option_map}
use Rattle.gq_laws.specs.Renamed.{renamed_current}
use Rattle.gq_outcomes.specs.internal.Key_parts.{leaf_at, place_in}
use Rattle.gq_outcomes.specs.internal.Keys.{current_key, left_key, number_key, option_key, phase_tag, signals_key, text_key}
use Rattle.gq_outcomes.proofs.Key_lists.{behind, behind_two}
use Rattle.gq_outcomes.proofs.key.push_head.Goals as goal

pub returns : goal.returns
returns c =
    let leaf = leaf_at c.args.machine.now.world c.args.leaf in
    let signals = signals_key leaf.reacting leaf.signals in
    let counts = number_key leaf.steps ++ (text_key leaf.inputs ++ signals) in
    let peaks = text_key leaf.peaks ++ counts in
    let locals = text_key leaf.locals ++ peaks in
    let operands = text_key leaf.operands ++ locals in
    on_ok_weaker c.push_signals.result
    (λ put. behind _ _ _ (phase_tag leaf.phase ∷ option_key current_key (option_map (renamed_current (place_in c.args.order.now)) leaf.current))
    (left_key leaf.todo leaf.loops ++ operands) c.in_ok-push_stance.ensures
    (behind _ _ _ (left_key leaf.todo leaf.loops) operands c.in_ok-push_todo.ensures
    (behind _ _ _ (text_key leaf.operands) locals c.in_ok-push_operands.ensures
    (behind _ _ _ (text_key leaf.locals) peaks c.in_ok-push_locals.ensures
    (behind _ _ _ (text_key leaf.peaks) counts c.in_ok-push_peaks.ensures
    (behind_two _ _ _ (number_key leaf.steps) (text_key leaf.inputs) signals c.in_ok-push_counts.ensures put))))))
    c.push_signals.ensures
