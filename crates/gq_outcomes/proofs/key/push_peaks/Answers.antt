use Rattle.std.proofs.Common.{◌∙◌, ◌++◌, ap}
use Rattle.std.proofs.lemmas.Result.{on_ok_weaker}
use Rattle.gq_outcomes.specs.internal.Key_parts.{leaf_at, peak_key}
use Rattle.gq_outcomes.specs.internal.Keys.{each_key, number_key}
use Rattle.gq_outcomes.proofs.Kept_parts.{all_classes, peaks_text}
use Rattle.gq_outcomes.proofs.Kept_readers.{peaks_count}
use Rattle.gq_outcomes.proofs.Key_lists.{behind}
use Rattle.gq_outcomes.proofs.key.push_peaks.Goals as goal

pub returns : goal.returns
returns c =
    let m = c.args.machine.now in
    let peaks = (leaf_at m.world c.args.leaf).peaks in
    on_ok_weaker c.push_peaks_of.result
    (λ put. behind _ _ _ (number_key 8) (each_key (peak_key peaks) all_classes) c.in_ok-push_number.ensures put
    ∙ ap (λ t. c.args.key.now.items ++ t) (peaks_text peaks (peaks_count m c.requires.sound c.args.leaf c.requires.leaf))) c.push_peaks_of.ensures
