use Rattle.std.proofs.Common.{◌≡◌, ◌∙◌, ◌++◌, ap, get_or, refl}
use Rattle.std.specs.Prelude.{slice_index}
use Rattle.gq_heap.specs.Classes.{index_of}
use Rattle.gq_tariff.specs.declared.class.Class.TheVariants.{Bytes16}
use Rattle.gq_outcomes.specs.internal.Key_parts.{leaf_at, peak_key}
use Rattle.gq_outcomes.specs.internal.Keys.{each_key, number_key}
use Rattle.gq_outcomes.proofs.Kept_readers.{leaf_reads}
use Rattle.gq_outcomes.proofs.Key_lists.{key_put}
use Rattle.gq_outcomes.proofs.key.push_peaks_of.Goals as goal

pub loop-class-preserved : goal.loop-class-preserved
loop-class-preserved c =
    let l = c.loop-class in
    let m = c.args.machine.now in
    let classes = c.args.classes.now in
    let peaks = (leaf_at m.world c.args.leaf).peaks in
    let class = get_or classes l.class-index Bytes16 in
    let peak : c.peak.result ≡ slice_index peaks (index_of class) =
    leaf_reads m c.requires.sound c.args.leaf c.requires.leaf (λ leaf. c.peak.result ≡ slice_index leaf.peaks (index_of class)) c.peak.ensures in
    key_put (peak_key peaks) classes l.class-index Bytes16 class l.key.items c.push_number.new.key.items
    (c.args.key.now.items ++ each_key (peak_key peaks) classes) c.loop-class-test.true refl
    (c.in_ok-push_number.ensures ∙ ap (λ n. l.key.items ++ number_key n) (c.from.ensures ∙ peak)) l.invariant
