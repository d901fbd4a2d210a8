use Rattle.std.proofs.Common.{◌≡◌, ◌++◌, drop}
use Rattle.gq_outcomes.specs.internal.Key_parts.{leaf_at, peak_key}
use Rattle.gq_outcomes.specs.internal.Keys.{each_key}
use Rattle.gq_outcomes.proofs.key.push_peaks_of.Given as goal

-- the bytes so far, with those of the classes that are left, are all
abbrev pub invariant-loop-class : goal.invariant-loop-class
invariant-loop-class l =
    let peaks = (leaf_at l.machine.world l.leaf).peaks in
    l.key.items ++ each_key (peak_key peaks) (drop l.class-index l.classes) ≡ l.fn.key.items ++ each_key (peak_key peaks) l.classes
