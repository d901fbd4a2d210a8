use Rattle.std.proofs.Common.{◌≡◌, ◌<◌, ◌≤◌, ℕ, Some, length}
use Rattle.std.specs.Prelude.{slice_get}
use Rattle.gq_traces.specs.declared.peaks.LeafPeaks.{LeafPeaks}
use Rattle.gq_traces.specs.internal.Peaking.{IsRaised}
use Rattle.gq_traces.proofs.peaks.raise.Given as goal

-- those so far are raised, and the others are as they were
abbrev pub invariant-loop-number : goal.invariant-loop-number
invariant-loop-number l = record {
  long : length l.peaks ≡ length l.fn.peaks;
  raised : (x : ℕ) (p q : LeafPeaks) → x < l.number → slice_get l.fn.peaks x ≡ Some p → slice_get l.peaks x ≡ Some q
      → IsRaised l.world.scenario l.world.world x l.turn p q;
  others : (x : ℕ) → l.number ≤ x → slice_get l.peaks x ≡ slice_get l.fn.peaks x;
}
