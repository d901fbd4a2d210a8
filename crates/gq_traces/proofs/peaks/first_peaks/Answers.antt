-- One leaf after the other.
use Rattle.std.proofs.Common.{◌≡◌, ◌∙◌, ◌∷◌, [], ap, arith, length, length-append, subst, sym}
use Rattle.gq_traces.specs.internal.Peaking.{ArePeaksNow}
use Rattle.std.specs.Prelude.{slice_get}
use Rattle.gq_machine.specs.Machines.{Machine}
use Rattle.gq_traces.proofs.Peaks_kept.{at_end}
use Rattle.gq_traces.proofs.peaks.first_peaks.Goals as goal

pub loop-number-preserved : goal.loop-number-preserved
loop-number-preserved c =
    let w = c.args.world.now in
    let l = c.loop-number in
    let put = c.in_ok-push.ensures.items in
    let p = c.peaks_now.result in
    let long = l.invariant.long in
    let more = ap length put ∙ length-append l.peaks.items (p ∷ []) in
    let here = subst (λ (m : Machine). ArePeaksNow m.scenario m.world c.new.result 0 p) c.machine.ensures.is c.peaks_now.ensures in
    let at : c.new.result ≡ length l.peaks.items = c.new.ensures ∙ sym long in
    record {
      long = omega (arith, more, long);
      now = λ x q there. at_end (λ y c. ArePeaksNow w.scenario w.world y 0 c) l.peaks.items p l.invariant.now
          (subst (λ n. ArePeaksNow w.scenario w.world n 0 p) at here) x q (ap (λ xs. slice_get xs x) (sym put) ∙ there);
    }
