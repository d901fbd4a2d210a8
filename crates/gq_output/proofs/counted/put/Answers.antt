use Rattle.std.proofs.Common.{◌-◌, ◌≤◌, length, take, drop, length-drop, ap, sym, subst, List, ℕ, arith}
use Rattle.std.proofs.Math.Seq.{take-add}
use Rattle.std.proofs.lemmas.List.{take_rest}
use Rattle.std.proofs.lemmas.Bool.Decides.{nat_tests}
use Rattle.std.specs.Io.KnownBytes.{Appends}
use Rattle.gq_output.proofs.Written_byte_facts.{appends_both}
use Rattle.gq_output.proofs.counted.put.Goals as goal

pub loop-done-preserved : goal.loop-done-preserved
loop-done-preserved g c =
    let l = c.loop-done in
    let h = c.in-Ok.ensures in
    let bytes = c.args.bytes.now in
    let rest = take_rest bytes l.done in
    let bound : c.in-Ok.taken ≤ length (take (length bytes - l.done) (drop l.done bytes)) = h.bound in
    let a = g.W.Write.contents c.args.out.now.writer in
    let b = g.W.Write.contents l.out.writer in
    let d = g.W.Write.contents c.write.new.self.writer in
    let more : Appends b d (take c.in-Ok.taken (drop l.done bytes)) = subst (λ (xs : List ℕ). Appends b d (take c.in-Ok.taken xs)) rest h.bytes in
    record {
      fits = omega (arith, bound, ap length rest, length-drop l.done bytes, l.invariant.fits);
      written = subst (Appends a d) (sym (take-add l.done c.in-Ok.taken bytes))
          (appends_both a b d (take l.done bytes) (take c.in-Ok.taken (drop l.done bytes)) l.invariant.written more);
      counted = grind (arith, nat_tests);
    }
