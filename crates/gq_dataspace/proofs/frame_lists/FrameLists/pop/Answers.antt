use Rattle.std.proofs.Common.{◌≡◌, ◌<◌, ◌++◌, ◌∷◌, [], ℕ, List, length, set, slice_index, arith, sym, ap, subst, length-append}
use Rattle.gq_dataspace.specs.internal.Frame_lists.{Lists, list_at}
use Rattle.gq_dataspace.specs.internal.Runs.{AreRuns}
use Rattle.gq_dataspace.proofs.Dataspace_link_tables.{reads, at_some}
use Rattle.gq_dataspace.proofs.Consecutive_frame_runs.{runs_popped}
use Rattle.gq_dataspace.proofs.frame_lists.FrameLists.pop.Goals as goal

pub invariant_of-self : goal.invariant_of-self
invariant_of-self c =
    let f = c.self.inside in let r = c.args.first in let i = c.self.invariant in let ys : List ℕ = list_at c.pop-frame.new.self r in
    let was : list_at f.table r ≡ ys ++ c.pop-frame.result ∷ [] = c.pop-frame.ensures.last in
    let lt : r < length f.table = at_some f.table r (omega (arith, ap length was, length-append ys (c.pop-frame.result ∷ []))) in
    let run : c.index.result.now ≡ slice_index f.runs.items r = reads f.runs.items r c.index.result.now (omega (arith, lt, i.same)) c.index.ensures in
    subst (λ (ls : Lists). AreRuns ls (set f.runs.items r c.at_most.result)) (sym c.pop-frame.ensures.alone)
    (runs_popped f.table f.runs.items r c.pop-frame.result c.at_most.result ys i lt was (omega (arith, run, c.at_most.ensures.run))
    (omega (arith, c.at_most.ensures.count, c.count-count.ensures)))
