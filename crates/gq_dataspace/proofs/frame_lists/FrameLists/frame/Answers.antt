use Rattle.std.proofs.Common.{◌≡◌, ◌<◌, length, slice_index, arith, ap}
use Rattle.gq_dataspace.specs.internal.Frame_lists.{list_at}
use Rattle.gq_dataspace.proofs.Dataspace_link_tables.{reads, at_some}
use Rattle.gq_dataspace.proofs.frame_lists.FrameLists.frame.Goals as goal

pub overflow_add-result : goal.overflow_add-result
overflow_add-result c =
    let f = c.self.inside in let r = c.args.first in let i = c.self.invariant in
    let there : r < length f.runs.items = omega (arith, i.same, at_some f.table r (omega (arith, ap (λ ls. length (list_at ls r)) c.self.view_is, c.requires)))
    in
    let run : c.index.result.now ≡ slice_index f.runs.items r = reads f.runs.items r c.index.result.now there c.index.ensures in
    record { fits = omega (arith, run, c.if-index.true, i.few, (i.each r).below (omega (arith, run, c.if-index.true))) }
