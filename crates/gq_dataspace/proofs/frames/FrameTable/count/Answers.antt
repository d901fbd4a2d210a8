use Rattle.std.proofs.Common.{◌<◌, length, arith, sym, ap, ◌∙◌}
use Rattle.gq_dataspace.proofs.Dataspace_link_tables.{length-lists_in, length-list_at, reads}
use Rattle.gq_dataspace.proofs.frames.FrameTable.count.Goals as goal

pub index-requires : goal.index-requires
index-requires c =
    let t = c.self.inside in
    omega (arith, c.requires, ap length c.self.view_is, length-lists_in t.links.items t.counts.items)

pub returns : goal.returns
returns c =
    let t = c.self.inside in let within : c.args.first < length t.counts.items =
    omega (arith, c.requires, ap length c.self.view_is, length-lists_in t.links.items t.counts.items) in
    rw (← c.self.view_is) (reads t.counts.items c.args.first c.index.result.now within c.index.ensures
    ∙ sym (length-list_at t.links.items t.counts.items c.args.first))
