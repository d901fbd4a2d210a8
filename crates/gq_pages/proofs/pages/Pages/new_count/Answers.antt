use Rattle.std.proofs.Common.{arith}
use Rattle.gq_pages.proofs.Free_frame_list.{count_free-free_list}
use Rattle.gq_pages.proofs.pages.Pages.new_count.Goals as goal

pub returns : goal.returns
returns c =
    let p = c.self.inside in
    rw (← c.self.view_is) (omega (arith, count_free-free_list p.frames p.touched p.chained p.region.bytes p.first c.self.invariant.free))
