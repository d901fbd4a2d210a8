use Rattle.std.proofs.Common.{◌≡◌, ◌≤◌, length, arith, sym, ap, ◌∙◌}
use Rattle.gq_pages.specs.internal.Pages.{free_frames}
use Rattle.gq_pages.proofs.Frame_number_lists.{no_more_free, length-frames_of}
use Rattle.gq_pages.proofs.Free_frame_list.{count_free-free_list, length-free_list}
use Rattle.gq_pages.proofs.pages.Pages.free_count.Goals as goal

pub returns : goal.returns
returns c =
    let p = c.self.inside in let i = c.self.invariant in
    let free = count_free-free_list p.frames p.touched p.chained p.region.bytes p.first i.free in
    let long : length c.args.self.now ≡ p.frames = ap length (sym c.self.view_is) ∙ length-frames_of p.frames p.region.bytes (free_frames p) in
    let few : length (free_frames p) ≤ p.frames = no_more_free p.frames (free_frames p) i.free in
    record {
      free = rw (← c.self.view_is) (sym free);
      within = omega (arith, long, few, length-free_list p.frames p.touched p.chained p.region.bytes p.first);
    }

pub overflow_add-result : goal.overflow_add-result
overflow_add-result c =
    let p = c.self.inside in let i = c.self.invariant in
    omega (arith, i.few, no_more_free p.frames (free_frames p) i.free, length-free_list p.frames p.touched p.chained p.region.bytes p.first)
