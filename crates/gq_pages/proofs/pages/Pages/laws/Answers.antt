use Rattle.std.proofs.Common.{ℕ, List, length, min, arith, sym, ap, ◌∙◌, ◌≡◌, ◌-◌, ◌*◌}
use Rattle.gq_pages.specs.Frame_map.{Frames, bytes_of}
use Rattle.gq_pages.specs.internal.Pages.{free_frames}
use Rattle.gq_pages.proofs.Frame_number_lists.{is_taken_says}
use Rattle.gq_pages.proofs.Free_frame_list.{outside}
use Rattle.gq_pages.proofs.Region_frame_bytes.{length-page}
use Rattle.gq_pages.proofs.pages.Pages.laws.Goals as goal

pub returns : goal.returns
returns c = λ k taken.
    let p = c.self.inside in let bs = p.region.bytes in let free = free_frames p in
    let t = is_taken_says p.frames bs free k (rw c.self.view_is taken) in
    let out = outside p.frames p.touched p.chained bs p.first k t.0 t.1 in
    let whole : min 4096 (length bs - k * 4096) ≡ 4096 = omega (arith, out.0, c.self.invariant.size) in
    sym (ap (λ (fs : Frames). length (bytes_of fs k)) c.self.view_is) ∙ ap length t.2 ∙ length-page bs k ∙ whole
