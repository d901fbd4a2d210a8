use Rattle.std.proofs.Common.{ℕ, List, get_or, arith, sym, ap, ◌∙◌}
use Rattle.gq_pages.specs.Frame_map.{Frames, bytes_of}
use Rattle.gq_pages.specs.internal.Pages.{free_frames}
use Rattle.gq_pages.proofs.Frame_number_lists.{is_taken_says}
use Rattle.gq_pages.proofs.Free_frame_list.{outside}
use Rattle.gq_pages.proofs.Region_frame_bytes.{get_or-page}
use Rattle.gq_pages.proofs.pages.Pages.byte.Goals as goal

pub byte-requires : goal.byte-requires
byte-requires c =
    let p = c.self.inside in let k = c.args.frame.0 in let bs = p.region.bytes in let free = free_frames p in
    let t = is_taken_says p.frames bs free k (rw c.self.view_is c.requires.0) in
    let out = outside p.frames p.touched p.chained bs p.first k t.0 t.1 in
    omega (arith, out.0, c.self.invariant.size)

pub returns : goal.returns
returns c =
    let p = c.self.inside in let k = c.args.frame.0 in let bs = p.region.bytes in let free = free_frames p in
    let t = is_taken_says p.frames bs free k (rw c.self.view_is c.requires.0) in
    c.byte.ensures ∙ sym (get_or-page bs k c.args.offset c.requires.1) ∙ ap (λ (xs : List ℕ). get_or xs c.args.offset 0) (sym t.2
    ∙ ap (λ (fs : Frames). bytes_of fs k) c.self.view_is)
