use Rattle.std.proofs.Common.{ℕ, List, arith, sym, ap, ◌∙◌}
use Rattle.gq_pages.specs.Frame_bytes.{word_at}
use Rattle.gq_pages.specs.Frame_map.{Frames, bytes_of}
use Rattle.gq_pages.specs.internal.Pages.{free_frames}
use Rattle.gq_pages.proofs.Frame_number_lists.{is_taken_says}
use Rattle.gq_pages.proofs.Free_frame_list.{outside}
use Rattle.gq_pages.proofs.Region_frame_bytes.{word_at-page}
use Rattle.gq_pages.proofs.pages.Pages.word.Goals as goal

pub word-requires : goal.word-requires
word-requires c =
    let p = c.self.inside in let k = c.args.frame.0 in let bs = p.region.bytes in let free = free_frames p in
    let t = is_taken_says p.frames bs free k (rw c.self.view_is c.requires.0) in
    let out = outside p.frames p.touched p.chained bs p.first k t.0 t.1 in
    omega (arith, out.0, c.self.invariant.size)

pub returns : goal.returns
returns c =
    let p = c.self.inside in let k = c.args.frame.0 in let bs = p.region.bytes in let free = free_frames p in
    let t = is_taken_says p.frames bs free k (rw c.self.view_is c.requires.0) in
    c.word.ensures ∙ word_at-page bs k c.args.offset c.requires.1 ∙ ap (λ (xs : List ℕ). word_at xs c.args.offset) (sym t.2
    ∙ ap (λ (fs : Frames). bytes_of fs k) c.self.view_is)
