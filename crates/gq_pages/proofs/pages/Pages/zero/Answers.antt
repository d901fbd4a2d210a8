use Rattle.std.proofs.Common.{◌+◌, ◌*◌, ◌≤◌, ℕ, List, length, arith, sym, ap, ◌∙◌}
use Rattle.gq_pages.specs.internal.Pages.{free_frames}
use Rattle.gq_pages.specs.Frame_map.{count_free}
use Rattle.gq_pages.specs.Frame_bytes.{zeroed}
use Rattle.gq_pages.proofs.Frame_number_lists.{is_taken_says}
use Rattle.gq_pages.proofs.Region_frame_bytes.{page-zeroed_same, page-zeroed_other}
use Rattle.gq_pages.proofs.Zeroed_byte_runs.{length-zeroed}
use Rattle.gq_pages.proofs.Free_frame_list.{outside, writes, count_free-free_list}
use Rattle.gq_pages.proofs.pages.Pages.zero.Goals as goal

pub zero-requires : goal.zero-requires
zero-requires c =
    let p = c.self.inside in let i = c.self.invariant in let k = c.args.frame.0 in let bs = p.region.bytes in
    let t = is_taken_says p.frames bs (free_frames p) k (rw c.self.view_is c.requires) in let out = outside p.frames p.touched p.chained bs p.first k t.0 t.1 in
    omega (arith, out.0, i.size)

pub invariant_of-self : goal.invariant_of-self
invariant_of-self c =
    let p = c.self.inside in let i = c.self.invariant in let k = c.args.frame.0 in let bs = p.region.bytes in
    let t = is_taken_says p.frames bs (free_frames p) k (rw c.self.view_is c.requires) in let out = outside p.frames p.touched p.chained bs p.first k t.0 t.1 in
    let within : k * 4096 + 4096 ≤ length bs = omega (arith, out.0, i.size) in
    let bs' : List ℕ = zeroed bs (k * 4096) 4096 in
    let done = writes p.frames p.touched p.chained bs bs' p.first k _ t.0 t.1 (page-zeroed_same bs k within) (λ j other. page-zeroed_other bs k j within other)
    in
    rw c.zero.ensures.bytes (record {
      few = i.few;
      touched = i.touched;
      room = c.zero.ensures.size ∙ i.room;
      size = length-zeroed bs (k * 4096) 4096 within
          ∙ i.size;
      links = done.1 i.links;
      free = done.2 i.free;
    })

pub returns : goal.returns
returns c =
    let p = c.self.inside in let i = c.self.invariant in let k = c.args.frame.0 in let bs = p.region.bytes in
    let t = is_taken_says p.frames bs (free_frames p) k (rw c.self.view_is c.requires) in let out = outside p.frames p.touched p.chained bs p.first k t.0 t.1 in
    let within : k * 4096 + 4096 ≤ length bs = omega (arith, out.0, i.size) in
    let bs' : List ℕ = zeroed bs (k * 4096) 4096 in
    let done = writes p.frames p.touched p.chained bs bs' p.first k _ t.0 t.1 (page-zeroed_same bs k within) (λ j other. page-zeroed_other bs k j within other)
    in
    record {
      cleared = rw (c.zero.ensures.bytes, ← c.self.view_is) done.0;
      as_many = rw (c.zero.ensures.bytes) (count_free-free_list p.frames p.touched p.chained bs' p.first (done.2 i.free)
          ∙ sym (count_free-free_list p.frames p.touched p.chained bs p.first i.free) ∙ ap count_free c.self.view_is);
    }
