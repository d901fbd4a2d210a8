use Rattle.std.proofs.Common.{◌+◌, ◌*◌, ℕ, List, set, arith, sym, ap, ◌∙◌, length-set}
use Rattle.gq_pages.specs.internal.Pages.{free_frames}
use Rattle.gq_pages.specs.Frame_map.{count_free}
use Rattle.gq_pages.proofs.Frame_number_lists.{is_taken_says}
use Rattle.gq_pages.proofs.Region_frame_bytes.{page-set_same, page-set_other}
use Rattle.gq_pages.proofs.Free_frame_list.{outside, writes, count_free-free_list}
use Rattle.gq_pages.proofs.pages.Pages.set_byte.Goals as goal

pub set_byte-requires : goal.set_byte-requires
set_byte-requires c =
    let p = c.self.inside in let i = c.self.invariant in let k = c.args.frame.0 in let bs = p.region.bytes in
    let t = is_taken_says p.frames bs (free_frames p) k (rw c.self.view_is c.requires.0) in
    let out = outside p.frames p.touched p.chained bs p.first k t.0 t.1 in
    omega (arith, out.0, i.size)

pub invariant_of-self : goal.invariant_of-self
invariant_of-self c =
    let p = c.self.inside in let i = c.self.invariant in let k = c.args.frame.0 in let bs = p.region.bytes in
    let t = is_taken_says p.frames bs (free_frames p) k (rw c.self.view_is c.requires.0) in
    let out = outside p.frames p.touched p.chained bs p.first k t.0 t.1 in
    let o = c.args.offset in let x = c.args.byte in
    let bs' : List ℕ = set bs (k * 4096 + o) x in
    let done = writes p.frames p.touched p.chained bs bs' p.first k _ t.0 t.1 (page-set_same bs k o x c.requires.1 ∙ ap (λ (ys : List ℕ). set ys o x) (sym t.2))
    (λ j other. page-set_other bs k o x j c.requires.1 other) in
    rw c.set_byte.ensures.bytes (record {
      few = i.few;
      touched = i.touched;
      room = c.set_byte.ensures.size ∙ i.room;
      size = length-set bs (k * 4096 + o) x
          ∙ i.size;
      links = done.1 i.links;
      free = done.2 i.free;
    })

pub returns : goal.returns
returns c =
    let p = c.self.inside in let i = c.self.invariant in let k = c.args.frame.0 in let bs = p.region.bytes in
    let t = is_taken_says p.frames bs (free_frames p) k (rw c.self.view_is c.requires.0) in
    let out = outside p.frames p.touched p.chained bs p.first k t.0 t.1 in
    let o = c.args.offset in let x = c.args.byte in
    let bs' : List ℕ = set bs (k * 4096 + o) x in
    let done = writes p.frames p.touched p.chained bs bs' p.first k _ t.0 t.1 (page-set_same bs k o x c.requires.1 ∙ ap (λ (ys : List ℕ). set ys o x) (sym t.2))
    (λ j other. page-set_other bs k o x j c.requires.1 other) in
    record {
      written = rw (c.set_byte.ensures.bytes, ← c.self.view_is) done.0;
      as_many = rw (c.set_byte.ensures.bytes) (count_free-free_list p.frames p.touched p.chained bs' p.first (done.2 i.free)
          ∙ sym (count_free-free_list p.frames p.touched p.chained bs p.first i.free) ∙ ap count_free c.self.view_is);
    }
