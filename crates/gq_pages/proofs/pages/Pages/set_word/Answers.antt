use Rattle.std.proofs.Common.{◌+◌, ◌*◌, ◌≤◌, ℕ, List, length, arith, sym, ap, ◌∙◌}
use Rattle.gq_pages.specs.internal.Pages.{free_frames}
use Rattle.gq_pages.specs.Frame_map.{count_free}
use Rattle.std.specs.Int.{w32, to_le_bytes}
use Rattle.gq_pages.specs.Frame_bytes.{with_bytes}
use Rattle.gq_pages.proofs.Frame_number_lists.{is_taken_says}
use Rattle.gq_pages.proofs.Region_frame_bytes.{length-with_bytes, page-with_bytes_same, page-with_bytes_other}
use Rattle.gq_pages.proofs.Free_frame_list.{outside, writes, count_free-free_list}
use Rattle.gq_pages.proofs.pages.Pages.set_word.Goals as goal

pub set_word-requires : goal.set_word-requires
set_word-requires c =
    let p = c.self.inside in let i = c.self.invariant in let k = c.args.frame.0 in let bs = p.region.bytes in
    let t = is_taken_says p.frames bs (free_frames p) k (rw c.self.view_is c.requires.0) in
    let out = outside p.frames p.touched p.chained bs p.first k t.0 t.1 in
    omega (arith, out.0, i.size)

pub invariant_of-self : goal.invariant_of-self
invariant_of-self c =
    let p = c.self.inside in let i = c.self.invariant in let k = c.args.frame.0 in let bs = p.region.bytes in
    let t = is_taken_says p.frames bs (free_frames p) k (rw c.self.view_is c.requires.0) in
    let out = outside p.frames p.touched p.chained bs p.first k t.0 t.1 in
    let o = c.args.offset in let ws : List ℕ = to_le_bytes w32 c.args.word in let within : o + length ws ≤ 4096 = omega arith in
    let bs' : List ℕ = with_bytes bs (k * 4096 + o) ws in
    let done = writes p.frames p.touched p.chained bs bs' p.first k _ t.0 t.1 (page-with_bytes_same bs k o ws within
    ∙ ap (λ (ys : List ℕ). with_bytes ys o ws) (sym t.2)) (λ j other. page-with_bytes_other bs k o ws j within other) in
    rw c.set_word.ensures.bytes (record {
      few = i.few;
      touched = i.touched;
      room = c.set_word.ensures.size ∙ i.room;
      size = length-with_bytes bs (k * 4096 + o) ws ∙ i.size;
      links = done.1 i.links;
      free = done.2 i.free;
    })

pub returns : goal.returns
returns c =
    let p = c.self.inside in let i = c.self.invariant in let k = c.args.frame.0 in let bs = p.region.bytes in
    let t = is_taken_says p.frames bs (free_frames p) k (rw c.self.view_is c.requires.0) in
    let out = outside p.frames p.touched p.chained bs p.first k t.0 t.1 in
    let o = c.args.offset in let ws : List ℕ = to_le_bytes w32 c.args.word in let within : o + length ws ≤ 4096 = omega arith in
    let bs' : List ℕ = with_bytes bs (k * 4096 + o) ws in
    let done = writes p.frames p.touched p.chained bs bs' p.first k _ t.0 t.1 (page-with_bytes_same bs k o ws within
    ∙ ap (λ (ys : List ℕ). with_bytes ys o ws) (sym t.2)) (λ j other. page-with_bytes_other bs k o ws j within other) in
    record {
      written = rw (c.set_word.ensures.bytes, ← c.self.view_is) done.0;
      as_many = rw (c.set_word.ensures.bytes) (count_free-free_list p.frames p.touched p.chained bs' p.first (done.2 i.free)
          ∙ sym (count_free-free_list p.frames p.touched p.chained bs p.first i.free) ∙ ap count_free c.self.view_is);
    }
