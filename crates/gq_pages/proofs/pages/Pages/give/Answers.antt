use Rattle.std.proofs.Common.{◌≡◌, suc, ◌+◌, ℕ, arith, sym, ap, ◌∙◌}
use Rattle.gq_pages.specs.Frame_map.{count_free}
use Rattle.gq_pages.specs.internal.Pages.{free_frames}
use Rattle.gq_pages.proofs.Frame_number_lists.{is_taken_says, fewer_free}
use Rattle.gq_pages.proofs.Free_frame_list.{outside, length-free_list, count_free-free_list}
use Rattle.gq_pages.proofs.Frame_give_take.{gives}
use Rattle.gq_pages.proofs.pages.Pages.give.Goals as goal

pub set_word-requires : goal.set_word-requires
set_word-requires c =
    let p = c.self.inside in let i = c.self.invariant in let k = c.args.frame.0 in let bs = p.region.bytes in
    let t = is_taken_says p.frames bs (free_frames p) k (rw c.self.view_is c.requires) in let out = outside p.frames p.touched p.chained bs p.first k t.0 t.1 in
    omega (arith, out.0, i.size)

pub overflow_add-self : goal.overflow_add-self
overflow_add-self c =
    let p = c.self.inside in let i = c.self.invariant in let k = c.args.frame.0 in let bs = p.region.bytes in
    let t = is_taken_says p.frames bs (free_frames p) k (rw c.self.view_is c.requires) in
    omega (arith, t.0, i.few)

pub overflow_add-self-2 : goal.overflow_add-self-2
overflow_add-self-2 c =
    let p = c.self.inside in let i = c.self.invariant in let k = c.args.frame.0 in let bs = p.region.bytes in
    let t = is_taken_says p.frames bs (free_frames p) k (rw c.self.view_is c.requires) in
    omega (arith, fewer_free p.frames (free_frames p) k i.free t.0 t.1, length-free_list p.frames p.touched p.chained bs p.first, i.few)

pub invariant_of-self : goal.invariant_of-self
invariant_of-self c =
    let p = c.self.inside in let i = c.self.invariant in let k = c.args.frame.0 in let bs = p.region.bytes in
    let t = is_taken_says p.frames bs (free_frames p) k (rw c.self.view_is c.requires) in let out = outside p.frames p.touched p.chained bs p.first k t.0 t.1 in
    let given = gives p.frames p.touched p.chained bs p.first k i.few i.size i.links i.free t.0 out.0 t.1 in
    let m : p.chained + 1 ≡ suc p.chained = omega arith in
    rw (c.set_word.ensures.bytes, m) (record {
      few = i.few;
      touched = i.touched;
      room = c.set_word.ensures.size ∙ i.room;
      size = given.size;
      links = given.links;
      free = given.free;
    })

pub returns : goal.returns
returns c =
    let p = c.self.inside in let i = c.self.invariant in let k = c.args.frame.0 in let bs = p.region.bytes in
    let t = is_taken_says p.frames bs (free_frames p) k (rw c.self.view_is c.requires) in let out = outside p.frames p.touched p.chained bs p.first k t.0 t.1 in
    let given = gives p.frames p.touched p.chained bs p.first k i.few i.size i.links i.free t.0 out.0 t.1 in
    let m : p.chained + 1 ≡ suc p.chained = omega arith in
    record {
      freed = rw (c.set_word.ensures.bytes, m, ← c.self.view_is) given.view;
      one_more = rw (c.set_word.ensures.bytes, m) (given.count
          ∙ ap (λ (n : ℕ). n + 1) (sym (count_free-free_list p.frames p.touched p.chained bs p.first i.free) ∙ ap count_free c.self.view_is));
    }
