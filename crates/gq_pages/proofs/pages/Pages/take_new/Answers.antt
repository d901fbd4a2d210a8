use Rattle.std.proofs.Common.{◌+◌, ◌<◌, ℕ, arith, sym, ap, subst, ◌∙◌}
use Rattle.gq_pages.specs.Frame_map.{Frames, IsFree}
use Rattle.gq_pages.proofs.Free_frame_list.{count_free-free_list}
use Rattle.gq_pages.proofs.Frame_give_take.{takes_fresh}
use Rattle.gq_pages.proofs.pages.Pages.take_new.Goals as goal

pub invariant_of-self : goal.invariant_of-self
invariant_of-self c =
    let p = c.self.inside in let i = c.self.invariant in
    let some : p.touched < p.frames = omega (arith, c.if-self.true) in
    let t = takes_fresh p.frames p.touched p.chained p.region.bytes p.first i.size some i.links i.free in
    rw c.extend.ensures.bytes (record {
      few = i.few;
      touched = omega arith;
      room = c.extend.ensures.size ∙ i.room;
      size = t.size;
      links = t.links;
      free = t.free;
    })

pub returns-then-self-clause-was_free : goal.returns-then-self-clause-was_free
returns-then-self-clause-was_free c =
    let p = c.self.inside in let i = c.self.invariant in
    let some : p.touched < p.frames = omega (arith, c.if-self.true) in
    let t = takes_fresh p.frames p.touched p.chained p.region.bytes p.first i.size some i.links i.free in
    subst (λ (fs : Frames). IsFree fs p.touched) c.self.view_is t.was_free

pub returns-then-self-clause-cleared : goal.returns-then-self-clause-cleared
returns-then-self-clause-cleared c =
    let p = c.self.inside in let i = c.self.invariant in
    let some : p.touched < p.frames = omega (arith, c.if-self.true) in
    let t = takes_fresh p.frames p.touched p.chained p.region.bytes p.first i.size some i.links i.free in
    rw (c.extend.ensures.bytes, ← c.self.view_is) t.view

pub returns-then-self-clause-one_fewer : goal.returns-then-self-clause-one_fewer
returns-then-self-clause-one_fewer c =
    let p = c.self.inside in let i = c.self.invariant in
    let some : p.touched < p.frames = omega (arith, c.if-self.true) in
    let t = takes_fresh p.frames p.touched p.chained p.region.bytes p.first i.size some i.links i.free in
    rw (c.extend.ensures.bytes, ← c.self.view_is) (count_free-free_list p.frames p.touched p.chained p.region.bytes p.first i.free ∙ omega arith
    ∙ ap (λ (n : ℕ). n + 1) (sym t.count))
