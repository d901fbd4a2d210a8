use Rattle.std.proofs.Common.{◌≡◌, ◌+◌, ◌-◌, ◌<◌, ℕ, arith, sym, ap, subst, ◌∙◌}
use Rattle.gq_pages.specs.Frame_map.{Frames, IsFree, count_free}
use Rattle.gq_pages.proofs.Frame_number_lists.{none_free}
use Rattle.gq_pages.proofs.Free_frame_list.{count_free-free_list}
use Rattle.gq_pages.proofs.Frame_give_take.{takes_chained, takes_fresh}
use Rattle.gq_pages.proofs.pages.Pages.take.Goals as goal

pub word-next-requires : goal.word-next-requires
word-next-requires c =
    let p = c.self.inside in let i = c.self.invariant in
    let taken = takes_chained p.frames p.touched p.chained p.region.bytes p.first i.size i.links i.free (omega (arith, c.if-self-ne0.true)) in
    omega (arith, i.size, taken.1)

pub zero-requires : goal.zero-requires
zero-requires c =
    let p = c.self.inside in let i = c.self.invariant in
    let taken = takes_chained p.frames p.touched p.chained p.region.bytes p.first i.size i.links i.free (omega (arith, c.if-self-ne0.true)) in
    omega (arith, i.size, taken.1)

pub invariant_of-self : goal.invariant_of-self
invariant_of-self c =
    let p = c.self.inside in let i = c.self.invariant in
    let taken = takes_chained p.frames p.touched p.chained p.region.bytes p.first i.size i.links i.free (omega (arith, c.if-self-ne0.true)) in
    let t = taken.2 in
    rw (c.zero.ensures.bytes, c.word-next.ensures) (record {
      few = i.few;
      touched = i.touched;
      room = c.zero.ensures.size ∙ i.room;
      size = t.size;
      links = t.links;
      free = t.free;
    })

pub returns-then-self-ne0-clause-was_free : goal.returns-then-self-ne0-clause-was_free
returns-then-self-ne0-clause-was_free c =
    let p = c.self.inside in let i = c.self.invariant in
    let taken = takes_chained p.frames p.touched p.chained p.region.bytes p.first i.size i.links i.free (omega (arith, c.if-self-ne0.true)) in
    subst (λ (fs : Frames). IsFree fs (p.first - 1)) c.self.view_is taken.2.was_free

pub returns-then-self-ne0-clause-cleared : goal.returns-then-self-ne0-clause-cleared
returns-then-self-ne0-clause-cleared c =
    let p = c.self.inside in let i = c.self.invariant in
    let taken = takes_chained p.frames p.touched p.chained p.region.bytes p.first i.size i.links i.free (omega (arith, c.if-self-ne0.true)) in
    rw (c.zero.ensures.bytes, c.word-next.ensures, ← c.self.view_is) taken.2.view

pub returns-then-self-ne0-clause-one_fewer : goal.returns-then-self-ne0-clause-one_fewer
returns-then-self-ne0-clause-one_fewer c =
    let p = c.self.inside in let i = c.self.invariant in
    let taken = takes_chained p.frames p.touched p.chained p.region.bytes p.first i.size i.links i.free (omega (arith, c.if-self-ne0.true)) in
    rw (c.zero.ensures.bytes, c.word-next.ensures, ← c.self.view_is)
    (count_free-free_list p.frames p.touched p.chained p.region.bytes p.first i.free ∙ omega (arith, taken.0) ∙ ap (λ (n : ℕ). n + 1) (sym taken.2.count))

-- no frame is chained, and each was handed out
pub returns-then-self-clause-none_free : goal.returns-then-self-clause-none_free
returns-then-self-clause-none_free c =
    let p = c.self.inside in let i = c.self.invariant in
    let none : p.chained ≡ 0 = none_free p.chained p.region.bytes p.first i.links (omega (arith, c.if-self-ne0.false)) in
    rw (← c.self.view_is) (count_free-free_list p.frames p.touched p.chained p.region.bytes p.first i.free ∙ omega (arith, none, c.if-self.true))

pub returns-then-self-clause-succeeds : goal.returns-then-self-clause-succeeds
returns-then-self-clause-succeeds c =
    let p = c.self.inside in let i = c.self.invariant in
    let none : p.chained ≡ 0 = none_free p.chained p.region.bytes p.first i.links (omega (arith, c.if-self-ne0.false)) in
    let count : count_free c.args.self.now ≡ 0 = rw (← c.self.view_is) (count_free-free_list p.frames p.touched p.chained p.region.bytes p.first i.free
    ∙ omega (arith, none, c.if-self.true)) in
    λ h. absurd (omega (arith, count, h))

pub invariant_of-self-2 : goal.invariant_of-self-2
invariant_of-self-2 c =
    let p = c.self.inside in let i = c.self.invariant in
    let some : p.touched < p.frames = omega (arith, i.touched, c.if-self.false) in
    let t = takes_fresh p.frames p.touched p.chained p.region.bytes p.first i.size some i.links i.free in
    rw c.extend.ensures.bytes (record {
      few = i.few;
      touched = omega arith;
      room = c.extend.ensures.size ∙ i.room;
      size = t.size;
      links = t.links;
      free = t.free;
    })

pub returns-clause-was_free : goal.returns-clause-was_free
returns-clause-was_free c =
    let p = c.self.inside in let i = c.self.invariant in
    let some : p.touched < p.frames = omega (arith, i.touched, c.if-self.false) in
    let t = takes_fresh p.frames p.touched p.chained p.region.bytes p.first i.size some i.links i.free in
    subst (λ (fs : Frames). IsFree fs p.touched) c.self.view_is t.was_free

pub returns-clause-cleared : goal.returns-clause-cleared
returns-clause-cleared c =
    let p = c.self.inside in let i = c.self.invariant in
    let some : p.touched < p.frames = omega (arith, i.touched, c.if-self.false) in
    let t = takes_fresh p.frames p.touched p.chained p.region.bytes p.first i.size some i.links i.free in
    rw (c.extend.ensures.bytes, ← c.self.view_is) t.view

pub returns-clause-one_fewer : goal.returns-clause-one_fewer
returns-clause-one_fewer c =
    let p = c.self.inside in let i = c.self.invariant in
    let some : p.touched < p.frames = omega (arith, i.touched, c.if-self.false) in
    let t = takes_fresh p.frames p.touched p.chained p.region.bytes p.first i.size some i.links i.free in
    rw (c.extend.ensures.bytes, ← c.self.view_is) (count_free-free_list p.frames p.touched p.chained p.region.bytes p.first i.free ∙ omega arith
    ∙ ap (λ (n : ℕ). n + 1) (sym t.count))
