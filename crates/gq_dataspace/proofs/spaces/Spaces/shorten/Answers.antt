use Rattle.std.proofs.Common.{◌≡◌, ◌<◌, ◌++◌, ◌∷◌, [], ℕ, List, None, length, set, slice_index, arith, refl, sym, ap, subst, ◌∙◌, length-append, length-set}
use Rattle.std.proofs.lemmas.List.{get_or_at}
use Rattle.gq_pages.specs.Frame_map.{bytes_of}
use Rattle.gq_dataspace.specs.internal.Frame_lists.{list_at}
use Rattle.gq_dataspace.specs.Dataspaces.{Dataspaces, IsLive, content_of, shorter}
use Rattle.gq_dataspace.specs.internal.Spaces_fields.{spaces_in}
use Rattle.gq_dataspace.proofs.Dataspace_link_tables.{at_some}
use Rattle.gq_dataspace.proofs.Dataspace_call_effects.{live_some, content_at, shrinks, whole_shrunk, short_set}
use Rattle.gq_dataspace.proofs.Disjoint_frame_lists.{apart_shrunk}
use Rattle.gq_dataspace.proofs.Frame_list_bytes.{is_taken}
use Rattle.gq_dataspace.proofs.spaces.Spaces.shorten.Goals as goal

pub pop-frame-requires : goal.pop-frame-requires
pop-frame-requires c =
    let s = c.self.inside in let r = c.args.ds.0 in
    live_some s.pages s.table r (subst (λ (d : Dataspaces). IsLive d.spaces r) (sym c.self.view_is) c.requires)

pub give-requires : goal.give-requires
give-requires c =
    let s = c.self.inside in let r = c.args.ds.0 in let f = c.pop-frame.result in let ys : List ℕ = list_at c.pop-frame.new.self r in let n : ℕ = length ys in
    let was : list_at s.table r ≡ ys ++ f ∷ [] = c.pop-frame.ensures.last in
    let last : slice_index (list_at s.table r) n ≡ f = ap (λ (zs : List ℕ). slice_index zs n) was ∙ get_or_at ys f [] 0 n refl in
    let whole : length (bytes_of s.pages f) ≡ 4096 = ap (λ (x : ℕ). length (bytes_of s.pages x)) (sym last)
    ∙ c.self.invariant.whole r n (omega (arith, ap length was, length-append ys (f ∷ []))) in
    is_taken s.pages f whole

pub invariant_of-self : goal.invariant_of-self
invariant_of-self c =
    let s = c.self.inside in let r = c.args.ds.0 in let f = c.pop-frame.result in let ys : List ℕ = list_at c.pop-frame.new.self r in
    let i = c.self.invariant in
    let was : list_at s.table r ≡ ys ++ f ∷ [] = c.pop-frame.ensures.last in
    let lt : r < length s.table = at_some s.table r (omega (arith, ap length was, length-append ys (f ∷ []))) in
    let same : length (set s.pages f None) ≡ length s.pages = length-set s.pages f None in
    rw (c.give.ensures.freed, c.pop-frame.ensures.alone) (record {
      same = length-set s.table r ys ∙ i.same ∙ sym same;
      few = rw same i.few;
      short = short_set s.table r 16384 ys i.short (omega (arith, i.short r, ap length was, length-append ys (f ∷ [])));
      whole = whole_shrunk s.pages s.table r f ys i.whole i.apart lt was;
      apart = apart_shrunk s.table r f ys i.apart lt was;
    })

pub returns-clause-shorter : goal.returns-clause-shorter
returns-clause-shorter c =
    let s = c.self.inside in let r = c.args.ds.0 in let f = c.pop-frame.result in let ys : List ℕ = list_at c.pop-frame.new.self r in
    let i = c.self.invariant in
    let was : list_at s.table r ≡ ys ++ f ∷ [] = c.pop-frame.ensures.last in
    let lt : r < length s.table = at_some s.table r (omega (arith, ap length was, length-append ys (f ∷ []))) in
    let e : spaces_in (set s.pages f None) (set s.table r ys) ≡ set (spaces_in s.pages s.table) r (shorter (content_of (spaces_in s.pages s.table) r)) =
    shrinks s.pages s.table r f ys i.apart lt was ∙ ap (λ (bs : List ℕ). set (spaces_in s.pages s.table) r (shorter bs)) (sym (content_at s.pages s.table r)) in
    let now : spaces_in c.give.new.self c.pop-frame.new.self ≡ spaces_in (set s.pages f None) (set s.table r ys) =
    (λ k. spaces_in (c.give.ensures.freed k) (c.pop-frame.ensures.alone k)) in
    now ∙ e ∙ ap (λ (d : Dataspaces). set d.spaces r (shorter (content_of d.spaces r))) c.self.view_is
