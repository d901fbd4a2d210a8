use Rattle.std.proofs.Common.{◌≡◌, ◌<◌, ◌++◌, ◌∷◌, [], ℕ, List, Some, length, set, arith, refl, sym, ap, subst, ◌∙◌, length-append, length-set}
use Rattle.gq_pages.specs.Frame_bytes.{zeros}
use Rattle.gq_pages.specs.Frame_map.{zero_frame}
use Rattle.gq_dataspace.specs.internal.Frame_lists.{list_at}
use Rattle.gq_dataspace.specs.Dataspaces.{Dataspaces, IsVacant}
use Rattle.gq_dataspace.specs.internal.Spaces_fields.{bytes_in, space_in, spaces_in}
use Rattle.gq_dataspace.proofs.Dataspace_call_effects.{length-spaces_in, space_at, new_of, grows, whole_grown, short_set, no_bytes}
use Rattle.gq_dataspace.proofs.Disjoint_frame_lists.{IsNew, apart_grown, none_of}
use Rattle.gq_dataspace.proofs.spaces.Spaces.begin.Goals as goal

pub invariant_of-self : goal.invariant_of-self
invariant_of-self c =
    let s = c.self.inside in let i = c.self.invariant in let f = c.next_frame-frame.result.0 in let free = c.next_frame-frame.ensures.was_free in
    let new : IsNew s.table f = new_of s.pages s.table f i.whole free.1 in let none : list_at s.table f ≡ [] = none_of s.table f i.apart new in
    let lt : f < length s.table = omega (arith, i.same, free.0) in
    let same : length (set s.pages f (Some zero_frame)) ≡ length s.pages = length-set s.pages f (Some zero_frame) in
    rw (c.next_frame-frame.ensures.cleared, c.push.ensures) (record {
      same = length-set s.table f (list_at s.table f ++ f ∷ []) ∙ i.same ∙ sym same;
      few = rw same i.few;
      short = short_set s.table f 16384 (list_at s.table f ++ f ∷ []) i.short (omega (arith, ap length none, length-append (list_at s.table f) (f ∷ [])));
      whole = whole_grown s.pages s.table f f i.whole lt free.0 new;
      apart = apart_grown s.table f f i.apart lt new (λ (e : 0 ≡ length (list_at s.table f)). refl);
    })

pub returns-clause-was_vacant : goal.returns-clause-was_vacant
returns-clause-was_vacant c =
    let s = c.self.inside in let i = c.self.invariant in let f = c.next_frame-frame.result.0 in let free = c.next_frame-frame.ensures.was_free in
    let new : IsNew s.table f = new_of s.pages s.table f i.whole free.1 in let none : list_at s.table f ≡ [] = none_of s.table f i.apart new in
    subst (λ (d : Dataspaces). IsVacant d.spaces f) c.self.view_is (
      omega (arith, length-spaces_in s.pages s.table, i.same, free.0),
      space_at s.pages s.table f
          ∙ ap (space_in s.pages) none,
    )

pub returns-clause-made : goal.returns-clause-made
returns-clause-made c =
    let s = c.self.inside in let i = c.self.invariant in let f = c.next_frame-frame.result.0 in let free = c.next_frame-frame.ensures.was_free in
    let new : IsNew s.table f = new_of s.pages s.table f i.whole free.1 in let none : list_at s.table f ≡ [] = none_of s.table f i.apart new in
    let lt : f < length s.table = omega (arith, i.same, free.0) in
    let now : spaces_in c.next_frame-frame.new.pages c.push.new.self ≡ spaces_in (set s.pages f (Some zero_frame))
    (set s.table f (list_at s.table f ++ f ∷ [])) = (λ k. spaces_in (c.next_frame-frame.ensures.cleared k) (c.push.ensures k)) in
    now ∙ grows s.pages s.table f f lt free.0 new ∙ ap (λ (xs : List ℕ). set (spaces_in s.pages s.table) f (Some (bytes_in s.pages xs ++ zeros 4096))) none
    ∙ ap (λ (bs : List ℕ). set (spaces_in s.pages s.table) f (Some (bs ++ zeros 4096))) (no_bytes s.pages)
    ∙ ap (λ (d : Dataspaces). set d.spaces f (Some (zeros 4096))) c.self.view_is
