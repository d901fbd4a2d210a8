use Rattle.std.proofs.Common.{◌≡◌, ◌*◌, ◌<◌, ◌++◌, ◌∷◌, [], ℕ, List, Some, length, set, arith, sym, ap, subst, ◌∙◌, length-append, length-set}
use Rattle.gq_pages.specs.Frame_bytes.{zeros}
use Rattle.gq_pages.specs.Frame_map.{zero_frame}
use Rattle.gq_dataspace.specs.internal.Frame_lists.{list_at}
use Rattle.gq_dataspace.specs.Dataspaces.{Dataspaces, IsLive, content_of}
use Rattle.gq_dataspace.specs.internal.Spaces_fields.{spaces_in}
use Rattle.gq_dataspace.proofs.Dataspace_link_tables.{at_some}
use Rattle.gq_dataspace.proofs.Dataspace_call_effects.{live_some, content_at, length-content, new_of, grows, whole_grown, short_set}
use Rattle.gq_dataspace.proofs.Disjoint_frame_lists.{IsNew, apart_grown, own_some}
use Rattle.gq_dataspace.proofs.spaces.Spaces.extend.Goals as goal

pub push-requires-clause-there : goal.push-requires-clause-there
push-requires-clause-there c =
    let s = c.self.inside in let r = c.args.ds.0 in
    at_some s.table r (live_some s.pages s.table r (subst (λ (d : Dataspaces). IsLive d.spaces r) (sym c.self.view_is) c.requires.live))

pub push-requires-clause-few : goal.push-requires-clause-few
push-requires-clause-few c = omega (arith, c.self.invariant.short c.args.ds.0)

pub push-requires-clause-own : goal.push-requires-clause-own
push-requires-clause-own c =
    let s = c.self.inside in let r = c.args.ds.0 in
    own_some s.table r c.self.invariant.apart (live_some s.pages s.table r (subst (λ (d : Dataspaces). IsLive d.spaces r) (sym c.self.view_is) c.requires.live))

pub invariant_of-self : goal.invariant_of-self
invariant_of-self c =
    let s = c.self.inside in let r = c.args.ds.0 in let i = c.self.invariant in let f = c.next_frame-frame.result.0 in
    let some : 0 < length (list_at s.table r) = live_some s.pages s.table r (subst (λ (d : Dataspaces). IsLive d.spaces r) (sym c.self.view_is) c.requires.live)
    in
    let lt : r < length s.table = at_some s.table r some in let free = c.next_frame-frame.ensures.was_free in
    let new : IsNew s.table f = new_of s.pages s.table f i.whole free.1 in
    let long : length (content_of c.args.self.now.spaces r) ≡ 4096 * length (list_at s.table r) = ap (λ (d : Dataspaces). length (content_of d.spaces r))
    (sym c.self.view_is) ∙ length-content s.pages s.table r in
    let same : length (set s.pages f (Some zero_frame)) ≡ length s.pages = length-set s.pages f (Some zero_frame) in
    rw (c.next_frame-frame.ensures.cleared, c.push.ensures) (record {
      same = length-set s.table r (list_at s.table r ++ f ∷ []) ∙ i.same ∙ sym same;
      few = rw same i.few;
      short = short_set s.table r 16384 (list_at s.table r ++ f ∷ []) i.short (omega (arith, long, c.requires.few, length-append (list_at s.table r) (f ∷ [])));
      whole = whole_grown s.pages s.table r f i.whole lt free.0 new;
      apart = apart_grown s.table r f i.apart lt new (λ (e : 0 ≡ length (list_at s.table r)). absurd (omega (arith, e, some)));
    })

pub returns-clause-longer : goal.returns-clause-longer
returns-clause-longer c =
    let s = c.self.inside in let r = c.args.ds.0 in let i = c.self.invariant in let f = c.next_frame-frame.result.0 in
    let some : 0 < length (list_at s.table r) = live_some s.pages s.table r (subst (λ (d : Dataspaces). IsLive d.spaces r) (sym c.self.view_is) c.requires.live)
    in
    let lt : r < length s.table = at_some s.table r some in let free = c.next_frame-frame.ensures.was_free in
    let new : IsNew s.table f = new_of s.pages s.table f i.whole free.1 in
    let now : spaces_in c.next_frame-frame.new.pages c.push.new.self ≡ spaces_in (set s.pages f (Some zero_frame))
    (set s.table r (list_at s.table r ++ f ∷ [])) = (λ k. spaces_in (c.next_frame-frame.ensures.cleared k) (c.push.ensures k)) in
    now ∙ grows s.pages s.table r f lt free.0 new ∙ ap (λ (bs : List ℕ). set (spaces_in s.pages s.table) r (Some (bs ++ zeros 4096)))
    (sym (content_at s.pages s.table r))
    ∙ ap (λ (d : Dataspaces). set d.spaces r (Some (content_of d.spaces r ++ zeros 4096))) c.self.view_is
