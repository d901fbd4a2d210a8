use Rattle.std.proofs.Common.{◌≡◌, ◌*◌, ℕ, length, sym, ap, subst, ◌∙◌}
use Rattle.gq_dataspace.specs.internal.Frame_lists.{list_at}
use Rattle.gq_dataspace.specs.Dataspaces.{Dataspaces, IsLive, content_of}
use Rattle.gq_dataspace.proofs.Dataspace_link_tables.{at_some}
use Rattle.gq_dataspace.proofs.Dataspace_call_effects.{length-content, live_some}
use Rattle.gq_dataspace.proofs.spaces.Spaces.size.Goals as goal

pub count-requires : goal.count-requires
count-requires c =
    let s = c.self.inside in let r = c.args.ds.0 in
    at_some s.table r (live_some s.pages s.table r (subst (λ (d : Dataspaces). IsLive d.spaces r) (sym c.self.view_is) c.requires))

pub returns-clause-bytes : goal.returns-clause-bytes
returns-clause-bytes c =
    let s = c.self.inside in let r = c.args.ds.0 in
    let long : length (content_of c.args.self.now.spaces r) ≡ 4096 * length (list_at s.table r) = ap (λ (d : Dataspaces). length (content_of d.spaces r))
    (sym c.self.view_is) ∙ length-content s.pages s.table r in
    ap (λ (a : ℕ). a * c.from-2.result) c.from.ensures ∙ ap (λ (n : ℕ). 4096 * n) (c.from-2.ensures ∙ c.count.ensures) ∙ sym long
