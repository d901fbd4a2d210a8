use Rattle.std.proofs.Common.{◌≡◌, suc, ◌+◌, ◌-◌, ◌*◌, ◌<◌, ℕ, List, length, set, arith, sym, ap, subst, ◌∙◌}
use Rattle.gq_dataspace.specs.internal.Frame_lists.{list_at}
use Rattle.gq_dataspace.specs.Dataspaces.{Contents, Dataspaces, IsLive, content_of, shorter}
use Rattle.gq_dataspace.proofs.Dataspace_link_tables.{at_some}
use Rattle.gq_dataspace.proofs.Dataspace_call_effects.{length-content, live_some}
use Rattle.gq_dataspace.proofs.Repeated_dataspace_sets.{first_pages, all_pages, page_fewer, live_there}
use Rattle.gq_dataspace.proofs.spaces.Spaces.destroy.Goals as goal

pub count-count-requires : goal.count-count-requires
count-count-requires c =
    let s = c.self.inside in let r = c.args.ds.0 in
    at_some s.table r (live_some s.pages s.table r (subst (λ (d : Dataspaces). IsLive d.spaces r) (sym c.self.view_is) c.requires))

pub loop-page-init : goal.loop-page-init
loop-page-init c =
    let s = c.self.inside in let r = c.args.ds.0 in let n = c.count-count.result in
    let some : 0 < length (list_at s.table r) = live_some s.pages s.table r (subst (λ (d : Dataspaces). IsLive d.spaces r) (sym c.self.view_is) c.requires) in
    let long : length (content_of c.args.self.now.spaces r) ≡ 4096 * length (list_at s.table r) = ap (λ (d : Dataspaces). length (content_of d.spaces r))
    (sym c.self.view_is) ∙ length-content s.pages s.table r in
    let e : n - 0 ≡ n = omega arith in
    record {
      left = rw e (sym (all_pages c.args.self.now.spaces r n c.requires (omega (arith, some, c.count-count.ensures))
          (omega (arith, long, c.count-count.ensures))));
      given = omega arith;
    }

pub loop-page-preserved : goal.loop-page-preserved
loop-page-preserved c =
    let s = c.self.inside in let r = c.args.ds.0 in let n = c.count-count.result in let l = c.loop-page in
    let bs : List ℕ = content_of c.args.self.now.spaces r in
    let long : length bs ≡ 4096 * length (list_at s.table r) = ap (λ (d : Dataspaces). length (content_of d.spaces r)) (sym c.self.view_is)
    ∙ length-content s.pages s.table r in
    let m : ℕ = n - (l._page + 1) in let e : n - l._page ≡ suc m = omega (arith, c.loop-page-test.true) in
    let was : l.self.spaces ≡ set c.args.self.now.spaces r (first_pages bs (suc m)) = l.invariant.left
    ∙ ap (λ (k : ℕ). set c.args.self.now.spaces r (first_pages bs k)) e in
    record {
      left = c.shorten.ensures.shorter ∙ ap (λ (ss : Contents). set ss r (shorter (content_of ss r))) was
          ∙ page_fewer c.args.self.now.spaces r m bs (live_there c.args.self.now.spaces r c.requires)
          (omega (arith, long, c.count-count.ensures, c.loop-page-test.true));
      given = omega (arith, l.invariant.given, c.shorten.ensures.one_more);
    }

pub returns : goal.returns
returns c =
    let s = c.self.inside in let r = c.args.ds.0 in let n = c.count-count.result in let l = c.loop-page in
    let bs : List ℕ = content_of c.args.self.now.spaces r in
    let long : length bs ≡ 4096 * length (list_at s.table r) = ap (λ (d : Dataspaces). length (content_of d.spaces r)) (sym c.self.view_is)
    ∙ length-content s.pages s.table r in
    let all : l._page ≡ n = omega (arith, c.loop-page-test.false, l.auto._page-end) in let z : n - l._page ≡ 0 = omega (arith, all) in
    record {
      gone = l.invariant.left ∙ ap (λ (k : ℕ). set c.args.self.now.spaces r (first_pages bs k)) z;
      given = omega (arith, l.invariant.given, long, c.count-count.ensures, all);
    }
