use Rattle.std.proofs.Common.{◌<◌, ℕ, List, length, ap, sym, subst, ◌∙◌}
use Rattle.gq_verify.specs.Requested.{Requested}
use Rattle.gq_verify.proofs.Summed_section_requests.{requests_put}
use Rattle.gq_program.specs.Name_keys.{AreWithin}
use Rattle.gq_verify.proofs.Service_name_keys.{keys_set}
use Rattle.gq_verify.proofs.asked.RequestCounts.add.Goals as goal

pub invariant_of-self : goal.invariant_of-self
invariant_of-self c =
    let less = subst (λ (l : List Requested). c.in-Some.place < length l) (sym c.self.view_is) c.in-Some.ensures.0 in
    let same = ap (λ (a : Requested). a.service) c.add.ensures ∙ ap (λ (a : Requested). a.service) c.index_mut.ensures.value in
    let kept = keys_set c.self.inside.entries.items c.in-Some.place c.index_mut.result.now c.add.new.self less same in
    subst (λ (l : List ℕ). AreWithin c.self.inside.places l) (sym kept) c.self.invariant

pub returns-in-Some : goal.returns-in-Some
returns-in-Some c = λ v r.
    let d = c.index_mut.result.now in
    requests_put c.args.self.now c.self.inside.entries.items c.in-Some.place d c.add.new.self c.args.service.now c.args.section c.args.count v r
    (sym c.self.view_is) c.in-Some.ensures.0 (c.in-Some.ensures.1 d) c.index_mut.ensures.value c.add.ensures
