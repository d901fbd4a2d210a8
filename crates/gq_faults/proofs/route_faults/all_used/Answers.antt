use Rattle.std.proofs.Common.{◌∙◌, ℕ, List, ap}
use Rattle.gq_model.specs.rules.Use.{services}
use Rattle.gq_resolve.specs.Served.{server_among}
use Rattle.gq_resolve.proofs.Matching_list_items.{same_item}
use Rattle.gq_faults.specs.Found_lists.{all_found, listed_if}
use Rattle.gq_faults.specs.Uses.{used_of}
use Rattle.gq_faults.proofs.Appended_faults.{all_there}
use Rattle.gq_faults.proofs.Cyclic_leaf_list.{used_next, used_end}
use Rattle.gq_faults.proofs.route_faults.all_used.Goals as goal

pub loop-place-preserved : goal.loop-place-preserved
loop-place-preserved c =
    let cs = c.args.components.now in
    let i = c.loop-place.place in
    let x = c.index-components-place.result in
    let f : List ℕ → List ℕ = λ service. listed_if (server_among cs x service) in
    used_next (λ v. v.items) c.loop-place.all.items c.in_ok-used_by.field-0 c.push.new.self.items (used_of cs) cs i x c.in_ok-push.ensures.items
    (c.in_ok-used_by.ensures
    ∙ ap (all_found f) (c.as_slice-opened.ensures.value
    ∙ same_item (λ v. v.items) services c.args.opened.now cs i c.index-opened-place.result x c.requires.own c.loop-place-test.true
    c.index-opened-place.is c.index-components-place.is)) c.loop-place-test.true c.index-components-place.is c.loop-place.invariant

pub returns : goal.returns
returns c = all_there _ _ _ c.loop-place.invariant (used_end (used_of c.args.components.now) c.args.components.now c.loop-place.place c.loop-place-test.false)
