use Rattle.std.proofs.Common.{List, length, ap, sym, subst, ◌∙◌}
use Rattle.gq_model.specs.machine.Scenario.{Component}
use Rattle.gq_program.specs.Name_keys.{AreWithin, key_of}
use Rattle.gq_resolve.specs.internal.Search_keys.{name_keys}
use Rattle.gq_resolve.proofs.Names_by_key.{length_keys}
use Rattle.gq_resolve.proofs.Keyed_names_found.{first_number, last_number}
use Rattle.gq_resolve.proofs.leaf_names.LeafNames.numbered.Goals as goal

pub loop-place-init : goal.loop-place-init
loop-place-init c =
    let all = c.args.self.now in
    let reported = subst (λ (l : List Component). AreWithin c.self.inside.places (name_keys l)) c.self.view_is c.self.invariant in
    let many = length_keys (λ (c : Component). c.node.name) all ∙ ap (λ (l : List Component). length l) (sym c.self.view_is) in
    let key = c.key_of-key.ensures ∙ ap key_of c.as_bytes.ensures.bytes in
    sym (first_number c.args.name.now all c.key_of-key.result c.range-first.result.0 c.range-first.result.1 key
    (c.range-first.ensures.within (name_keys all) reported many))

pub returns : goal.returns
returns c =
    let all = c.args.self.now in
    let reported = subst (λ (l : List Component). AreWithin c.self.inside.places (name_keys l)) c.self.view_is c.self.invariant in
    let many = length_keys (λ (c : Component). c.node.name) all ∙ ap (λ (l : List Component). length l) (sym c.self.view_is) in
    let key = c.key_of-key.ensures ∙ ap key_of c.as_bytes.ensures.bytes in
    sym (c.loop-place.invariant ∙ last_number c.args.name.now all c.key_of-key.result c.range-first.result.0 c.range-first.result.1 key
    (c.range-first.ensures.within (name_keys all) reported many) c.loop-place.place c.loop-place-test.false)
