use Rattle.std.proofs.Common.{ℕ, List, map, sym, ◌∙◌}
use Rattle.gq_program.specs.Name_keys.{key_of}
use Rattle.gq_resolve.proofs.Names_by_key.{length_keys}
use Rattle.gq_resolve.proofs.Keyed_names_found.{first_among, last_among}
use Rattle.gq_resolve.proofs.opened_services.is_among.Goals as goal

pub loop-place-init : goal.loop-place-init
loop-place-init c =
    let all = c.args.services.now in
    sym (first_among c.args.service.now all c.args.key c.range-first.result.0 c.range-first.result.1 c.requires.key
    (c.range-first.ensures.within (map key_of all) c.requires.places (length_keys (λ (s : List ℕ). s) all)))

pub returns : goal.returns
returns c =
    let all = c.args.services.now in
    sym (c.loop-place.invariant ∙ last_among c.args.service.now all c.args.key c.range-first.result.0 c.range-first.result.1 c.requires.key
    (c.range-first.ensures.within (map key_of all) c.requires.places (length_keys (λ (s : List ℕ). s) all)) c.loop-place.place c.loop-place-test.false)
