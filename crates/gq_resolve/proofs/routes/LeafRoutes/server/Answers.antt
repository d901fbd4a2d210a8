use Rattle.std.proofs.Common.{arith, ◌≡◌, ℕ, List, length, ap, sym, subst, ◌∙◌}
use Rattle.gq_program.specs.Name_keys.{AreWithin, key_of}
use Rattle.gq_resolve.specs.internal.Search_keys.{route_keys}
use Rattle.gq_resolve.proofs.Names_by_key.{length_keys}
use Rattle.gq_resolve.proofs.Keyed_names_found.{first_route, last_route}
use Rattle.gq_resolve.proofs.routes.LeafRoutes.server.Goals as goal

pub loop-place-init : goal.loop-place-init
loop-place-init c =
    let all = c.args.self.now in
    let reported = subst (λ (l : List (List ℕ × ℕ)). AreWithin c.self.inside.places (route_keys l)) c.self.view_is c.self.invariant in
    let many : length (route_keys all) ≡ c.len.result =
    omega (arith, length_keys (λ (e : List ℕ × ℕ). e.0) all, c.len.ensures, ap (λ (l : List (List ℕ × ℕ)). length l) c.self.view_is) in
    let key = c.key_of-key.ensures ∙ ap key_of c.as_bytes.ensures.bytes in
    sym (first_route c.args.service.now all c.key_of-key.result c.range-first.result.0 c.range-first.result.1 key
    (c.range-first.ensures.within (route_keys all) reported many))

pub returns : goal.returns
returns c =
    let all = c.args.self.now in
    let reported = subst (λ (l : List (List ℕ × ℕ)). AreWithin c.self.inside.places (route_keys l)) c.self.view_is c.self.invariant in
    let many : length (route_keys all) ≡ c.len.result =
    omega (arith, length_keys (λ (e : List ℕ × ℕ). e.0) all, c.len.ensures, ap (λ (l : List (List ℕ × ℕ)). length l) c.self.view_is) in
    let key = c.key_of-key.ensures ∙ ap key_of c.as_bytes.ensures.bytes in
    sym (c.loop-place.invariant ∙ last_route c.args.service.now all c.key_of-key.result c.range-first.result.0 c.range-first.result.1 key
    (c.range-first.ensures.within (route_keys all) reported many) c.loop-place.place c.loop-place-test.false)
