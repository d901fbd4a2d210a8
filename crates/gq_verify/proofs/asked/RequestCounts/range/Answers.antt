use Rattle.std.proofs.Common.{arith, ◌≡◌, List, length, ap, subst}
use Rattle.gq_verify.specs.Requested.{Requested}
use Rattle.gq_program.specs.Name_keys.{AreWithin}
use Rattle.gq_verify.specs.internal.Service_keys.{keys_of}
use Rattle.gq_verify.proofs.Service_name_keys.{length_keys, outside}
use Rattle.gq_verify.proofs.asked.RequestCounts.range.Goals as goal

pub returns-clause-outside : goal.returns-clause-outside
returns-clause-outside c =
    let all = c.args.self.now in
    let within = subst (λ (l : List Requested). AreWithin c.self.inside.places (keys_of l)) c.self.view_is c.self.invariant in
    let many : length (keys_of all) ≡ c.len.result =
    omega (arith, length_keys all, c.len.ensures, ap (λ (l : List Requested). length l) c.self.view_is) in
    outside all c.args.service.now c.key.result c.range.result.0 c.range.result.1 c.key.ensures
    (c.range.ensures.within (keys_of all) within many)
