use Rattle.std.proofs.Common.{arith, ◌≡◌, ℕ, ◌++◌, ◌∷◌, [], List, length, ap, sym, subst, ◌∙◌}
use Rattle.gq_verify.specs.Requested.{Requested}
use Rattle.gq_program.specs.Name_keys.{key_of}
use Rattle.gq_program.specs.Name_keys.{AreWithin}
use Rattle.gq_verify.specs.internal.Service_keys.{keys_of}
use Rattle.gq_verify.proofs.Summed_section_requests.{requests_push}
use Rattle.gq_verify.proofs.Service_name_keys.{keys_push, length_keys}
use Rattle.gq_verify.proofs.asked.RequestCounts.push.Goals as goal

pub invariant_of-self-2 : goal.invariant_of-self-2
invariant_of-self-2 c =
    let entries = c.self.inside.entries.items in
    let a : Requested = record { service = c.in_ok-name.name.items; section = c.args.section; count = c.args.count } in
    let key = c.key.ensures ∙ ap key_of (sym (c.in_ok-name.ensures.ok ∙ c.name.ensures)) in
    let all = ap (λ (l : List Requested). l ++ a ∷ []) (sym c.reserve.ensures.items) ∙ sym c.push_reserved.ensures.items in
    let many : length (keys_of entries) ≡ c.len.result =
    omega (arith, length_keys entries, c.len.ensures, ap (λ (l : List Requested). length l) c.reserve.ensures.items) in
    let reported = ap (λ (k : ℕ). keys_of entries ++ k ∷ []) key ∙ (sym (keys_push entries a) ∙ ap keys_of all) in
    subst (λ (l : List ℕ). AreWithin c.put.new.self l) reported (c.put.ensures (keys_of entries) c.self.invariant many)

pub returns : goal.returns
returns c = λ v r.
    requests_push c.args.self.now c.reserve.new.self.items c.push_reserved.new.self.items c.in_ok-name.name.items c.args.service.now c.args.section
    c.args.count v r (sym c.self.view_is ∙ sym c.reserve.ensures.items) (c.in_ok-name.ensures.ok ∙ c.name.ensures) c.push_reserved.ensures.items
