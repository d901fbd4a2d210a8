use Rattle.std.proofs.Common.{◌≡◌, ◌<◌, List, length, get_or, Some, refl, sym, ap, ◌∙◌, arith}
use Rattle.gq_trade.specs.declared.requests.Request.{Request}
use Rattle.std.specs.List.{remove}
use Rattle.gq_trade.specs.Queues.{place_to}
use Rattle.gq_trade.proofs.Oldest_request_position.{no_place, at_place, place_within}
use Rattle.gq_trade.proofs.requests.Requests.take_oldest.Goals as goal

pub returns-then-place-len-clause-none : goal.returns-then-place-len-clause-none
returns-then-place-len-clause-none c =
    (no_place c.args.server c.args.self.now (sym c.place_to-place.ensures ∙ c.if-place-len.true ∙ c.len.ensures.value ∙ ap length c.self.view_is), refl)

pub remove-requires : goal.remove-requires
remove-requires c =
    let w = place_within c.args.server c.args.self.now in
    omega (arith, w, c.place_to-place.ensures, c.if-place-len.false, c.len.ensures.value, ap length c.self.view_is)

pub returns-clause-some : goal.returns-clause-some
returns-clause-some c =
    let rs = c.args.self.now in let k = c.place_to-place.result in
    let w = place_within c.args.server rs in
    let lt : place_to c.args.server rs < length rs = omega
    (arith, w, c.place_to-place.ensures, c.if-place-len.false, c.len.ensures.value, ap length c.self.view_is) in
    let v : c.self.inside.requests.items ≡ rs = c.self.view_is in
    let value = c.remove.ensures.value ∙ ap (λ (xs : List Request). get_or xs k c.remove.result) v
    ∙ ap (λ i. get_or rs i c.remove.result) c.place_to-place.ensures in
    let items = c.remove.ensures.items ∙ ap (λ (xs : List Request). remove xs k) v ∙ ap (λ i. remove rs i) c.place_to-place.ensures in
    at_place c.args.server rs c.remove.result lt ∙ (λ i. Some (sym value i, sym items i))
