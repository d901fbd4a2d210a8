use Rattle.std.proofs.Common.{◌≡◌, ◌<◌, List, length, get_or, Some, sym, ap, ◌∙◌, arith}
use Rattle.gq_trade.specs.declared.requests.Request.{Request}
use Rattle.std.specs.List.{remove}
use Rattle.gq_trade.specs.Queues.{place_to}
use Rattle.gq_trade.proofs.Oldest_request_position.{blank, no_place, at_place, place_within}
use Rattle.gq_trade.proofs.requests.Requests.oldest.Goals as goal

pub returns-then-place-len-clause-none : goal.returns-then-place-len-clause-none
returns-then-place-len-clause-none c =
    no_place c.args.server c.args.self.now (sym c.place_to-place.ensures ∙ c.if-place-len.true ∙ c.len.ensures.value ∙ ap length c.self.view_is)

pub bounds-as_slice-place : goal.bounds-as_slice-place
bounds-as_slice-place c =
    let w = place_within c.args.server c.args.self.now in
    omega (arith, w, c.place_to-place.ensures, c.if-place-len.false, c.len.ensures.value, ap length c.self.view_is, ap length c.as_slice.ensures.value)

pub offset_bounds-as_slice-place : goal.offset_bounds-as_slice-place
offset_bounds-as_slice-place c =
    let w = place_within c.args.server c.args.self.now in
    record {
      fits = omega (
        arith,
        w,
        c.place_to-place.ensures,
        c.if-place-len.false,
        c.len.ensures.value,
        ap length c.self.view_is,
        ap length c.as_slice.ensures.value,
        c.as_slice.ensures.fits,
      );
    }

pub returns-clause-some : goal.returns-clause-some
returns-clause-some c =
    let rs = c.args.self.now in let k = c.place_to-place.result in
    let w = place_within c.args.server rs in
    let lt : place_to c.args.server rs < length rs = omega
    (arith, w, c.place_to-place.ensures, c.if-place-len.false, c.len.ensures.value, ap length c.self.view_is) in
    let v : c.as_slice.result.now ≡ rs = c.as_slice.ensures.value ∙ c.self.view_is in
    let same : get_or rs (place_to c.args.server rs) blank ≡ get_or c.as_slice.result.now k blank =
    sym (ap (λ (xs : List Request). get_or xs k blank) v ∙ ap (λ i. get_or rs i blank) c.place_to-place.ensures) in
    record {
      rest = remove rs (place_to c.args.server rs);
      is = at_place c.args.server rs blank lt
          ∙ (λ i. Some (same i, remove rs (place_to c.args.server rs)));
    }
