use Rattle.std.proofs.Common.{◌≡◌, sym, ap, ◌∙◌, arith}
use Rattle.gq_trade.specs.Queues.{place_to}
use Rattle.gq_trade.proofs.Oldest_request_position.{none_before, none_at_all, blank}
use Rattle.gq_trade.proofs.requests.Requests.place_to.Goals as goal

pub returns-then-requests-k : goal.returns-then-requests-k
returns-then-requests-k c =
    let rs = c.as_slice-requests.result.now in let k = c.loop-k.k in
    let e : rs ≡ c.args.self.now = c.as_slice-requests.ensures.value ∙ c.self.view_is in
    sym (none_before c.args.server rs k blank (λ j lt. c.loop-k.invariant j blank lt) c.loop-k-test.true c.if-requests-k.true) ∙ ap (place_to c.args.server) e

pub returns : goal.returns
returns c =
    let rs = c.as_slice-requests.result.now in
    let e : rs ≡ c.args.self.now = c.as_slice-requests.ensures.value ∙ c.self.view_is in
    sym (none_at_all c.args.server rs blank (λ j lt. c.loop-k.invariant j blank (omega (arith, lt, c.loop-k-test.false)))) ∙ ap (place_to c.args.server) e
