-- The request of a session.
use Rattle.std.proofs.Common.{◌+◌, sym, ap, ◌∙◌, drop}
use Rattle.std.proofs.lemmas.List.{at_drop_all, at_drop_more}
use Rattle.gq_trade.specs.Queues.{request_of}
use Rattle.gq_trade.proofs.Oldest_request_position.{blank, request_further, request_here}
use Rattle.gq_trade.proofs.requests.Requests.of_session.Goals as goal

pub returns : goal.returns
returns c =
    let rs = c.as_slice-requests.result.now in
    sym (at_drop_all (request_of c.args.session) rs c.loop-k.k c.loop-k-test.false) ∙ c.loop-k.invariant
    ∙ ap (request_of c.args.session) (c.as_slice-requests.ensures.value ∙ c.self.view_is)

pub returns-then-requests-k : goal.returns-then-requests-k
returns-then-requests-k c =
    let rs = c.as_slice-requests.result.now in
    sym (at_drop_more (request_of c.args.session) rs c.loop-k.k blank c.loop-k-test.true
    ∙ request_here c.args.session _ (drop (c.loop-k.k + 1) rs) c.if-requests-k.true) ∙ c.loop-k.invariant
    ∙ ap (request_of c.args.session) (c.as_slice-requests.ensures.value ∙ c.self.view_is)

pub loop-k-preserved : goal.loop-k-preserved
loop-k-preserved c =
    let rs = c.as_slice-requests.result.now in
    sym (at_drop_more (request_of c.args.session) rs c.loop-k.k blank c.loop-k-test.true
    ∙ request_further c.args.session _ (drop (c.loop-k.k + 1) rs) c.if-requests-k.false) ∙ c.loop-k.invariant
