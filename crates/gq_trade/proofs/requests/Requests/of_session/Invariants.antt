use Rattle.std.proofs.Common.{◌≡◌, drop}
use Rattle.gq_trade.specs.Queues.{request_of}
use Rattle.gq_trade.proofs.requests.Requests.of_session.Given as goal

abbrev pub invariant-loop-k : goal.invariant-loop-k
invariant-loop-k l = request_of l.session (drop l.k l.requests) ≡ request_of l.session l.requests
