use Rattle.std.proofs.Common.{◌≡◌, ◌++◌, drop}
use Rattle.gq_outcomes.specs.internal.Key_parts.{kept_request_key}
use Rattle.gq_outcomes.specs.internal.Keys.{each_key, list_key}
use Rattle.gq_outcomes.proofs.key.push_all_requests.Given as goal

-- the bytes so far, with those of the requests that are left, are all
abbrev pub invariant-loop-request : goal.invariant-loop-request
invariant-loop-request l =
    let key = kept_request_key l.order in
    l.key.items ++ each_key key (drop l.request-index l.requests) ≡ l.fn.key.items ++ list_key key l.requests
