use Rattle.std.proofs.Common.{◌≡◌, drop}
use Rattle.gq_model.specs.machine.Lists.{any_of}
use Rattle.gq_verify.specs.Requested.{is_asked}
use Rattle.gq_budget.proofs.counted_leaves.CountedLeaf.asks_for.Given as goal

-- none so far does
abbrev pub invariant-loop-requests : goal.invariant-loop-requests
invariant-loop-requests l = any_of (is_asked l.service) (drop l.requests-index l.requests-items) ≡ any_of (is_asked l.service) l.requests-items
